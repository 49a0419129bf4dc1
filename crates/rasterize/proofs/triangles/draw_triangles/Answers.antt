use Rattle.std.proofs.Common.{◌/◌, length, arith}
use native.Mathlib.Nat.{le_trans}
use Rattle.raster_pixel.specs.Admitted.{triangle_at}
use Rattle.raster_pixel.proofs.Counts.{triangles_most}
use Rattle.frame_paint.proofs.Paints.{all_colored}
use Rattle.frame_paint.proofs.Drawing.{drawing_fits, drawing_more, drawing_done}
use Rattle.rasterize.proofs.triangles.draw_triangles.Goals as goal

pub draw_triangle-drawn-requires-clause-flat : goal.draw_triangle-drawn-requires-clause-flat
draw_triangle-drawn-requires-clause-flat c = all_colored _ c.args.paint.now.colored c.uses_shade.ensures

pub overflow_add-n : goal.overflow_add-n
overflow_add-n c =
    let p = c.args.paint.now in
    let s = c.args.shapes.now in
    let v = c.args.target.now.view in
    let l = s.lists in
    omega (
      arith,
      le_trans (drawing_fits _ _ _ _ _ _ c.loop-i-test.true c.loop-i.invariant c.draw_triangle-drawn.ensures)
          (triangles_most v.scissor v.sized.width_small v.sized.height_small p.mode p.combiner s.cull (triangle_at l.vertices.now l.present.now l.indices.now) (length l.indices.now / 3)),
      c.requires.few,
    )

pub loop-i-preserved : goal.loop-i-preserved
loop-i-preserved c = drawing_more _ _ _ _ _ _ c.loop-i-test.true c.loop-i.invariant c.draw_triangle-drawn.ensures

pub returns : goal.returns
returns c = drawing_done _ _ _ _ _ _ c.loop-i-test.false c.loop-i.invariant
