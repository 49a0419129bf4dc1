use native.Mathlib.Nat.{le_trans}
use native.Mathlib.Omega.{arith}
use Rattle.raster_pixel.specs.Parts.{from}
use Rattle.frame_paint.specs.Row.{row_at}
use Rattle.frame_paint.proofs.Drawing.{drew_as, drawing_by_fits, drawing_by, drawing_done}
use Rattle.frame_paint.proofs.Joins.{row_most}
use Rattle.frame_paint.proofs.rows.draw_row.Goals as goal

pub overflow_add-n : goal.overflow_add-n
overflow_add-n c =
    let a = c.args in
    let n = c.part_end-next.ensures.within in
    omega (
      arith,
      le_trans (drawing_by_fits _ _ _ _ _ _ (omega (arith, n.0)) n.1 c.loop-x.invariant c.draw_part-n.ensures)
          (row_most a.paint.now a.shades _ a.target.now.view.width a.y a.start a.end),
      c.requires.there.1,
      a.target.now.view.sized.width_small,
    )

pub loop-x-preserved : goal.loop-x-preserved
loop-x-preserved c =
    let n = c.part_end-next.ensures.within in
    drawing_by _ _ _ _ _ _ (omega (arith, n.0)) n.1 c.loop-x.invariant c.draw_part-n.ensures

pub returns : goal.returns
returns c =
    let a = c.args in
    drew_as (λ i. from (row_at a.paint.now a.shades (c.new-row.ensures.edges i) a.target.now.view.width a.y) a.start a.end)
    (drawing_done _ _ _ _ _ _ c.loop-x-test.false c.loop-x.invariant)
