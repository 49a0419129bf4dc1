use Rattle.std.proofs.Common.{ap, arith}
use native.Mathlib.Nat.{le_trans}
use Rattle.frame_paint.proofs.Drawing.{drawing_start, drawing_fits, drawing_more, drawing_done}
use Rattle.rasterize.proofs.Kept.{row_none, row_drawn_on, rows_most, row_skipped}
use Rattle.rasterize.proofs.Shapes.{rows_drawn_on}
use Rattle.rasterize.proofs.rows.draw_shape.Goals as goal
use Rattle.rasterize.proofs.rows.draw_shape.Goals.{then-kept, else-kept}

pub loop-y-init : goal.loop-y-init
loop-y-init c = drawing_start _ _ _ _ _ _

pub draw_row-n-requires-clause-there : goal.draw_row-n-requires-clause-there
draw_row-n-requires-clause-there c =
    let s = c.loop-y.invariant.same.view in
    let wide = ap (λ v. v.width) s in
    let high = ap (λ v. v.height) s in
    (omega (arith, c.rows-rows.ensures.to, c.area-area.ensures.bounded.bottom_in), omega (arith, c.bounds-kept.ensures.kept.to, c.area-area.ensures.bounded.right_in))

pub overflow_add-n : goal.overflow_add-n
overflow_add-n c =
    let a = c.args in
    let area = c.area-area.result in
    let v = c.loop-y.target.view in
    let row = row_drawn_on a.paint.now a.shading a.shape v.width area.left area.right _ c.edges_at-edges.ensures c.bounds-kept.ensures.kept c.shades_on-shades.ensures c.draw_row-n.ensures in
    let b = c.area-area.ensures.bounded in
    let s = a.target.now.view.sized in
    omega (
      arith,
      le_trans (drawing_fits _ _ _ _ _ _ c.loop-y-test.true c.loop-y.invariant row)
          (rows_most a.paint.now a.shading a.shape a.target.now.view.width area.left area.right (omega (arith, b.right_in, s.width_small)) c.rows-rows.result.start c.rows-rows.result.end),
      c.rows-rows.ensures.to,
      b.bottom_in,
      s.height_small,
    )

pub loop-y-preserved : goal.loop-y-preserved
loop-y-preserved c =
    let a = c.args in
    let l = c.area-area.result.left in
    let r = c.area-area.result.right in
    let e = c.edges_at-edges.ensures in
    let k = c.bounds-kept.ensures.kept in
    let w = c.loop-y.target.view.width in
    elim c.if-kept.branch [
      | then-kept t ↦
          rw (t.target-is, t.n-is)
          (drawing_more _ _ _ _ _ _ c.loop-y-test.true c.loop-y.invariant
          (row_drawn_on a.paint.now a.shading a.shape w l r _ e k t.shades_on-shades.ensures t.draw_row-n.ensures))
      | else-kept t ↦ rw (t.target-is, t.n-is) (row_skipped _ _ _ _ _ _ c.loop-y-test.true c.loop-y.invariant (row_none a.paint.now a.shading a.shape w l r _ e k t.if-kept.false))
    ]

pub returns : goal.returns
returns c = let a = c.args in
    rows_drawn_on a.paint.now a.shading a.shape a.target.now.view c.area-area.ensures.value c.rows-rows.ensures (drawing_done _ _ _ _ _ _ c.loop-y-test.false c.loop-y.invariant)
