-- A loop over the rows that have samples, which ends where the count has come to the limit.
use native.Mathlib.Omega.{arith}
use Rattle.raster_emitted.proofs.Lines.{row_kept}
use Rattle.raster_emitted.proofs.Listing.{listed_as, listing_start, listing_more, listing_stop, listing_done}
use Rattle.raster_emitted.proofs.Triangles.{shape_rows}
use Rattle.raster_emitted.proofs.rows.list_shape.Goals as goal

pub loop-y-init : goal.loop-y-init
loop-y-init c = (c.rows-rows.ensures.order, listing_start _ _ _)

pub returns-then-slots : goal.returns-then-slots
returns-then-slots c =
    let a = c.args in
    let v = a.slots.now.view in
    let l = c.loop-y.invariant in
    listed_as (shape_rows a.antialias a.t v.scissor v.width v.height c.area-area.ensures.value c.rows-rows.ensures) (listing_stop _ _ c.loop-y.auto.y l.1 l.0 c.if-slots.true)

pub loop-y-preserved : goal.loop-y-preserved
loop-y-preserved c =
    let a = c.args in
    let r = c.area-area.result in (
      omega (arith, c.loop-y-test.true),
      listing_more _ _ c.loop-y.auto.y c.loop-y.invariant.1 (listed_as (row_kept a.antialias a.t a.slots.now.view.width r.left r.right _ c.new.ensures.edges c.edges_at-edges.ensures c.bounds-kept.ensures.kept) c.list_row.ensures),
    )

pub returns : goal.returns
returns c =
    let a = c.args in
    let v = a.slots.now.view in
    let l = c.loop-y.invariant in
    listed_as (shape_rows a.antialias a.t v.scissor v.width v.height c.area-area.ensures.value c.rows-rows.ensures) (listing_done _ _ c.loop-y.auto.y l.1 c.loop-y-test.false l.0)
