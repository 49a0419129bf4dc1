-- A loop over the parts of a row, which ends where the count has come to the limit.
use native.Mathlib.Omega.{arith}
use Rattle.raster_emitted.proofs.Listing.{listing_start, listing_by, listing_stop, listing_done}
use Rattle.raster_emitted.proofs.rows.list_row.Goals as goal

pub loop-x-init : goal.loop-x-init
loop-x-init c = (omega arith, c.requires.inside.0, listing_start _ _ _)

pub returns-then-slots : goal.returns-then-slots
returns-then-slots c = let l = c.loop-x.invariant in listing_stop _ _ l.0 l.2 l.1 c.if-slots.true

pub loop-x-preserved : goal.loop-x-preserved
loop-x-preserved c =
    let l = c.loop-x.invariant in
    let n = c.part_end-next.ensures in
    (omega (arith, l.0, n.within.0), n.within.1, listing_by _ _ l.0 l.2 (omega (arith, n.within.0)) c.list_part.ensures)

pub returns : goal.returns
returns c = let l = c.loop-x.invariant in listing_done _ _ l.0 l.2 c.loop-x-test.false l.1
