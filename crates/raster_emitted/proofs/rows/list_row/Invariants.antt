-- The pixels of the row up to x are listed.
use Rattle.std.proofs.Common.{◌-◌, ◌≤◌}
use Rattle.raster_pixel.specs.Parts.{from}
use Rattle.raster_emitted.specs.Shapes.{row_masks}
use Rattle.raster_emitted.specs.Listed.{ListedIn}
use Rattle.raster_emitted.proofs.rows.list_row.Given as goal

abbrev pub invariant-loop-x : goal.invariant-loop-x
invariant-loop-x l =
    (l.start ≤ l.x) × (l.x ≤ l.end)
    × ListedIn (from (row_masks l.line.antialias l.line.row.edges l.line.width l.line.y) l.start l.x) l.fn.slots l.slots

abbrev pub decreases-loop-x : goal.decreases-loop-x
decreases-loop-x l = l.end - l.x
