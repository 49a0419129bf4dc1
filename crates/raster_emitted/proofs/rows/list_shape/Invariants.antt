-- The rows up to y are listed.
use Rattle.std.proofs.Common.{◌≤◌}
use Rattle.raster_pixel.specs.Parts.{from}
use Rattle.raster_emitted.specs.Shapes.{line_masks}
use Rattle.raster_emitted.specs.Listed.{ListedIn}
use Rattle.raster_emitted.proofs.rows.list_shape.Given as goal

abbrev pub invariant-loop-y : goal.invariant-loop-y
invariant-loop-y l =
    (l.y ≤ l.y-end) × ListedIn (from (line_masks l.antialias l.t l.fn.slots.view.width l.area.left l.area.right) l.initial.y l.y) l.fn.slots l.slots
