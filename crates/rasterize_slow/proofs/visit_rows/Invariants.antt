use Rattle.std.specs.Prelude.{◌≤◌}
use Rattle.raster_pixel.specs.Parts.{from}
use Rattle.rasterize_slow.specs.Shape.{walk_of, row_emits}
use Rattle.rasterize_slow.specs.Sent.{Sent}
use Rattle.rasterize_slow.proofs.visit_rows.Given as goal

abbrev pub invariant-loop-y : goal.invariant-loop-y
invariant-loop-y g l =
    let v = walk_of (g.S.Sink.view l.initial.sink) l.fn.shapes in
    record {
      from_top : v.area.top ≤ l.y;
      to_bottom : l.y ≤ v.area.bottom;
      sent : Sent (g.S.Sink.took l.fn.shapes) (from (row_emits v l.fn.shape) v.area.top l.y) l.initial.sink l.sink l.n;
    }
