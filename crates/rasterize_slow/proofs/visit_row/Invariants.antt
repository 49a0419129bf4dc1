use Rattle.std.specs.Prelude.{◌≤◌}
use Rattle.raster_pixel.specs.Parts.{from}
use Rattle.rasterize_slow.specs.Shape.{walk_of, pixel_emits}
use Rattle.rasterize_slow.specs.Sent.{Sent}
use Rattle.rasterize_slow.proofs.visit_row.Given as goal

abbrev pub invariant-loop-x : goal.invariant-loop-x
invariant-loop-x g l =
    let v = walk_of (g.S.Sink.view l.initial.sink) l.fn.shapes in
    record {
      from_left : v.area.left ≤ l.x;
      to_right : l.x ≤ v.area.right;
      sent : Sent (g.S.Sink.took l.fn.shapes) (from (pixel_emits v l.fn.shape l.y) v.area.left l.x) l.initial.sink l.sink l.n;
    }
