use Rattle.std.specs.Prelude.{ℕ}
use Rattle.raster_pixel.specs.Admitted.{triangle_at}
use Rattle.raster_pixel.specs.Parts.{from}
use Rattle.rasterize_slow.specs.Shape.{walk_of, shape_emits, three_shape}
use Rattle.rasterize_slow.specs.Sent.{Sent}
use Rattle.rasterize_slow.proofs.visit_triangles.Given as goal

abbrev pub invariant-loop-i : goal.invariant-loop-i
invariant-loop-i g l =
    let d = l.fn.shapes in
    Sent (g.S.Sink.took d)
    (from (λ (j : ℕ). shape_emits (walk_of (g.S.Sink.view l.initial.sink) d) (three_shape d.cull (triangle_at d.lists.vertices.now d.lists.present.now d.lists.indices.now j))) 0 l.i)
    l.initial.sink l.sink l.n
