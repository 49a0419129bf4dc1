-- The triangles up to i are listed.
use Rattle.std.proofs.Common.{ℕ}
use Rattle.raster_pixel.specs.Admitted.{triangle_at}
use Rattle.raster_pixel.specs.Parts.{from}
use Rattle.raster_emitted.specs.Shapes.{three_masks}
use Rattle.raster_emitted.specs.Listed.{ListedIn}
use Rattle.raster_emitted.proofs.list_triangles.Given as goal

abbrev pub invariant-loop-i : goal.invariant-loop-i
invariant-loop-i l =
    let d = l.fn.shapes in
    let v = l.fn.slots.view in
    let triangle : ℕ → _ = triangle_at d.lists.vertices.now d.lists.present.now d.lists.indices.now in
    ListedIn (from (λ (i : ℕ). three_masks d.mode.antialias d.cull v.scissor v.width v.height (triangle i)) 0 l.i) l.fn.slots l.slots
