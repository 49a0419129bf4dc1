use Rattle.std.proofs.Common.{List, Option, ℕ, ap, arith, ◌∙◌}
use Rattle.std.proofs.lemmas.Grind.{common_steps}
use Rattle.raster_pixel.specs.declared.shapes.Shapes.{Shapes}
use Rattle.raster_pixel.specs.declared.view.View.{View}
use Rattle.raster_pixel.specs.Admitted.{triangle_at}
use Rattle.raster_pixel.specs.Emitted.{Emit}
use Rattle.raster_pixel.specs.Parts.{from}
use Rattle.rasterize_slow.specs.declared.Shape.{Shape}
use Rattle.rasterize_slow.specs.Shape.{walk_of, shape_emits, three_shape}
use Rattle.rasterize_slow.proofs.Sending.{sent_as, sending_start, sending_more}
use Rattle.rasterize_slow.proofs.visit_triangles.Goals as goal

-- triangle i of a draw
abbrev shape_at : Shapes → ℕ → Option Shape
shape_at d i = three_shape d.cull (triangle_at d.lists.vertices.now d.lists.present.now d.lists.indices.now i)

pub loop-i-init : goal.loop-i-init
loop-i-init g c =
    let d = c.args.shapes.now in
    sending_start (λ (i : ℕ). shape_emits (walk_of (g.S.Sink.view c.args.sink.now) d) (shape_at d i)) 0 {i = 0} (omega arith) (g.met.S.Sink.took_none d c.args.sink.now)

-- the counts' sum is left to `grind`, so that any way to reckon it is proved, and a wrong one is refused for its value
pub loop-i-preserved : goal.loop-i-preserved
loop-i-preserved g c =
    let d = c.args.shapes.now in
    let walk = walk_of (g.S.Sink.view c.args.sink.now) d in
    let emitted : ℕ → List Emit = λ i. shape_emits walk (shape_at d i) in
    let same = g.met.S.Sink.same_view d (from emitted 0 c.loop-i.i) c.args.sink.now c.loop-i.sink c.loop-i.invariant.taken in
    sending_more emitted 0 (g.met.S.Sink.took_then d) (grind (arith, common_steps)) (omega arith) c.loop-i.invariant
    (sent_as (ap (λ (v : View). shape_emits (walk_of v d) c.indexed-shape.result) same ∙ ap (shape_emits walk) {y = shape_at d c.loop-i.i} c.indexed-shape.ensures.shape) c.visit_rows.ensures.sent)
