-- A loop over the triangles of a list, which ends where the count has come to the limit.
use mathlib.Core.Path.{sym, ap, subst, ◌∙◌}
use native.Mathlib.Omega.{arith}
use mathlib.Core.List.{List}
use Rattle.std.specs.Prelude.{Option}
use Rattle.raster_vertex.specs.declared.Vertex.{Vertex}
use Rattle.raster_edges.specs.declared.Tri.{Tri}
use Rattle.raster_pixel.specs.declared.view.View.{View}
use Rattle.raster_pixel.specs.Admitted.{triangle_at}
use Rattle.raster_emitted.specs.Masked.{Masked}
use Rattle.raster_emitted.specs.declared.slots.Slots.{Slots}
use Rattle.raster_emitted.specs.Listed.{ListedIn}
use Rattle.raster_emitted.specs.Shapes.{three_masks, set_up_masks}
use Rattle.raster_emitted.proofs.Listing.{listed_none, listed_as, listing_start, listing_more, listing_stop, listing_done}
use Rattle.raster_emitted.proofs.Triangles.{set_up_masks-by}
use Rattle.raster_emitted.proofs.list_triangles.Goals as goal
use Rattle.raster_emitted.proofs.list_triangles.Goals.{in-Some, in_default}

pub loop-i-init : goal.loop-i-init
loop-i-init c = listing_start _ 0 _

pub returns-then-slots : goal.returns-then-slots
returns-then-slots c = listing_stop _ _ (omega arith) c.loop-i.invariant c.loop-i.auto.i-end c.if-slots.true

pub loop-i-preserved : goal.loop-i-preserved
loop-i-preserved c =
    let d = c.args.shapes.now in
    let v = c.args.slots.now.view in
    let i = c.loop-i.i in
    let t = triangle_at d.lists.vertices.now d.lists.present.now d.lists.indices.now i in
    let same = set_up_masks-by d.mode.antialias d.cull v.scissor v.width v.height t in
    let masks : View → Option (Tri × List Vertex) → List Masked = λ v. set_up_masks d.mode.antialias v.scissor v.width v.height in
    let listed = λ (s : Slots). ListedIn (three_masks d.mode.antialias d.cull v.scissor v.width v.height t) c.loop-i.slots s in
    listing_more _ 0 (omega arith) c.loop-i.invariant
    (elim c.match-set_up.branch [
      | in-Some w ↦ subst listed (sym w.slots-is) (listed_as ((λ i. masks (c.loop-i.invariant.view i) ((sym w.in-Some.is ∙ c.set_up.ensures.value) i)) ∙ same) w.list_shape.ensures)
      | in_default w ↦ subst listed (sym w.slots-is) (listed_as (ap (masks v) (sym w.in_default.is ∙ c.set_up.ensures.value) ∙ same) (listed_none _))
    ])

pub returns : goal.returns
returns c = listing_done _ _ (omega arith) c.loop-i.invariant c.loop-i-test.false c.loop-i.auto.i-end
