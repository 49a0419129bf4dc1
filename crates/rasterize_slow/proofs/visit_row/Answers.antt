use Rattle.std.proofs.Common.{refl, sym, ap, subst, arith, ◌<◌}
use Rattle.raster_pixel.specs.declared.Area.{Area}
use Rattle.raster_pixel.specs.declared.view.View.{View}
use Rattle.raster_pixel.specs.Parts.{from}
use Rattle.raster_pixel.proofs.Inside.{bounded}
use Rattle.rasterize_slow.specs.Shape.{walk_of, pixel_emits}
use Rattle.rasterize_slow.proofs.Sending.{sent_as, sending_start, sending_more, sending_done, area_same}
use Rattle.rasterize_slow.proofs.visit_row.Goals as goal

pub loop-x-init : goal.loop-x-init
loop-x-init g c =
    let a = c.args in
    let d = a.shapes.now in
    let u = g.S.Sink.view a.sink.now in
    let left = ap (λ (r : Area). r.left) (area_same c.view.ensures c.area-area.ensures.value) in
    record {
      from_left = omega (arith, left);
      to_right = omega (arith, left, (bounded u.scissor u.width u.height refl).across);
      sent = sending_start (pixel_emits (walk_of u d) a.shape.now a.y) (walk_of u d).area.left (omega (arith, left)) (g.met.S.Sink.took_none d a.sink.now);
    }

-- the view is still the same
pub visit_pixel-requires-clause-place : goal.visit_pixel-requires-clause-place
visit_pixel-requires-clause-place g c =
    let a = c.args in
    let d = a.shapes.now in
    let u = g.S.Sink.view a.sink.now in
    let es = from (pixel_emits (walk_of u d) a.shape.now a.y) (walk_of u d).area.left c.loop-x.x in
    let b = bounded u.scissor u.width u.height (area_same c.view.ensures c.area-area.ensures.value) in
    subst (λ (v : View). (c.loop-x.x < v.width) × (a.y < v.height)) (sym (g.met.S.Sink.same_view d es a.sink.now c.loop-x.sink c.loop-x.invariant.sent.taken)) (omega (arith, b.right_in), c.requires.row)

pub loop-x-preserved : goal.loop-x-preserved
loop-x-preserved g c =
    let a = c.args in
    let d = a.shapes.now in
    let u = g.S.Sink.view a.sink.now in
    let i = c.loop-x.invariant in
    let x = c.loop-x.x in
    let left = (walk_of u d).area.left in
    let es = from (pixel_emits (walk_of u d) a.shape.now a.y) left x in
    let same = g.met.S.Sink.same_view d es a.sink.now c.loop-x.sink i.sent.taken in
    let right = ap (λ (r : Area). r.right) (area_same c.view.ensures c.area-area.ensures.value) in
    record {
      from_left = omega (arith, i.from_left);
      to_right = omega (arith, right);
      sent = sending_more (pixel_emits (walk_of u d) a.shape.now a.y) left (g.met.S.Sink.took_then d) c.saturating_add-n.ensures i.from_left i.sent
          (sent_as (ap (λ (v : View). pixel_emits (walk_of v d) a.shape.now a.y x) same) c.visit_pixel.ensures.sent);
    }

pub returns : goal.returns
returns g c =
    let a = c.args in
    let u = g.S.Sink.view a.sink.now in
    let right = ap (λ (r : Area). r.right) (area_same c.view.ensures c.area-area.ensures.value) in
    record { sent = sending_done (pixel_emits (walk_of u a.shapes.now) a.shape.now a.y) (walk_of u a.shapes.now).area.left (omega (arith, right, c.loop-x.invariant.to_right)) c.loop-x.invariant.sent }
