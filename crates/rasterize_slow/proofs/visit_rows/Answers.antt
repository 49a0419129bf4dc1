use Rattle.std.proofs.Common.{refl, sym, ap, subst, arith, ◌<◌}
use Rattle.raster_pixel.specs.declared.Area.{Area}
use Rattle.raster_pixel.specs.declared.view.View.{View}
use Rattle.raster_pixel.specs.Parts.{from}
use Rattle.raster_pixel.proofs.Inside.{bounded}
use Rattle.rasterize_slow.specs.Shape.{walk_of, row_emits}
use Rattle.rasterize_slow.proofs.Sending.{sent_as, sending_start, sending_more, area_same}
use Rattle.rasterize_slow.proofs.visit_rows.Goals as goal

pub loop-y-init : goal.loop-y-init
loop-y-init g c =
    let d = c.args.shapes.now in
    let u = g.S.Sink.view c.args.sink.now in
    let top = ap (λ (r : Area). r.top) (area_same c.view.ensures c.area-area.ensures.value) in
    record {
      from_top = omega (arith, top);
      to_bottom = omega (arith, top, (bounded u.scissor u.width u.height refl).down);
      sent = sending_start (row_emits (walk_of u d) c.args.shape.now) (walk_of u d).area.top (omega (arith, top)) (g.met.S.Sink.took_none d c.args.sink.now);
    }

-- the view is still the same
pub visit_row-requires-clause-row : goal.visit_row-requires-clause-row
visit_row-requires-clause-row g c =
    let d = c.args.shapes.now in
    let u = g.S.Sink.view c.args.sink.now in
    let es = from (row_emits (walk_of u d) c.args.shape.now) (walk_of u d).area.top c.loop-y.y in
    let b = bounded u.scissor u.width u.height (area_same c.view.ensures c.area-area.ensures.value) in
    subst (λ (v : View). c.loop-y.y < v.height) (sym (g.met.S.Sink.same_view d es c.args.sink.now c.loop-y.sink c.loop-y.invariant.sent.taken)) (omega (arith, b.bottom_in))

pub loop-y-preserved : goal.loop-y-preserved
loop-y-preserved g c =
    let d = c.args.shapes.now in
    let u = g.S.Sink.view c.args.sink.now in
    let i = c.loop-y.invariant in
    let y = c.loop-y.y in
    let top = (walk_of u d).area.top in
    let es = from (row_emits (walk_of u d) c.args.shape.now) top y in
    let same = g.met.S.Sink.same_view d es c.args.sink.now c.loop-y.sink i.sent.taken in
    let bottom = ap (λ (r : Area). r.bottom) (area_same c.view.ensures c.area-area.ensures.value) in
    record {
      from_top = omega (arith, i.from_top);
      to_bottom = omega (arith, bottom);
      sent = sending_more (row_emits (walk_of u d) c.args.shape.now) top (g.met.S.Sink.took_then d) c.saturating_add-n.ensures i.from_top i.sent
          (sent_as (ap (λ (v : View). row_emits (walk_of v d) c.args.shape.now y) same) c.visit_row.ensures.sent);
    }
