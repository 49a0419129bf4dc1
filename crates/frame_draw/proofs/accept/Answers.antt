use Rattle.std.proofs.Common.{refl, sym, ap, ◌∙◌}
use Rattle.refused.specs.declared.Refusal.{Refusal}
use Rattle.refused.specs.Numbers.{number_of}
use Rattle.frame_draw.specs.Draw.{draw_of, Plan}
use Rattle.combiner_resolved.proofs.Mixes.{new_mixes}
use Rattle.raster_pixel.specs.declared.Geometry.{Geometry}
use Rattle.raster_pixel.specs.Admitted.{admitted_of}
use Rattle.raster_pixel.proofs.Near.{admitted_near}
use Rattle.frame_draw.proofs.Plans.{refused, early, sixth, seventh, taken, no_combiner, some_combiner, entered}
use Rattle.frame_draw.proofs.accept.Goals as goal

pub returns-in_err-entry_refusal : goal.returns-in_err-entry_refusal
returns-in_err-entry_refusal c =
    let d = draw_of c.args.draw.now in
    record { plan = refused d _ _ _ _ (early d _ _ _ _ c.in_err-entry_refusal.ensures) _ c.from_residual.ensures.1 }

pub returns-in_err-combiner : goal.returns-in_err-combiner
returns-in_err-combiner c =
    let d = draw_of c.args.draw.now in
    let none = no_combiner c.new.result c.ok_or.ensures.value c.in_err-combiner.was in
    record {
      plan = refused d _ _ _ _ (ap (λ (e : Refusal). Plan.refuse (number_of e)) none.1 ∙ sixth d _ _ _ c.in_ok-entry_refusal.ensures c.new.ensures.value none.0) _ c.from_residual-in_err-combiner.ensures.1;
    }

pub returns-then-not-admitted : goal.returns-then-not-admitted
returns-then-not-admitted c =
    record {
      plan = seventh (draw_of c.args.draw.now) _ _ _ c.in_ok-entry_refusal.ensures c.new.ensures.value (some_combiner _ c.ok_or.ensures.value c.in_ok-combiner.was) (sym c.if-not-admitted.ensures);
    }

pub invariant_of-view : goal.invariant_of-view
invariant_of-view c = record { sized = (entered _ _ _ _ _ _ _ (sym c.in_ok-entry_refusal.ensures)).sized }

pub invariant_of-shapes : goal.invariant_of-shapes
invariant_of-shapes c =
    let l = c.args.draw.now.lists in
    record {
      near = λ e. admitted_near _ _ _ _ (ap (λ (g : Geometry). admitted_of c.in_ok-combiner.combiner g l.vertices.now l.present.now l.indices.now) (sym e) ∙ sym c.if-not-admitted.ensures);
    }

pub invariant_of-result-clause-few : goal.invariant_of-result-clause-few
invariant_of-result-clause-few c = (entered _ _ _ _ _ _ _ (sym c.in_ok-entry_refusal.ensures)).few

pub invariant_of-result-clause-mixed : goal.invariant_of-result-clause-mixed
invariant_of-result-clause-mixed c =
    new_mixes _ _ (sym c.new.ensures.value ∙ some_combiner _ c.ok_or.ensures.value c.in_ok-combiner.was)

pub returns : goal.returns
returns c =
    record {
      plan =
          record {
            plan = taken (draw_of c.args.draw.now) _ _ _ c.in_ok-entry_refusal.ensures c.new.ensures.value (some_combiner _ c.ok_or.ensures.value c.in_ok-combiner.was) (sym c.if-not-admitted.ensures);
            mode = refl;
            fit = (entered _ _ _ _ _ _ _ (sym c.in_ok-entry_refusal.ensures)).fit;
          };
    }
