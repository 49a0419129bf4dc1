-- `combiner_inputs::decode_cycle` meets its contract: slot by slot, the field that is taken out of a word is the command's field, so the table names
-- the same input for both.
use mathlib.Core.Path.{sym, ap, ◌∙◌}
use mathlib.Core.Bool.{Bool}
use lib.Dec.{lit≤}
use Rattle.combiner_inputs.specs.declared.ColorIn.TheVariants as color
use Rattle.combiner_inputs.specs.declared.AlphaIn.TheVariants as alpha
use Rattle.combiner_inputs.specs.Combine.{select, color_a, color_b, color_c, color_d, alpha_abd, alpha_c, cycle0, cycle1}
use Rattle.combiner_inputs.specs.Cycles.{cycle_of}
use Rattle.combiner_inputs.proofs.Words.{upper, lower}
use Rattle.combiner_inputs.proofs.decode_cycle.Goals as goal

-- the first cycle
pub returns-then-not-second : goal.returns-then-not-second
unfolding cycle0
returns-then-not-second c =
    let up = upper c.args.l c.args.h c.ranges.h.fits in
    let low = lower c.args.l c.args.h c.ranges.h.fits in
    (λ i.
    record {
      ca = (c.color_a.ensures.value ∙ ap (select color_a color.Zero 4) (c.bits.ensures ∙ up 20 4)) i;
      cb = (c.color_b.ensures.value ∙ ap (select color_b color.Zero 4) (c.bits-then-not-second.ensures ∙ low 28 4 (lit≤ tt))) i;
      cc = (c.color_c.ensures.value ∙ ap (select color_c color.Zero 5) (c.bits-then-not-second-2.ensures ∙ up 15 5)) i;
      cd = (c.color_d.ensures.value ∙ ap (select color_d color.Zero 3) (c.bits-then-not-second-3.ensures ∙ low 15 3 (lit≤ tt))) i;
      aa = (c.alpha_abd.ensures.value ∙ ap (select alpha_abd alpha.Zero 3) (c.bits-then-not-second-4.ensures ∙ up 12 3)) i;
      ab = (c.alpha_abd-then-not-second.ensures.value ∙ ap (select alpha_abd alpha.Zero 3) (c.bits-then-not-second-5.ensures ∙ low 12 3 (lit≤ tt))) i;
      ac = (c.alpha_c.ensures.value ∙ ap (select alpha_c alpha.Zero 3) (c.bits-then-not-second-6.ensures ∙ up 9 3)) i;
      ad = (c.alpha_abd-then-not-second-2.ensures.value ∙ ap (select alpha_abd alpha.Zero 3) (c.bits-then-not-second-7.ensures ∙ low 9 3 (lit≤ tt))) i;
    }) ∙ ap (λ (b : Bool). cycle_of b c.args.l c.args.h) (sym c.if-not-second.true)

-- the second cycle
pub returns-else-not-second : goal.returns-else-not-second
unfolding cycle1
returns-else-not-second c =
    let up = upper c.args.l c.args.h c.ranges.h.fits in
    let low = lower c.args.l c.args.h c.ranges.h.fits in
    (λ i.
    record {
      ca = (c.color_a-else-not-second.ensures.value ∙ ap (select color_a color.Zero 4) (c.bits-else-not-second.ensures ∙ up 5 4)) i;
      cb = (c.color_b-else-not-second.ensures.value ∙ ap (select color_b color.Zero 4) (c.bits-else-not-second-2.ensures ∙ low 24 4 (lit≤ tt))) i;
      cc = (c.color_c-else-not-second.ensures.value ∙ ap (select color_c color.Zero 5) (c.bits-else-not-second-3.ensures ∙ up 0 5)) i;
      cd = (c.color_d-else-not-second.ensures.value ∙ ap (select color_d color.Zero 3) (c.bits-else-not-second-4.ensures ∙ low 6 3 (lit≤ tt))) i;
      aa = (c.alpha_abd-else-not-second.ensures.value ∙ ap (select alpha_abd alpha.Zero 3) (c.bits-else-not-second-5.ensures ∙ low 21 3 (lit≤ tt))) i;
      ab = (c.alpha_abd-else-not-second-2.ensures.value ∙ ap (select alpha_abd alpha.Zero 3) (c.bits-else-not-second-6.ensures ∙ low 3 3 (lit≤ tt))) i;
      ac = (c.alpha_c-else-not-second.ensures.value ∙ ap (select alpha_c alpha.Zero 3) (c.bits-else-not-second-7.ensures ∙ low 18 3 (lit≤ tt))) i;
      ad = (c.alpha_abd-else-not-second-3.ensures.value ∙ ap (select alpha_abd alpha.Zero 3) (c.bits-else-not-second-8.ensures ∙ low 0 3 (lit≤ tt))) i;
    }) ∙ ap (λ (b : Bool). cycle_of b c.args.l c.args.h) (sym c.if-not-second.false)
