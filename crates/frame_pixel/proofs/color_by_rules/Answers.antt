use mathlib.Core.Path.{sym, ap, ◌∙◌}
use Rattle.std.specs.Prelude.{Some}
use Rattle.blender.specs.Blend.{or_zero, blend_of}
use Rattle.frame_pixel.specs.Rules.{rule_f1, rule_f2, rule_f3}
use Rattle.frame_pixel.specs.Coloring.{stored_of}
use Rattle.frame_pixel.proofs.Colorings.{not_known, in_doubt, was_known}
use Rattle.frame_pixel.proofs.color_by_rules.Goals as goal
use Rattle.frame_pixel.proofs.color_by_rules.Goals.{then-doubt-via-then-doubt, then-doubt-via-else-doubt+then-not-color_known}

pub returns-then-doubt : goal.returns-then-doubt
unfolding rule_f1
returns-then-doubt c =
    let a = c.args in
    let second = c.in_doubt-doubt.ensures ∙ ap (rule_f2 a.mode a.source) c.known_coverage-coverage.ensures in
    elim c.then-doubt.branch [
      | then-doubt-via-then-doubt w ↦ in_doubt a.mode a.combiner a.source a.bytes (sym second ∙ w.if-doubt.true)
      | then-doubt-via-else-doubt+then-not-color_known w ↦
          let first = w.color_known.ensures ∙ (λ i. rule_f1 a.mode a.source (c.known_coverage-coverage.ensures i) (c.color_marked-marked.ensures i)) in
          not_known a.mode a.combiner a.source a.bytes (sym first ∙ w.if-not-color_known.true)
    ]

pub returns : goal.returns
unfolding rule_f1 rule_f3
returns c =
    let a = c.args in
    let first = c.color_known.ensures ∙ (λ i. rule_f1 a.mode a.source (c.known_coverage-coverage.ensures i) (c.color_marked-marked.ensures i)) in
    let second = c.in_doubt-doubt.ensures ∙ ap (rule_f2 a.mode a.source) c.known_coverage-coverage.ensures in
    let memory = c.color_or_zeros-memory.ensures ∙ c.memory_of.ensures.color in
    let samples = c.unwrap_or.ensures ∙ ap or_zero c.known_coverage-coverage.ensures in
    let bytes = c.blend-stored.ensures ∙ (λ i. blend_of a.mode a.combiner a.source.color (memory i) a.source.shade_alpha a.source.count (samples i)) in
    ap Some (c.from.ensures ∙ ap stored_of bytes)
    ∙ was_known a.mode a.combiner a.source a.bytes (sym first ∙ c.if-not-color_known.false) (sym second ∙ c.if-doubt.false)
