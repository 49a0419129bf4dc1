use mathlib.Core.Path.{ap, ◌∙◌}
use Rattle.std.specs.Prelude.{is_some, unwrap_or}
use Rattle.frame_pixel.specs.Rules.{rule_f4, rule_f5, assembled}
use Rattle.frame_pixel.proofs.Colorings.{colored_step}
use Rattle.frame_pixel.proofs.step.Goals as goal

pub returns : goal.returns
returns c =
    let a = c.args in
    let coverage = c.next_coverage-coverage.ensures ∙ ap (rule_f5 a.mode a.source.count) c.known_coverage.ensures in
    let color = c.color_after-color.result in
    c.assemble.ensures
    ∙ (λ i. assembled (is_some color) (unwrap_or color (rule_f4 a.bytes)) (coverage i) a.bytes.coverage)
    ∙ colored_step a.mode a.combiner a.source a.bytes c.color_after-color.ensures
