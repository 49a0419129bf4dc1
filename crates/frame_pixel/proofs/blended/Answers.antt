use mathlib.Core.Path.{sym, ap, ◌∙◌}
use native.Mathlib.Omega.{arith}
use Rattle.std.specs.Prelude.{Some, option_map}
use Rattle.blender.specs.Joined.{joined}
use Rattle.frame_pixel.specs.Rules.{rule_f2}
use Rattle.frame_pixel.specs.Coloring.{stored_of}
use Rattle.frame_pixel.proofs.Colorings.{in_doubt, joined_colored}
use Rattle.frame_pixel.proofs.blended.Goals as goal

pub returns-then-in_doubt : goal.returns-then-in_doubt
returns-then-in_doubt c =
    let a = c.args in
    in_doubt a.mode a.combiner a.source a.bytes
    (sym (c.in_doubt.ensures ∙ ap (rule_f2 a.mode a.source) c.known_coverage-coverage.ensures) ∙ c.if-in_doubt.true)

pub returns-in_err-stored : goal.returns-in_err-stored
returns-in_err-stored c =
    let a = c.args in
    let m = c.memory_of-memory in
    let sure = sym (c.in_doubt.ensures ∙ ap (rule_f2 a.mode a.source) c.known_coverage-coverage.ensures) ∙ c.if-in_doubt.false in
    let told = c.blend_known.ensures ∙ (λ i. joined a.mode a.combiner a.source (c.known_coverage-coverage.ensures i) m.result) in
    let e =
    ap (option_map stored_of) (sym c.in_err-stored.was ∙ told)
    ∙ joined_colored a.mode a.combiner a.source a.bytes m.result sure m.ensures.there m.ensures.color in
    grind arith

pub returns : goal.returns
returns c =
    let a = c.args in
    let m = c.memory_of-memory in
    let sure = sym (c.in_doubt.ensures ∙ ap (rule_f2 a.mode a.source) c.known_coverage-coverage.ensures) ∙ c.if-in_doubt.false in
    let told = c.blend_known.ensures ∙ (λ i. joined a.mode a.combiner a.source (c.known_coverage-coverage.ensures i) m.result) in
    ap Some c.from.ensures
    ∙ ap (option_map stored_of) (sym c.in_ok-stored.was ∙ told)
    ∙ joined_colored a.mode a.combiner a.source a.bytes m.result sure m.ensures.there m.ensures.color
