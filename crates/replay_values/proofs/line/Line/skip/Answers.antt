-- The prefix that was stripped is the text, byte for byte.
use Rattle.std.proofs.Common.{arith, sym, ◌≡◌, take, length}
use Rattle.std.proofs.lemmas.Grind.{common_steps}
use Rattle.std.specs.Cmp.Lexicographic.{same_text}
use Rattle.replay_values.proofs.line.Line.skip.Goals as goal

pub returns : goal.returns
returns c =
    let line = c.in_ok-take.field-0.now in
    let text = c.args.text.now in
    let same : take (length text) line ≡ text = same_text (take (length text) line) text (sym c.in_ok-rest.ensures.cases.0) in
    grind (arith, common_steps)
