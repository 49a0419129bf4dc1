-- The default arm of `combiner_inputs::color_a` is past the table's end.
use mathlib.Core.Path.{ap}
use Rattle.combiner_inputs.specs.declared.ColorIn.TheVariants as color
use Rattle.combiner_inputs.specs.Combine.{color_a}
use Rattle.combiner_inputs.specs.Inputs.{color_number}
use Rattle.combiner_inputs.proofs.Tables.{rest}
use Rattle.combiner_inputs.proofs.color_a.Goals as goal

pub returns-in_default-clause-answer : goal.returns-in_default-clause-answer
unfolding color_a
returns-in_default-clause-answer c = ap color_number (rest color_a color.Zero 4 c.args.idx c.in_default.in_default-own.rest)

pub returns-in_default-clause-value : goal.returns-in_default-clause-value
unfolding color_a
returns-in_default-clause-value c = rest color_a color.Zero 4 c.args.idx c.in_default.in_default-own.rest
