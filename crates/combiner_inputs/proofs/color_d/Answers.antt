-- The default arm of `combiner_inputs::color_d` is past the table's end.
use mathlib.Core.Path.{ap}
use Rattle.combiner_inputs.specs.declared.ColorIn.TheVariants as color
use Rattle.combiner_inputs.specs.Combine.{color_d}
use Rattle.combiner_inputs.specs.Inputs.{color_number}
use Rattle.combiner_inputs.proofs.Tables.{rest}
use Rattle.combiner_inputs.proofs.color_d.Goals as goal

pub returns-in_default-clause-answer : goal.returns-in_default-clause-answer
unfolding color_d
returns-in_default-clause-answer c = ap color_number (rest color_d color.Zero 3 c.args.idx c.in_default.in_default-own.rest)

pub returns-in_default-clause-value : goal.returns-in_default-clause-value
unfolding color_d
returns-in_default-clause-value c = rest color_d color.Zero 3 c.args.idx c.in_default.in_default-own.rest
