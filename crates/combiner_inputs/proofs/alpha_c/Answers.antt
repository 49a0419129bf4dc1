-- The default arm of `combiner_inputs::alpha_c` is past the table's end.
use mathlib.Core.Path.{ap}
use Rattle.combiner_inputs.specs.declared.AlphaIn.TheVariants as alpha
use Rattle.combiner_inputs.specs.Combine.{alpha_c}
use Rattle.combiner_inputs.specs.Inputs.{alpha_number}
use Rattle.combiner_inputs.proofs.Tables.{rest}
use Rattle.combiner_inputs.proofs.alpha_c.Goals as goal

pub returns-in_default-clause-answer : goal.returns-in_default-clause-answer
unfolding alpha_c
returns-in_default-clause-answer c = ap alpha_number (rest alpha_c alpha.Zero 3 c.args.idx c.in_default.in_default-own.rest)

pub returns-in_default-clause-value : goal.returns-in_default-clause-value
unfolding alpha_c
returns-in_default-clause-value c = rest alpha_c alpha.Zero 3 c.args.idx c.in_default.in_default-own.rest
