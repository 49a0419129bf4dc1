-- `of_bits` opens 1.0, which the code has by its bits.
use lib.Ieee.{of_bits}
use Rattle.std.proofs.Common.{arith}
use Rattle.std.proofs.lemmas.Grind.{common_steps}
use Rattle.frame_paint.specs.Row.{fragment_of}
use Rattle.frame_paint.proofs.rows.fragment.Goals as goal

pub returns-in_default-clause-value : goal.returns-in_default-clause-value
unfolding fragment_of of_bits
returns-in_default-clause-value c = grind (arith, common_steps)
