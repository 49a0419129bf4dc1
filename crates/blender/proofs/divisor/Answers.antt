-- `of_bits` opens the numbers, which the code has by their bits.
use lib.Ieee.{of_bits}
use Rattle.blender.proofs.divisor.Goals as goal

pub returns-then-sum-least : goal.returns-then-sum-least
unfolding of_bits
returns-then-sum-least c = simp c.if-sum-least.true

pub returns-else-sum-least : goal.returns-else-sum-least
unfolding of_bits
returns-else-sum-least c = simp c.if-sum-least.false
