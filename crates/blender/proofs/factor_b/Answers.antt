-- `of_bits` opens 8.0, which the code has by its bits.
use lib.Ieee.{of_bits}
use Rattle.blender.specs.Blend.{factor_b}
use Rattle.blender.proofs.factor_b.Goals as goal

pub returns-in-1 : goal.returns-in-1
unfolding factor_b of_bits
returns-in-1 c = simp c.in-1.is
