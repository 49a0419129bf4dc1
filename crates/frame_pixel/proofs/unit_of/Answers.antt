-- `of_bits` opens 255.0, which the code has by its bits.
use lib.Ieee.{of_bits}
use mathlib.Core.Path.{refl}
use Rattle.frame_pixel.proofs.unit_of.Goals as goal

pub returns : goal.returns
unfolding of_bits
returns c = refl
