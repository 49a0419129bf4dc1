-- The bits of y + 2 ^ 26 + 1 / 2 show the whole number (`near_shown`). Assumes nothing.
use mathlib.Core.Path.{◌∙◌}
use lib.Ieee.{of_bits}
use Rattle.num_float.proofs.Placed.{near_shown}
use Rattle.num_float.proofs.nearest.Goals as goal

pub whole_bits-requires : goal.whole_bits-requires
unfolding of_bits
whole_bits-requires c = (near_shown c.args.y (c.requires.value, (c.requires.bounded, c.requires.coarse))).0

pub returns : goal.returns
unfolding of_bits
returns c = c.whole_bits.ensures ∙ (near_shown c.args.y (c.requires.value, (c.requires.bounded, c.requires.coarse))).1
