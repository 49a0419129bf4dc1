-- The bits of y + 2 ^ 26 show the whole part (`floor_shown`). Assumes nothing.
use mathlib.Core.Path.{◌∙◌}
use lib.Ieee.{of_bits, fits, binary32}
use lib.Ieee.Positive.{num, den}
use denote.Floats.{passes}
use Rattle.num_float.proofs.Placed.{coarse_itself, floor_shown, widens}
use Rattle.num_float.proofs.whole_part.Goals as goal

pub float_to_float-y : goal.float_to_float-y
float_to_float-y c = widens c.args.y (num c.args.y) (den c.args.y) c.type_inv.y c.requires.value

pub whole_bits-requires : goal.whole_bits-requires
unfolding of_bits
whole_bits-requires c = (floor_shown c.args.y (c.requires.value, (c.requires.bounded, coarse_itself c.args.y c.type_inv.y))).0

pub returns : goal.returns
unfolding of_bits
returns c =
    let held = passes (fits binary32 c.args.y) c.well_formed.0.1 in
    c.whole_bits.ensures ∙ (floor_shown c.args.y (c.requires.value, (c.requires.bounded, coarse_itself c.args.y held))).1
