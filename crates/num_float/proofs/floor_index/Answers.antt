-- The whole part of x cut off at 0 and at the cap (`floor_cut`). Assumes nothing.
use mathlib.Core.Path.{◌∙◌}
use lib.Ieee.{of_bits}
use Rattle.num_float.proofs.Index.{floor_cut}
use Rattle.num_float.proofs.floor_index.Goals as goal

pub whole_part-requires : goal.whole_part-requires
unfolding of_bits
whole_part-requires c =
    let i = floor_cut c.above_zero.ensures c.up_to.ensures in
    record { value = i.value; bounded = i.bounded }

pub returns : goal.returns
unfolding of_bits
returns c = c.whole_part.ensures ∙ (floor_cut c.above_zero.ensures c.up_to.ensures).is
