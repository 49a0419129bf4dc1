-- One more than the whole part of x cut off at 0 and at the cap, unless nothing was cut off (`ceiling_cut`). Assumes nothing.
use Prim.Native.Nat.{◌^◌}
use native.Mathlib.Omega.{arith}
use lib.Dec.{le→leb}
use lib.Ieee.{of_bits, in_float}
use Rattle.num_float.proofs.Index.{ceil_cut, ceiling_cut}
use Rattle.num_float.proofs.ceil_index.Goals as goal

pub whole_part-t-requires : goal.whole_part-t-requires
unfolding of_bits
whole_part-t-requires c =
    let i = ceil_cut c.above_zero.ensures c.up_to-y.ensures in
    record { value = i.value; bounded = i.bounded }

pub int_to_float-t : goal.int_to_float-t
unfolding of_bits in_float
int_to_float-t c = le→leb c.whole_part-t.result (2 ^ 24) (omega (arith, (ceiling_cut c.above_zero.ensures c.up_to-y.ensures c.whole_part-t.ensures).small))

pub overflow_add-result : goal.overflow_add-result
unfolding of_bits
overflow_add-result c = omega (arith, (ceiling_cut c.above_zero.ensures c.up_to-y.ensures c.whole_part-t.ensures).small)

pub returns-then-t-y : goal.returns-then-t-y
unfolding of_bits
returns-then-t-y c = (ceiling_cut c.above_zero.ensures c.up_to-y.ensures c.whole_part-t.ensures).below c.if-t-y.true

pub returns-else-t-y : goal.returns-else-t-y
unfolding of_bits
returns-else-t-y c = (ceiling_cut c.above_zero.ensures c.up_to-y.ensures c.whole_part-t.ensures).even c.if-t-y.false
