-- `nearest` of four times the size, which is exact, with the sign of x (`quarters_of`). Assumes nothing.
use native.Mathlib.Omega.{arith}
use lib.Ieee.{of_bits, fits, binary32}
use denote.Floats.{passes}
use Rattle.std.proofs.lemmas.Int.{ints}
use Rattle.num_float.proofs.Fourfold.{quarters_of, quarter_below, quarter_above}
use Rattle.num_float.proofs.quarter.Goals as goal

pub nearest-n-requires : goal.nearest-n-requires
unfolding of_bits
nearest-n-requires c =
    let held = passes (fits binary32 c.args.x) c.well_formed.0.1 in
    let low = (quarters_of held c.magnitude.ensures c.above_zero.ensures c.up_to.ensures).low in
    record { value = low.0; bounded = low.1.0; coarse = low.1.1 }

pub overflow_cast-n : goal.overflow_cast-n
unfolding of_bits
overflow_cast-n c =
    let held = passes (fits binary32 c.args.x) c.well_formed.0.1 in
    let k = quarters_of held c.magnitude.ensures c.above_zero.ensures c.up_to.ensures in
    omega (arith, ints, k.small, c.nearest-n.ensures)

pub overflow_sub-result : goal.overflow_sub-result
unfolding of_bits
overflow_sub-result c =
    let held = passes (fits binary32 c.args.x) c.well_formed.0.1 in
    let k = quarters_of held c.magnitude.ensures c.above_zero.ensures c.up_to.ensures in
    omega (arith, ints, k.small, c.nearest-n.ensures)

pub returns-then-x : goal.returns-then-x
unfolding of_bits
returns-then-x c =
    let held = passes (fits binary32 c.args.x) c.well_formed.0.1 in
    let k = quarters_of held c.magnitude.ensures c.above_zero.ensures c.up_to.ensures in
    omega (arith, ints, k.small, k.is, c.nearest-n.ensures, quarter_below c.args.x c.if-x.true)

pub returns-else-x : goal.returns-else-x
unfolding of_bits
returns-else-x c =
    let held = passes (fits binary32 c.args.x) c.well_formed.0.1 in
    let k = quarters_of held c.magnitude.ensures c.above_zero.ensures c.up_to.ensures in
    omega (arith, ints, k.small, k.is, c.nearest-n.ensures, quarter_above c.args.x c.if-x.false)
