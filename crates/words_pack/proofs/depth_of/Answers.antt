-- The tests tell which of the three parts of `depth_of` it is (`inner`, `outer`, `none`). Assumes nothing.
use Rattle.std.proofs.Common.{◌∙◌, arith}
use lib.Ieee.{of_bits, fits, binary32}
use denote.Floats.{passes}
use Rattle.words_pack.proofs.Units.{depth_small, inner, outer, none}
use Rattle.words_pack.proofs.depth_of.Goals as goal

pub truncating_f32_to_u64-requires : goal.truncating_f32_to_u64-requires
unfolding of_bits
truncating_f32_to_u64-requires c =
    let held = passes (fits binary32 c.args.depth) c.well_formed.0.1 in
    let range = (inner c.args.depth held c.if-depth.true c.if-depth-2.true).0 in
    record { lower_bound = range.0; upper_bound = range.1 }

pub overflow_cast-result : goal.overflow_cast-result
unfolding of_bits
overflow_cast-result c =
    let held = passes (fits binary32 c.args.depth) c.well_formed.0.1 in
    omega (arith, c.truncating_f32_to_u64.ensures, (inner c.args.depth held c.if-depth.true c.if-depth-2.true).1, depth_small c.args.depth)

pub returns-then-depth-2 : goal.returns-then-depth-2
unfolding of_bits
returns-then-depth-2 c =
    let held = passes (fits binary32 c.args.depth) c.well_formed.0.1 in
    c.truncating_f32_to_u64.ensures ∙ (inner c.args.depth held c.if-depth.true c.if-depth-2.true).1

pub returns-else-depth-2 : goal.returns-else-depth-2
unfolding of_bits
returns-else-depth-2 c = outer c.args.depth c.if-depth.true c.if-depth-2.false

pub returns-else-depth : goal.returns-else-depth
unfolding of_bits
returns-else-depth c = none c.args.depth c.if-depth.false
