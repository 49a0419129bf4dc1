-- `nearest` of 255 times v cut off at 0 and 1 (`product_of`). Assumes nothing.
use mathlib.Core.Path.{◌∙◌}
use native.Mathlib.Omega.{arith}
use lib.Ieee.{of_bits}
use Rattle.num_float.proofs.Bytes.{product_of}
use Rattle.num_float.proofs.byte_of.Goals as goal

pub float_to_float-up_to : goal.float_to_float-up_to
unfolding of_bits
float_to_float-up_to c = (product_of c.above_zero.ensures c.up_to.ensures).widened

pub nearest-requires : goal.nearest-requires
unfolding of_bits
nearest-requires c =
    let low = (product_of c.above_zero.ensures c.up_to.ensures).low in
    record { value = low.0; bounded = low.1.0; coarse = low.1.1 }

pub overflow_cast-result : goal.overflow_cast-result
unfolding of_bits
overflow_cast-result c = omega (arith, (product_of c.above_zero.ensures c.up_to.ensures).small)

pub returns : goal.returns
unfolding of_bits
returns c = c.nearest.ensures ∙ (product_of c.above_zero.ensures c.up_to.ensures).is
