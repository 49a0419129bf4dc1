-- By the law `before_is`: the code's product is the exact place of the quarter.
use mathlib.Core.Path.{◌≡◌, sym, ap, ◌∙◌}
use Prim.Native.Nat.{ℕ, ◌≤◌, ◌^◌}
use native.Mathlib.Omega.{arith}
use mathlib.Core.Bool.{Bool, true, false}
use lib.Dec.{le→leb}
use lib.IntN.{ℤ, pos, negsuc}
use lib.Ieee.{Float, binary32, in_float, of_bits, of_int, mul, fin, lt}
use Rattle.num_float.specs.Whole.{quarter_of}
use Rattle.raster_edge.specs.Bound.{clamp_of}
use Rattle.raster_edge.proofs.Held.{back}
use Rattle.raster_edge.proofs.Clamped.{clamp_in}
use Rattle.raster_rectangle.specs.Rectangle.{quarters}
use Rattle.raster_rectangle.proofs.Exact.{quarter_is, lt_at}
use Rattle.raster_rectangle.proofs.First.{before_is}
use Rattle.raster_rectangle.proofs.quarters_before.Goals as goal

-- the nearest quarter's bound, and the code's test of it
module _ (side : Float) (n : ℕ) (nearest : n ≡ clamp_of (quarter_of side) 0 4095) where
  small : n ≤ 4095
  small = omega (arith, nearest, clamp_in (quarter_of side) 0 4095 (omega arith))

  test : {t : Bool} → lt (mul binary32 (of_int binary32 (pos n)) (fin false 1 (negsuc 1))) side ≡ t → lt (quarters n) side ≡ t
  test e = sym (lt_at _ side n (quarter_is n (omega (arith, small)))) ∙ e

pub int_to_float-n : goal.int_to_float-n
unfolding in_float
int_to_float-n c =
    let nearest = c.clamp-n.ensures ∙ ap (λ (z : ℤ). clamp_of z 0 4095) (back c.quarter.result c.quarter.type_inv ∙ c.quarter.ensures) in
    le→leb c.clamp-n.result (2 ^ 24) (omega (arith, small c.args.side c.clamp-n.result nearest))

pub overflow_add-result : goal.overflow_add-result
overflow_add-result c =
    let nearest = c.clamp-n.ensures ∙ ap (λ (z : ℤ). clamp_of z 0 4095) (back c.quarter.result c.quarter.type_inv ∙ c.quarter.ensures) in
    omega (arith, small c.args.side c.clamp-n.result nearest)

pub returns-then-n-side : goal.returns-then-n-side
unfolding of_bits
returns-then-n-side c =
    let nearest = c.clamp-n.ensures ∙ ap (λ (z : ℤ). clamp_of z 0 4095) (back c.quarter.result c.quarter.type_inv ∙ c.quarter.ensures) in
    before_is c.args.side c.clamp-n.result true nearest (test c.args.side c.clamp-n.result nearest c.if-n-side.true)

pub returns-else-n-side : goal.returns-else-n-side
unfolding of_bits
returns-else-n-side c =
    let nearest = c.clamp-n.ensures ∙ ap (λ (z : ℤ). clamp_of z 0 4095) (back c.quarter.result c.quarter.type_inv ∙ c.quarter.ensures) in
    before_is c.args.side c.clamp-n.result false nearest (test c.args.side c.clamp-n.result nearest c.if-n-side.false)
