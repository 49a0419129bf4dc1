-- A float's depth in 262,144ths: the product is exact, since a power of two only moves the exponent, so cutting it gives `depth_of`. Assumes nothing.
use Rattle.std.proofs.Common.{◌≡◌, ◌*◌, ◌/◌, ◌<◌, ◌≤◌, min, true, false, T, pos, sym, refl, true≢false, lt_of_lt_of_le, mul-le-mul_right, div-lt_iff_lt-mul, one-mul, le-div_iff_mul-le, mul-one, arith, lit≤, ltb-false}
use native.Mathlib.Nat.{div-eq_of_lt}
use lib.Ieee.{Float, nan, inf, fin, binary32, up, down, lt, fits, mul, to_unsigned}
use lib.Ieee.Fits.{down_pos}
use lib.Ieee.Exact.{HasValue}
use lib.Ieee.Positive.{num, den, den_pos}
use Rattle.num_float.specs.Color.{f0, f1}
use Rattle.num_float.specs.Whole.{whole}
use Rattle.num_float.proofs.Scaled.{scaled}
use Rattle.num_float.proofs.Cut.{cut, inside, whole_inside, whole_none}
use Rattle.num_float.proofs.Fourfold.{whole_le}
use Rattle.words_pack.specs.Depth.{deepest, units, depth_of}

-- 262144.0
abbrev scale : Float
scale = fin false 1 (pos 18)

-- eighteen bits
pub depth_small : (x : Float) → depth_of x ≤ deepest
unfolding depth_of
depth_small x = whole_le units deepest x

exact : (x : Float) → T (fits binary32 x) → HasValue x false (num x) (den x) → num x < den x → HasValue (mul binary32 x scale) false (num x * 262144) (den x)
exact nan t v h = absurd v
exact (inf s) t v h = absurd v
exact (fin true m e) t v h = absurd (true≢false v.0)
exact (fin false m e) t v h =
    let b : m * up e * 262144 < 262144 * down e = omega arith in
    scaled binary32 false m e 18 t (lt_of_lt_of_le b (mul-le-mul_right (down e) (lit≤ tt)))

-- between 0.0 and 1.0: what the cut asks, and what it gives
pub inner : (x : Float) → T (fits binary32 x) → lt f0 x ≡ true → lt x f1 ≡ true
    → (T (lt (fin true 1 (pos 0)) (mul binary32 x scale)) × T (lt (mul binary32 x scale) (fin false 1 (pos 64)))) × (to_unsigned 64 (mul binary32 x scale) ≡ depth_of x)
unfolding depth_of
inner x t p q =
    let v = inside x 0 p q in
    let D : 0 < den x = den_pos x in
    let b : num x < 1 * den x = v.1 in
    let r = cut (mul binary32 x scale) (num x * 262144) (den x) (exact x t v.0 (omega arith)) D (omega arith) in
    let small : num x * 262144 / den x < 262144 = (div-lt_iff_lt-mul D).1 (omega arith) in
    let w : whole units deepest x ≡ min (num x * 262144 / den x) deepest = whole_inside units deepest x v.0 in
    let is : to_unsigned 64 (mul binary32 x scale) ≡ num x * 262144 / den x = r.1 in
    (r.0, omega arith)

-- 1.0 or more
pub outer : (x : Float) → lt f0 x ≡ true → lt x f1 ≡ false → deepest ≡ depth_of x
unfolding lt depth_of
outer nan p q = absurd (true≢false (sym p))
outer (inf true) p q = absurd (true≢false (sym p))
outer (inf false) p q = refl
outer (fin true m e) p q = absurd (true≢false (sym p))
outer (fin false m e) p q =
    let h : down e ≤ m * up e = simp (mul-one, one-mul) at (ltb-false (m * up e * 1) (1 * 1 * down e) q) in
    let r : 262144 ≤ units (m * up e) (down e) = (le-div_iff_mul-le (down_pos e)).1 (omega arith) in
    omega arith

-- 0.0, less, or a NaN
pub none : (x : Float) → lt f0 x ≡ false → 0 ≡ depth_of x
unfolding depth_of
none x p = whole_none units deepest x (λ b h. div-eq_of_lt (omega arith)) p
