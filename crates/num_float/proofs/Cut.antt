-- A float's whole part, from its value, `whole` from the tests y > 0.0 and y < 2 ^ k, and the three roundings of a fraction. Assumes nothing.
use mathlib.Core.Path.{◌≡◌, refl, sym, ap, ◌∙◌, subst}
use Prim.Native.Nat.{ℕ, ◌+◌, ◌-◌, ◌*◌, ◌/◌, ◌^◌, ◌≤◌, ◌<◌, min}
use native.Mathlib.Nat.{zero-mul, mul-one, mul_assoc, mul_comm, one-mul, mul_right_comm, add-mul, lt-div-mul-add, div-mul-le_self, mul-lt-mul_of_pos_right, lt_of_mul-lt-mul_right, lt_of_lt_of_le, le_trans, le_of_eq, div-lt_iff_lt-mul, div-le_of_le-mul, div-div-eq-div-mul, add-div_right, div-eq_of_lt, le-div_iff_mul-le}
use native.Mathlib.Omega.{arith}
use mathlib.Core.Bool.{true, false, true≢false}
use borrow.Author.Tests.{ltb-true, ltb-false}
use lib.IntN.{pos}
use lib.Dec.{T, lt→ltb}
use lib.Ieee.{Float, nan, inf, fin, up, down, lt, to_unsigned}
use lib.Ieee.Fits.{down_pos}
use lib.Ieee.Exact.{HasValue}
use lib.Ieee.Nearest.{div_same}
use lib.Ieee.Positive.{num, den}
use Rattle.num_float.specs.Color.{f0}
use Rattle.num_float.specs.Whole.{whole, near, floor, ceil}

under : (N D a c : ℕ) → 0 < c → 0 < D → N * c ≡ a * D → a < 2 ^ 64 * c → N < 2 ^ 64 * D
under N D a c C P e h = lt_of_mul-lt-mul_right c (subst (λ (x : ℕ). x < 2 ^ 64 * D * c) (sym e) (lt_of_lt_of_le (mul-lt-mul_of_pos_right h P) (le_of_eq (mul_right_comm (2 ^ 64) c D))))

-- The whole part of a value that is a / c, with what the truncating functions ask
pub cut : (z : Float) (a c : ℕ) → HasValue z false a c → 0 < c → a < 2 ^ 64 * c
    → (T (lt (fin true 1 (pos 0)) z) × T (lt z (fin false 1 (pos 64)))) × (to_unsigned 64 z ≡ a / c)
unfolding lt to_unsigned
cut nan a c v C h = absurd v
cut (inf t) a c v C h = absurd v
cut (fin true n d) a c v C h = absurd (true≢false v.0)
cut (fin false n d) a c v C h =
    let N = n * up d in
    let D = down d in
    let b : N < 2 ^ 64 * D = under N D a c C (down_pos d) v.1 h in
    let P : 0 < D = down_pos d in
    let q : N / D < 2 ^ 64 = (div-lt_iff_lt-mul P).1 b in
    let e : N / D ≡ a / c = div_same N D a c P C v.1 in
    ((lt→ltb 0 (1 * 1 * D + N * 1) (omega arith), lt→ltb (N * 1) (1 * 2 ^ 64 * D) (omega arith)), omega arith)

-- what the tests y > 0.0 and y < 2 ^ k show
pub inside : (y : Float) (k : ℕ) → lt f0 y ≡ true → lt y (fin false 1 (pos k)) ≡ true → HasValue y false (num y) (den y) × (num y < 2 ^ k * den y)
unfolding lt
inside nan k p q = absurd (true≢false (sym p))
inside (inf true) k p q = absurd (true≢false (sym p))
inside (inf false) k p q = absurd (true≢false (sym q))
inside (fin true m e) k p q = absurd (true≢false (sym p))
inside (fin false m e) k p q = ((refl, refl), simp (mul-one, one-mul) at (ltb-true (m * up e * 1) (1 * 2 ^ k * down e) q))

pub whole_inside : (g : ℕ → ℕ → ℕ) (cap : ℕ) (y : Float) → HasValue y false (num y) (den y) → whole g cap y ≡ min (g (num y) (den y)) cap
whole_inside g cap nan v = absurd v
whole_inside g cap (inf s) v = absurd v
whole_inside g cap (fin true m e) v = absurd (true≢false v.0)
whole_inside g cap (fin false m e) v = refl

-- not above 0
pub whole_none : (g : ℕ → ℕ → ℕ) (cap : ℕ) (y : Float) → ((b : ℕ) → 0 < b → g 0 b ≡ 0) → lt f0 y ≡ false → 0 ≡ whole g cap y
unfolding lt
whole_none g cap nan z p = refl
whole_none g cap (inf true) z p = refl
whole_none g cap (inf false) z p = absurd (true≢false p)
whole_none g cap (fin true m e) z p = refl
whole_none g cap (fin false m e) z p =
    let n : m * up e ≡ 0 = omega (arith, ltb-false (0 * down e) (m * up e * 1) p, zero-mul (down e)) in
    let r : g (m * up e) (down e) ≡ 0 = ap (λ (x : ℕ). g x (down e)) n ∙ z (down e) (down_pos e) in
    omega arith

-- ---- the three roundings
pub near_none : (b : ℕ) → 0 < b → near 0 b ≡ 0
near_none b h = div-eq_of_lt (omega arith)

pub near_all : (n a b : ℕ) → 0 < b → n * b ≤ a → n ≤ near a b
near_all n a b h l = (le-div_iff_mul-le {k = b * 2} (omega arith)).1 (omega (arith, mul_assoc n b 2))

-- by halves: twice a / b, cut, and one more, halved
pub near_halves : (a b : ℕ) → 0 < b → (a * 2 / b + 1) / 2 ≡ near a b
near_halves a b h = ap (λ (x : ℕ). x / 2) (sym (add-div_right (a * 2) h)) ∙ div-div-eq-div-mul (a * 2 + b) b 2

pub floor_none : (b : ℕ) → 0 < b → floor 0 b ≡ 0
floor_none b h = div-eq_of_lt h

pub floor_all : (n a b : ℕ) → 0 < b → n * b ≤ a → n ≤ floor a b
floor_all n a b h l = (le-div_iff_mul-le h).1 l

pub floor_below : (n a b : ℕ) → 0 < b → a ≤ n * b → floor a b ≤ n
floor_below n a b h l = div-le_of_le-mul b (le_trans l (le_of_eq (mul_comm n b)))

pub ceil_none : (b : ℕ) → 0 < b → ceil 0 b ≡ 0
ceil_none b h = div-eq_of_lt (omega arith)

pub ceil_all : (n a b : ℕ) → 0 < b → n * b ≤ a → n ≤ ceil a b
ceil_all n a b h l = (le-div_iff_mul-le h).1 (omega arith)

pub ceil_below : (n a b : ℕ) → 0 < b → a ≤ n * b → ceil a b ≤ n
ceil_below n a b h l =
    let s : (n + 1) * b ≡ n * b + 1 * b = add-mul n 1 b in
    let q : (a + (b - 1)) / b < n + 1 = (div-lt_iff_lt-mul h).1 (omega arith) in
    omega arith

-- up from the floor, by whether something is cut off
pub ceil_more : (a b : ℕ) → 0 < b → a / b * b < a → ceil a b ≡ a / b + 1
ceil_more a b B h =
    let l : a < a / b * b + b = lt-div-mul-add B in
    let s : (a / b + 1) * b ≡ a / b * b + 1 * b = add-mul (a / b) 1 b in
    let hi : a / b + 1 ≤ ceil a b = (le-div_iff_mul-le B).1 (omega arith) in
    omega (arith, ceil_below (a / b + 1) a b B (omega arith))

pub ceil_same : (a b : ℕ) → 0 < b → a ≤ a / b * b → ceil a b ≡ a / b
ceil_same a b B h = omega (arith, ceil_below (a / b) a b B h, ceil_all (a / b) a b B (div-mul-le_self a b))
