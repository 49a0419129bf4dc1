-- Where a quarter of a pixel lies, as the code works it out: whole numbers and quarters are added with no rounding, since a small
-- count of quarters has few binary digits. And a value that is n / 4 compares as `quarters n` does. Assumes nothing.
use mathlib.Core.Path.{◌≡◌, refl, sym, ap, ◌∙◌, subst}
use Prim.Native.Nat.{ℕ, suc, ◌+◌, ◌*◌, ◌^◌, ◌≤◌, ◌<◌}
use native.Mathlib.Nat.{mul-one, mul_assoc, mul_right_comm, add-mul, mul-pos, mul-lt-mul_of_pos_right, mul-le-mul_right, lt_of_mul-lt-mul_right, le_of_mul-le-mul_right, eq_of_mul-eq-mul_right, lt_of_lt_of_le, zero-mul}
use native.Mathlib.Omega.{arith}
use mathlib.Core.Bool.{Bool, true, false, ◌&&◌, ◌||◌, true≢false}
use borrow.Author.Tests.{ltb-true, ltb-false, lt-ltb, le-ltb, eqb-true, eqb-false, eq-eqb, ne_eqb}
use lib.IntN.{ℤ, pos, negsuc}
use lib.Dec.{ltb, eqb, lit<, lit≤}
use lib.Pow.{pow_pos}
use lib.Ieee.{Float, nan, inf, fin, binary32, up, down, round, sum, add, mul, lt, le, of_int}
use lib.Ieee.Fits.{down_pos}
use lib.Ieee.Exact.{HasValue, round_exact}
use lib.Ieee.Scale.{round_same}
use Rattle.raster_rectangle.specs.Rectangle.{quarters, within_of}

-- z is n quarters
abbrev Quarters : Float → ℕ → Type 0
Quarters z n = HasValue z false n 4

-- ---- sums and products
rounded : (a c n : ℕ) → 0 < c → a * 4 ≡ n * c → n < 2 ^ 24 → Quarters (round binary32 false a c) n
rounded a c n C e h =
    subst (λ (z : Float). Quarters z n) (sym (round_same binary32 false a c n 4 C (lit< tt) e))
    (round_exact binary32 false n 4 n 147 (lit< tt) h (lt_of_lt_of_le (mul-lt-mul_of_pos_right h (pow_pos 147)) (lit≤ tt)) (sym (mul_assoc n (2 ^ 147) 4)))

whole_is : (x : ℕ) → x * 4 < 2 ^ 24 → Quarters (of_int binary32 (pos x)) (x * 4)
unfolding of_int
whole_is x h = rounded x 1 (x * 4) (lit< tt) (sym (mul-one (x * 4))) h

-- by 2 ^ -(j + 1): 0.5 and 0.25
part_is : (j : ℕ) (z : Float) (a n : ℕ) → Quarters z a → a ≡ n * 2 ^ suc j → n < 2 ^ 24 → Quarters (mul binary32 z (fin false 1 (negsuc j))) n
unfolding mul
part_is j nan a n v e h = absurd v
part_is j (inf s) a n v e h = absurd v
part_is j (fin true m d) a n v e h = absurd (true≢false v.0)
part_is j (fin false m d) a n v e h =
    rounded (m * up d * 1) (down d * 2 ^ suc j) n (mul-pos (down_pos d) (pow_pos (suc j)))
    (ap (λ (x : ℕ). x * 4) (mul-one (m * up d)) ∙ v.1 ∙ ap (λ (x : ℕ). x * down d) e ∙ mul_right_comm n (2 ^ suc j) (down d) ∙ mul_assoc n (down d) (2 ^ suc j)) h

sum_is : (y z : Float) (a b : ℕ) → Quarters y a → Quarters z b → a + b < 2 ^ 24 → Quarters (add binary32 y z) (a + b)
unfolding add sum
sum_is nan z a b v w h = absurd v
sum_is (inf s) z a b v w h = absurd v
sum_is (fin true m e) z a b v w h = absurd (true≢false v.0)
sum_is (fin false m e) nan a b v w h = absurd w
sum_is (fin false m e) (inf s) a b v w h = absurd w
sum_is (fin false m e) (fin true n d) a b v w h = absurd (true≢false w.0)
sum_is (fin false m e) (fin false n d) a b v w h =
    let A : m * up e * down d * 4 ≡ a * (down e * down d) = mul_right_comm (m * up e) (down d) 4 ∙ ap (λ (x : ℕ). x * down d) v.1 ∙ mul_assoc a (down e) (down d) in
    let B : n * up d * down e * 4 ≡ b * (down e * down d) =
    mul_right_comm (n * up d) (down e) 4 ∙ ap (λ (x : ℕ). x * down e) w.1 ∙ mul_right_comm b (down d) (down e) ∙ mul_assoc b (down e) (down d) in
    rounded (m * up e * down d + n * up d * down e) (down e * down d) (a + b) (mul-pos (down_pos e) (down_pos d))
    (add-mul (m * up e * down d) (n * up d * down e) 4 ∙ (λ i. A i + B i) ∙ sym (add-mul a b (down e * down d))) h

-- ---- comparisons
-- two pairs of numbers in one proportion, a : a' = b : b', compare alike
module _ (a b a' b' c d : ℕ) (C : 0 < c) (D : 0 < d) (p : a * c ≡ a' * d) (q : b * c ≡ b' * d) where
  less : ltb a b ≡ ltb a' b'
  less = by (ltb a' b') refl
    where
      by : (t : Bool) → ltb a' b' ≡ t → ltb a b ≡ t
      by true e =
          lt-ltb a b (lt_of_mul-lt-mul_right c (subst (λ (x : ℕ). x < b * c) (sym p) (subst (λ (x : ℕ). a' * d < x) (sym q) (mul-lt-mul_of_pos_right (ltb-true a' b' e) D))))
      by false e =
          le-ltb a b (le_of_mul-le-mul_right (subst (λ (x : ℕ). x ≤ a * c) (sym q) (subst (λ (x : ℕ). b' * d ≤ x) (sym p) (mul-le-mul_right d (ltb-false a' b' e)))) C)

  same : eqb a b ≡ eqb a' b'
  same = by (eqb a' b') refl
    where
      by : (t : Bool) → eqb a' b' ≡ t → eqb a b ≡ t
      by true e = eq-eqb a b (eq_of_mul-eq-mul_right c C a b (p ∙ ap (λ (x : ℕ). x * d) (eqb-true a' b' e) ∙ sym q))
      by false e = ne_eqb a b (λ (h : a ≡ b). eqb-false a' b' e (eq_of_mul-eq-mul_right d D a' b' (sym p ∙ ap (λ (x : ℕ). x * c) h ∙ q)))

-- a value m * 2 ^ e that is n / 4, beside a value k * 2 ^ d
module _ (m : ℕ) (e : ℤ) (n : ℕ) (v : m * up e * 4 ≡ n * down e) (k : ℕ) (d : ℤ) where
  mine : m * up e * down d * 4 ≡ n * 1 * down d * down e
  mine = mul_right_comm (m * up e) (down d) 4 ∙ ap (λ (x : ℕ). x * down d) (v ∙ ap (λ (x : ℕ). x * down e) (sym (mul-one n))) ∙ mul_right_comm (n * 1) (down e) (down d)

  other : k * up d * down e * 4 ≡ k * up d * 4 * down e
  other = mul_right_comm (k * up d) (down e) 4

  both : (k * up d * down e + m * up e * down d) * 4 ≡ (k * up d * 4 + n * 1 * down d) * down e
  both = add-mul (k * up d * down e) (m * up e * down d) 4 ∙ (λ i. other i + mine i) ∙ sym (add-mul (k * up d * 4) (n * 1 * down d) (down e))

  none : 0 * 4 ≡ 0 * down e
  none = sym (zero-mul (down e))

  lt_other : ltb (m * up e * down d) (k * up d * down e) ≡ ltb (n * 1 * down d) (k * up d * 4)
  lt_other = less _ _ _ _ 4 (down e) (lit< tt) (down_pos e) mine other

  other_lt : ltb (k * up d * down e) (m * up e * down d) ≡ ltb (k * up d * 4) (n * 1 * down d)
  other_lt = less _ _ _ _ 4 (down e) (lit< tt) (down_pos e) other mine

  other_eq : eqb (k * up d * down e) (m * up e * down d) ≡ eqb (k * up d * 4) (n * 1 * down d)
  other_eq = same _ _ _ _ 4 (down e) (lit< tt) (down_pos e) other mine

  some : ltb 0 (k * up d * down e + m * up e * down d) ≡ ltb 0 (k * up d * 4 + n * 1 * down d)
  some = less _ _ _ _ 4 (down e) (lit< tt) (down_pos e) none both

  zero_eq : eqb (k * up d * down e) 0 ≡ eqb (k * up d * 4) 0
  zero_eq = same _ _ _ _ 4 (down e) (lit< tt) (down_pos e) other none

pub lt_at : (z high : Float) (n : ℕ) → Quarters z n → lt z high ≡ lt (quarters n) high
unfolding lt
lt_at nan high n v = absurd v
lt_at (inf s) high n v = absurd v
lt_at (fin true m e) high n v = absurd (true≢false v.0)
lt_at (fin false m e) nan n v = refl
lt_at (fin false m e) (inf t) n v = refl
lt_at (fin false m e) (fin true k d) n v = refl
lt_at (fin false m e) (fin false k d) n v = lt_other m e n v.1 k d

le_at : (low z : Float) (n : ℕ) → Quarters z n → le low z ≡ le low (quarters n)
unfolding le
le_at low nan n v = absurd v
le_at low (inf s) n v = absurd v
le_at low (fin true m e) n v = absurd (true≢false v.0)
le_at nan (fin false m e) n v = refl
le_at (inf t) (fin false m e) n v = refl
le_at (fin true k d) (fin false m e) n v = λ i. some m e n v.1 k d i || (other_eq m e n v.1 k d i && zero_eq m e n v.1 k d i)
le_at (fin false k d) (fin false m e) n v = λ i. other_lt m e n v.1 k d i || (other_eq m e n v.1 k d i && true)

-- A sample at n quarters lies between two sides exactly if the number n / 4 does.
within_at : (low high z : Float) (n : ℕ) → Quarters z n → within_of low high z ≡ within_of low high (quarters n)
within_at low high z n v = λ i. le_at low z n v i && lt_at z high n v i

-- ---- the code's sum
-- n + q * 0.25, each operation rounded
abbrev rounded_at : ℕ → ℕ → Float
rounded_at n q = add binary32 (of_int binary32 (pos n)) (mul binary32 (of_int binary32 (pos q)) (fin false 1 (negsuc 1)))

pub quarter_is : (n : ℕ) → n < 4096 → Quarters (mul binary32 (of_int binary32 (pos n)) (fin false 1 (negsuc 1))) n
quarter_is n h = part_is 1 (of_int binary32 (pos n)) (n * 4) n (whole_is n (omega arith)) refl (omega arith)

sum_at : (n q : ℕ) → n < 1024 → q < 1024 → Quarters (rounded_at n q) (n * 4 + q)
sum_at n q h l =
    sum_is (of_int binary32 (pos n)) (mul binary32 (of_int binary32 (pos q)) (fin false 1 (negsuc 1))) (n * 4) q (whole_is n (omega arith)) (quarter_is q (omega arith)) (omega arith)

-- The code's test of a quarter is that of the place where it lies.
pub quarter_at : (low high : Float) (n q : ℕ) → n < 1024 → q < 4 → within_of low high (rounded_at n q) ≡ within_of low high (quarters (n * 4 + q))
quarter_at low high n q h l = within_at low high (rounded_at n q) (n * 4 + q) (sum_at n q h (omega arith))
