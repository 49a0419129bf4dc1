-- An `f64` from 2 ^ 26 up to 2 ^ 27 has 2 ^ -26 for its last digit: the bits of its pattern from the 26th up are its whole part, and 1048 * 2 ^ 26 more.
-- A coarse value from 0 to 2 ^ 17 (`Coarse`; an `f32` is one, and four times an `f32`) that is added to 2 ^ 26, or to 2 ^ 26 + 1 / 2, gets there without a change of the whole part: from 1 / 8 up
-- the sum is exact, and below that it is rounded to less than 2 ^ 26 + 1. Assumes nothing.
use mathlib.Core.Path.{◌≡◌, refl, sym, ap, ◌∙◌, subst}
use mathlib.Core.Logic.{◌⊎◌, inl, inr}
use Prim.Native.Nat.compare
use Prim.Native.Nat.{ℕ, zero, suc, ◌+◌, ◌-◌, ◌*◌, ◌/◌, ◌%◌, ◌^◌, ◌≤◌, ◌<◌, compare, Ordering}
use native.Mathlib.Nat.{le_trans, le_of_eq, le_antisymm, lt_of_lt_of_le, lt_of_not-le, not-le_of_lt, mul-one, mul_comm, mul_assoc, mul_left_comm, mul_right_comm, mul-pos, mul-le-mul_right, mul-lt-mul_of_pos_right, mul-div_cancel, mul-mod_left, div-eq_of_lt-le, le-div_iff_mul-le, div-lt_iff_lt-mul, lt_of_mul-lt-mul_right, lt_irrefl, zero-mul, eq_of_mul-eq-mul_right, add-mul, add-mul-div_right}
use native.Mathlib.Omega.{arith}
use mathlib.Core.Bool.{Bool, true, false, not, ◌&&◌, true≢false}
use lib.IntN.{ℤ, pos, negsuc}
use lib.Dec.{T, leb, leb→le, nleb→lt, lit≤}
use lib.Pow.{pow-add, pow_pos, pow_mono, shl_lt, shl-shr}
use lib.Ieee.{Float, nan, inf, fin, binary32, binary64, up, down, size, nearest, round, add, fits, is_nan, to_bits}
use lib.Ieee.Fits.{and_i, fits_widens, down_pos, nearest-le}
use lib.Ieee.Digits.{size-lt, size-le, back}
use lib.Ieee.Exact.{HasValue}
use lib.Ieee.Nearest.{closest, closest_same, nearest-ge, div_same}
use lib.Ieee.Order.{drop}
use lib.Ieee.Positive.{num, den, den_pos}
use lib.Ieee.Scale.{grid, round_val}
use Rattle.num_float.specs.Whole.{near, floor}
use Rattle.num_float.specs.Coarse.{Coarse}
use Rattle.num_float.proofs.Scaled.{few}

-- ---- the pattern
number : (x : Float) (a c : ℕ) → HasValue x false a c → T (not (is_nan x))
unfolding is_nan
number nan a c v = absurd v
number (inf s) a c v = tt
number (fin s m e) a c v = tt

size_exact : (j n : ℕ) → 2 ^ j ≤ n → n < 2 ^ suc j → size n ≡ suc j
size_exact j n lo hi = le_antisymm (size-le n (suc j) hi) (lt_of_not-le (λ (g : size n ≤ j). not-le_of_lt (lt_of_lt_of_le (size-lt n) (pow_mono g)) lo))

-- of W * 2 ^ -26, where W has 53 digits
pattern : (x : Float) (W : ℕ) → HasValue x false (W * 2 ^ 1048) (2 ^ 1074) → 2 ^ 52 ≤ W → W < 2 ^ 53 → to_bits binary64 x ≡ 1048 * 2 ^ 52 + W
unfolding to_bits
pattern nan W v lo hi = absurd v
pattern (inf s) W v lo hi = absurd v
pattern (fin true m e) W v lo hi = absurd (true≢false v.0)
pattern (fin false m e) W v lo hi =
    let n = W * 2 ^ 1048 in
    let is : m * up e * 2 ^ 1074 / down e ≡ n = ap (λ (x : ℕ). x / down e) v.1 ∙ mul-div_cancel n (down_pos e) in
    let k : size n - 53 ≡ 1048 = ap (λ (z : ℕ). z - 53) (size_exact 1100 n (le_trans (le_of_eq (pow-add 2 52 1048)) (mul-le-mul_right (2 ^ 1048) lo)) (shl_lt 53 1048 hi)) in
    ap (λ (x : ℕ). 0 + (size x - 53) * 2 ^ 52 + x / 2 ^ (size x - 53)) is
    ∙ ap (λ (k : ℕ). 0 + k * 2 ^ 52 + n / 2 ^ k) k
    ∙ ap (λ (q : ℕ). 1048 * 2 ^ 52 + q) (shl-shr W 1048)

exactly : (x c q : ℕ) → 0 < c → x ≡ q * c → closest x c ≡ q
exactly x c q C e =
    ap (λ (y : ℕ). closest y c) e
    ∙ ap (λ (y : ℕ). nearest y (compare (q * c % c * 2) c)) (mul-div_cancel q C)
    ∙ ap (λ (y : ℕ). nearest q (compare (y * 2) c)) (mul-mod_left q c)
    ∙ ap (λ (o : Ordering). nearest q o) (above_zero c C)
  where
    above_zero : (u : ℕ) → 0 < u → compare 0 u ≡ Ordering.lt
    above_zero zero h = absurd (lt_irrefl 0 h)
    above_zero (suc u) h = compare.zero-suc u

-- what the bits show of w: the whole number n
abbrev pub Shows : Float → ℕ → Type 0
Shows w n = T (not (is_nan w)) × (to_bits binary64 w / 2 ^ 26 % 2 ^ 26 ≡ n)

-- ---- a / c, which is 2 ^ 26 + d / c, rounded to a multiple W of 2 ^ -26
-- its whole part is kept where d / c is a multiple of 2 ^ -26, or so far below 1 that no rounding reaches 1
module _ (a d c : ℕ) (C : 0 < c) (sum : a ≡ d + 2 ^ 26 * c) (most : d ≤ 131073 * c) (clear : ((q : ℕ) × (d * 2 ^ 26 ≡ q * c)) ⊎ (d * 8 < 5 * c)) where
  lo : 2 ^ 26 * c ≤ a
  lo = omega arith

  hi : a < 2 ^ 27 * c
  hi = omega arith

  abbrev n : ℕ
  n = a * 2 ^ 1074

  abbrev W : ℕ
  W = closest (a * 2 ^ 26) c

  dropped : drop 53 n c ≡ 1048
  dropped =
      ap (λ (z : ℕ). z - 53)
      (size_exact 1100 (n / c)
      ((le-div_iff_mul-le C).1 (le_trans (le_of_eq (ap (λ (x : ℕ). x * c) (pow-add 2 26 1074) ∙ mul_right_comm (2 ^ 26) (2 ^ 1074) c)) (mul-le-mul_right (2 ^ 1074) lo)))
      ((div-lt_iff_lt-mul C).1 (lt_of_lt_of_le (mul-lt-mul_of_pos_right hi (pow_pos 1074)) (le_of_eq (mul_right_comm (2 ^ 27) c (2 ^ 1074) ∙ ap (λ (x : ℕ). x * c) (sym (pow-add 2 27 1074)))))))

  same : a * (2 ^ 26 * 2 ^ 1048) * c ≡ a * 2 ^ 26 * (c * 2 ^ 1048)
  same = go (2 ^ 26) (2 ^ 1048)
    where
      go : (p q : ℕ) → a * (p * q) * c ≡ a * p * (c * q)
      go p q = simp (mul_assoc, mul_comm, mul_left_comm)

  kept_is : closest n (c * 2 ^ 1048) ≡ W
  kept_is = closest_same n (c * 2 ^ 1048) (a * 2 ^ 26) c (mul-pos C (pow_pos 1048)) C (ap (λ (x : ℕ). a * x * c) (pow-add 2 26 1048) ∙ same)

  grid_is : grid binary64 a c ≡ W * 2 ^ 1048
  grid_is = ap (λ (k : ℕ). closest n (c * 2 ^ k) * 2 ^ k) dropped ∙ ap (λ (q : ℕ). q * 2 ^ 1048) kept_is

  W-ge : 2 ^ 52 ≤ W
  W-ge =
      le_trans ((le-div_iff_mul-le C).1 (le_trans (le_of_eq (mul_right_comm (2 ^ 26) (2 ^ 26) c)) (mul-le-mul_right (2 ^ 26) lo)))
      (nearest-ge (a * 2 ^ 26 / c) (compare (a * 2 ^ 26 % c * 2) c))

  value : W < 2 ^ 53 → HasValue (round binary64 false a c) false (W * 2 ^ 1048) (2 ^ 1074)
  value h =
      let l : 53 + 1048 ≤ 1074 + 1024 = lit≤ tt in
      subst (λ (x : ℕ). HasValue (round binary64 false a c) false x (2 ^ 1074)) grid_is
      (round_val binary64 a c (subst (λ (x : ℕ). x < 2 ^ (1074 + 1024)) (sym grid_is) (lt_of_lt_of_le (shl_lt 53 1048 h) (pow_mono l))))

  kept_whole : (W < 2 ^ 53) × (W / 2 ^ 26 ≡ a / c)
  kept_whole = elim clear [
    | inl (q, i) ↦
        let e : a * 2 ^ 26 ≡ (q + 4503599627370496) * c = omega (arith, add-mul q 4503599627370496 c) in
        let is : W ≡ q + 4503599627370496 = exactly (a * 2 ^ 26) c (q + 4503599627370496) C e in
        (subst (λ (x : ℕ). x < 2 ^ 53) (sym is) (lt_of_mul-lt-mul_right c (omega arith)), ap (λ (x : ℕ). x / 2 ^ 26) is ∙ div_same (q + 4503599627370496) (2 ^ 26) a c (pow_pos 26) C (sym e))
    | inr g ↦
        let m : W ≤ suc (a * 2 ^ 26 / c) = nearest-le (a * 2 ^ 26 / c) (compare (a * 2 ^ 26 % c * 2) c) in
        let k : a * 2 ^ 26 / c < 4503599694479359 = (div-lt_iff_lt-mul C).1 (omega arith) in
        let w : a / c ≡ 67108864 = div-eq_of_lt-le c (omega arith) (omega arith) in
        let l = W-ge in
        (omega arith, omega arith)
  ]

  shown : Shows (round binary64 false a c) (d / c)
  shown =
      let k = kept_whole in
      let v = value k.0 in
      let b = pattern (round binary64 false a c) W v W-ge k.0 in
      let q : a / c ≡ d / c + 67108864 = ap (λ (x : ℕ). x / c) sum ∙ add-mul-div_right d 67108864 C in
      let l = W-ge in
      (number (round binary64 false a c) (W * 2 ^ 1048) (2 ^ 1074) v, omega arith)

-- ---- coarse values from 0 to 2 ^ 17
-- an `f32` is a multiple of 2 ^ -(j + 26), or 2 ^ j times it is below 1 / 8
grain : (z : Float) (j : ℕ) → T (fits binary32 z) → ((r : ℕ) × (r * den z ≡ 2 ^ (j + 26))) ⊎ (num z * (2 ^ j * 8) < den z)
grain nan j t = inl (2 ^ (j + 26), mul-one (2 ^ (j + 26)))
grain (inf s) j t = inl (2 ^ (j + 26), mul-one (2 ^ (j + 26)))
grain (fin s m (pos k)) j t = inl (2 ^ (j + 26), mul-one (2 ^ (j + 26)))
grain (fin s zero (negsuc k)) j t = inr (subst (λ (x : ℕ). x < 2 ^ suc k) (sym (zero-mul (2 ^ j * 8))) (pow_pos (suc k)))
grain (fin s (suc m) (negsuc k)) j t = go (leb (suc k) (j + 26)) (leb→le (suc k) (j + 26)) (nleb→lt (suc k) (j + 26))
  where
    go : (b : Bool) → (T b → suc k ≤ j + 26) → (T (not b) → j + 26 < suc k) → ((r : ℕ) × (r * 2 ^ suc k ≡ 2 ^ (j + 26))) ⊎ (suc m * 1 * (2 ^ j * 8) < 2 ^ suc k)
    go true l g = inl (2 ^ (j + 26 - suc k), sym (pow-add 2 (j + 26 - suc k) (suc k)) ∙ ap (λ (x : ℕ). 2 ^ x) (back (j + 26) (suc k) (l tt)))
    go false l g =
        let u : j + 27 ≤ suc k = omega (arith, g tt) in
        let big : 2 ^ j * 2 ^ 27 ≤ 2 ^ suc k = subst (λ (x : ℕ). x ≤ 2 ^ suc k) (pow-add 2 j 27) (pow_mono u) in
        let small : suc m * 1 < 2 ^ 24 = subst (λ (x : ℕ). x < 2 ^ 24) (sym (mul-one (suc m))) (few binary32 s m (negsuc k) t).0 in
        let P : 0 < 2 ^ j = pow_pos j in
        let less : suc m * 1 * (2 ^ j * 8) < 2 ^ 24 * (2 ^ j * 8) = mul-lt-mul_of_pos_right small (omega arith) in
        inr (omega arith)

-- so 2 ^ j times an `f32` is coarse
pub coarse : (z : Float) (j a c : ℕ) → T (fits binary32 z) → 0 < c → a * den z ≡ num z * 2 ^ j * c → Coarse a c
coarse z j a c t C h = elim (grain z j t) [
  | inl (r, i) ↦
      let k : num z * (2 ^ j * 67108864) * c ≡ num z * r * c * den z = ap (λ (p : ℕ). num z * p * c) (sym (pow-add 2 j 26) ∙ sym i) ∙ ap (λ (x : ℕ). x * c) (sym (mul_assoc (num z) r (den z))) ∙ mul_right_comm (num z * r) (den z) c in
      inl (num z * r, eq_of_mul-eq-mul_right (den z) (den_pos z) (a * 67108864) (num z * r * c) (times (2 ^ j) 67108864 h ∙ k))
  | inr g ↦
      let l : a * 8 * den z < c * den z = subst (λ (x : ℕ). x < c * den z) (sym (times (2 ^ j) 8 h)) (lt_of_lt_of_le (mul-lt-mul_of_pos_right g C) (le_of_eq (mul_comm (den z) c))) in
      inr (omega (arith, lt_of_mul-lt-mul_right (den z) l))
]
  where
    times : (p x : ℕ) → a * den z ≡ num z * p * c → a * x * den z ≡ num z * (p * x) * c
    times p x h = mul_right_comm a x (den z) ∙ ap (λ (y : ℕ). y * x) h ∙ mul_right_comm (num z * p) c x ∙ ap (λ (y : ℕ). y * c) (mul_assoc (num z) p x)

-- an `f32` is
pub coarse_itself : (y : Float) → T (fits binary32 y) → Coarse (num y) (den y)
coarse_itself y t = coarse y 0 (num y) (den y) t (den_pos y) (ap (λ (x : ℕ). x * den y) (sym (mul-one (num y))))

-- what `as f64` asks
pub widens : (y : Float) (a c : ℕ) → T (fits binary32 y) → HasValue y false a c → T (fits binary64 y && not (is_nan y))
widens y a c t v = and_i (fits binary64 y) (not (is_nan y)) (fits_widens y t) (number y a c v)

-- what `nearest` asks, and `whole_part` of any `f32`
abbrev pub LowCoarse : Float → Type 0
LowCoarse y = HasValue y false (num y) (den y) × ((num y ≤ 131072 * den y) × Coarse (num y) (den y))

-- y + k * 2 ^ f, before it is rounded
sum_is : (y : Float) (k : ℕ) (f : ℤ) → HasValue y false (num y) (den y) → add binary64 y (fin false k f) ≡ round binary64 false (num y * down f + k * up f * den y) (den y * down f)
unfolding add
sum_is nan k f v = absurd v
sum_is (inf s) k f v = absurd v
sum_is (fin true m e) k f v = absurd (true≢false v.0)
sum_is (fin false m e) k f v = refl

-- y + 2 ^ 26 + 1 / 2
pub near_shown : (y : Float) → LowCoarse y → Shows (add binary64 y (fin false 134217729 (negsuc 0))) (near (num y) (den y))
near_shown y l =
    let P = den_pos y in
    let h = l.1.0 in
    rw (sum_is y 134217729 (negsuc 0) l.0)
    (shown (num y * 2 + 134217729 * den y) (num y * 2 + den y) (den y * 2) (omega arith) (omega arith) (omega arith)
    (elim l.1.1 [ inl (q, i) ↦ inl (q + 33554432, omega (arith, add-mul q 33554432 (den y), mul_assoc (q + 33554432) (den y) 2)) | inr g ↦ inr (omega arith) ]))

-- y + 2 ^ 26
pub floor_shown : (y : Float) → LowCoarse y → Shows (add binary64 y (fin false 1 (pos 26))) (floor (num y) (den y))
floor_shown y l =
    let h = l.1.0 in
    rw (sum_is y 1 (pos 26) l.0, mul-one (den y))
    (shown (num y * 1 + 67108864 * den y) (num y) (den y) (den_pos y) (omega arith) (omega arith)
    (elim l.1.1 [ inl p ↦ inl p | inr g ↦ inr (omega arith) ]))
