-- `byte_of` by way of a float that is cut off at 0 and 1 by two selects: the product with 255 lies from 0 to 255, and is the one of `clamped`, but for what gives 0 either way. Assumes nothing.
use mathlib.Core.Path.{◌≡◌, refl, sym, ap, ◌∙◌, subst}
use Prim.Native.Nat.{ℕ, zero, suc, ◌+◌, ◌*◌, ◌/◌, ◌^◌, ◌≤◌, ◌<◌, min}
use native.Mathlib.Nat.{zero-mul, mul-one, one-mul, mul_right_comm, le_of_eq, div-lt_iff_lt-mul}
use native.Mathlib.Omega.{arith}
use mathlib.Core.Bool.{Bool, true, false, not, cond, ◌&&◌, ◌||◌, true≢false}
use borrow.Author.Tests.{ltb-true, ltb-false}
use lib.IntN.{ℤ}
use lib.Dec.{T, ltb, eqb, ltb→lt, eqb→eq}
use lib.Ieee.{Float, nan, inf, fin, binary32, binary64, up, down, lt, le, mul, round, units, odd, fits, is_nan}
use lib.Ieee.Fits.{down_pos, round_is, mul-fits}
use lib.Ieee.Exact.{HasValue}
use lib.Ieee.Order.{round_mono, drop, kept}
use lib.Ieee.Scale.{round_same, round_val, round_under, finite, grid}
use lib.Ieee.Positive.{num, den, den_pos}
use Rattle.num_float.specs.Color.{f0, f1, clamped}
use Rattle.num_float.specs.Whole.{whole, near, f255, byte_of}
use Rattle.num_float.proofs.Cut.{whole_inside}
use Rattle.num_float.proofs.Placed.{LowCoarse, coarse_itself, widens}
use Rattle.num_float.proofs.Clipped.{above0, upto, clipped}

-- ---- n / d times 255, for an n up to d
at : (x : Float) (n d : ℕ) → 0 < d → HasValue x false n d → mul binary32 x f255 ≡ round binary32 false (n * 255) d
unfolding mul
at nan n d D v = absurd v
at (inf s) n d D v = absurd v
at (fin true m e) n d D v = absurd (true≢false v.0)
at (fin false m e) n d D v =
    round_same binary32 false (m * up e * 255) (down e * 1) (n * 255) d (omega (arith, down_pos e)) D
    (mul_right_comm (m * up e) 255 d ∙ ap (λ (x : ℕ). x * 255) v.1 ∙ mul_right_comm n (down e) 255 ∙ ap (λ (x : ℕ). n * 255 * x) (sym (mul-one (down e))))

between : (y : Float) → T (le f0 y) → T (le y f255) → T (finite y)
unfolding le
between nan p q = absurd p
between (inf true) p q = absurd p
between (inf false) p q = absurd q
between (fin s m e) p q = tt

either : (a b : ℕ) (p q : Bool) → (T p → a < b) → (T q → a ≡ b) → T (p || (q && true)) → a ≤ b
either a b true q h k t = omega (arith, h tt)
either a b false true h k t = le_of_eq (k tt)
either a b false false h k t = absurd t

abbrev Byte : Float → Type 0
Byte y = HasValue y false (num y) (den y) × (num y ≤ 255 * den y)

byte : (y : Float) (a c : ℕ) → HasValue y false a c → T (le y f255) → Byte y
unfolding le
byte nan a c v h = absurd v
byte (inf s) a c v h = absurd v
byte (fin true m e) a c v h = absurd (true≢false v.0)
byte (fin false m e) a c v h =
    let N = m * up e in
    let D = down e in
    ((refl, refl), subst (λ (x : ℕ). x ≤ 255 * D) (mul-one N) (either (N * 1) (255 * D) (ltb (N * 1) (255 * D)) (eqb (N * 1) (255 * D)) (ltb→lt (N * 1) (255 * D)) (eqb→eq (N * 1) (255 * D)) h))

product : (n d : ℕ) → 0 < d → n ≤ d → Byte (round binary32 false (n * 255) d)
unfolding round
product n d D h =
    let y = round binary32 false (n * 255) d in
    let lo : T (le f0 y) = round_mono binary32 0 1 (n * 255) d (omega arith) D (omega arith) in
    let hi : T (le y f255) = round_mono binary32 (n * 255) d 255 1 D (omega arith) (omega arith) in
    byte y (grid binary32 (n * 255) d) (2 ^ 149) (round_val binary32 (n * 255) d (round_under binary32 (n * 255) d (between y lo hi))) hi

-- ---- what is below 0 stays below 0
negative_odd : (g : ℕ → ℕ → ℕ) (cap d q k l : ℕ) → whole g cap (odd d true q k l) ≡ 0
unfolding odd
negative_odd g cap d zero k l = refl
negative_odd g cap d (suc q) k l = refl

negative_units : (g : ℕ → ℕ → ℕ) (cap q k : ℕ) → whole g cap (units binary32 true q k) ≡ 0
unfolding units
negative_units g cap q k = go (ltb (q * 2 ^ k) (2 ^ 277))
  where
    go : (b : Bool) → whole g cap (cond b (odd 25 true q k 149) (inf true)) ≡ 0
    go true = negative_odd g cap 25 q k 149
    go false = refl

negative : (g : ℕ → ℕ → ℕ) (cap a c : ℕ) → whole g cap (round binary32 true a c) ≡ 0
negative g cap a c = ap (λ (y : Float). whole g cap y) (round_is binary32 true a c) ∙ negative_units g cap (kept 24 (a * 2 ^ 149) c) (drop 24 (a * 2 ^ 149) c)

-- ---- the product of v, cut off
abbrev scaled_up : Float → Float
scaled_up v = mul binary32 (upto f1 (above0 v)) f255

clamped_fin : (m : ℕ) (e : ℤ) → HasValue (clamped (fin false m e)) false (min (m * up e) (down e)) (down e)
unfolding lt
clamped_fin m e =
    let N = m * up e in
    let D = down e in
    go (ltb (N * 1) (0 * D)) (ltb (1 * D) (N * 1)) (ltb-true (N * 1) (0 * D)) (ltb-true (1 * D) (N * 1)) (ltb-false (1 * D) (N * 1))
  where
    go : (p q : Bool) → (p ≡ true → m * up e * 1 < 0 * down e) → (q ≡ true → 1 * down e < m * up e * 1) → (q ≡ false → m * up e * 1 ≤ 1 * down e)
        → HasValue (cond p f0 (cond q f1 (fin false m e))) false (min (m * up e) (down e)) (down e)
    go true q a b c =
        let no : ⊥ = omega (arith, a refl, zero-mul (down e)) in
        absurd no
    go false true a b c = (refl, omega (arith, b refl))
    go false false a b c =
        let is : m * up e ≡ min (m * up e) (down e) = omega (arith, c refl) in
        (refl, ap (λ (x : ℕ). x * down e) is)

abbrev Same : Float → Type 0
Same v = (n d : ℕ) × (0 < d) × (n ≤ d) × (scaled_up v ≡ round binary32 false (n * 255) d) × (byte_of v ≡ whole near 255 (round binary32 false (n * 255) d))

same : (v : Float) → Same v
unfolding lt mul round
same nan = (0, 1, omega arith, omega arith, refl, refl)
same (inf true) = (0, 1, omega arith, omega arith, refl, refl)
same (inf false) = (1, 1, omega arith, omega arith, refl, refl)
same (fin true m e) = (0, 1, omega arith, omega arith, refl, go (ltb 0 (m * up e * 1 + 0 * down e)))
  where
    go : (b : Bool) → whole near 255 (mul binary32 (cond b f0 (fin true m e)) f255) ≡ 0
    go true = refl
    go false = negative near 255 (m * up e * 255) (down e * 1)
same (fin false m e) =
    let n = min (m * up e) (down e) in
    let D : 0 < down e = down_pos e in
    let l : n ≤ down e = omega arith in
    let c : HasValue (upto f1 (above0 (fin false m e))) false n (down e) = subst (λ (x : ℕ). HasValue (upto f1 (above0 (fin false m e))) false (min (m * up e) x) (down e)) (one-mul (down e)) (clipped 0 m e) in
    (n, down e, D, l, at (upto f1 (above0 (fin false m e))) n (down e) D c, ap (λ (y : Float). whole near 255 y) (at (clamped (fin false m e)) n (down e) D (clamped_fin m e)))

few : (n d : ℕ) → 0 < d → n ≤ 255 * d → near n d ≤ 255
few n d D h =
    let l : (n * 2 + d) / (d * 2) < 256 = (div-lt_iff_lt-mul {k = d * 2} (omega arith)).1 (omega arith) in
    omega arith

-- y is 255 times v cut off, as the two selects leave it in turn: it is from 0 to 255, and its nearest whole number, halves up, is `byte_of`
pub record Product (v y : Float) : Type 0 where
  pub widened : T (fits binary64 y && not (is_nan y))
  pub low : LowCoarse y
  pub small : near (num y) (den y) ≤ 255
  pub is : near (num y) (den y) ≡ byte_of v

scaled-product : (v : Float) → Product v (scaled_up v)
scaled-product v =
    let s = same v in
    let y = scaled_up v in
    let b : Byte y = subst Byte (sym s.4) (product s.0 s.1 s.2 s.3) in
    let h : num y ≤ 131072 * den y = omega (arith, b.1, den_pos y) in
    let w : whole near 255 y ≡ byte_of v = ap (λ (z : Float). whole near 255 z) s.4 ∙ sym s.5 in
    let f = mul-fits binary32 (upto f1 (above0 v)) f255 in
    let l = few (num y) (den y) (den_pos y) b.1 in
    record {
      widened = widens y (num y) (den y) f b.0;
      low = (b.0, (h, coarse_itself y f));
      small = l;
      is = omega (arith, whole_inside near 255 y b.0);
    }

pub product_of : {v z r : Float} → z ≡ above0 v → r ≡ upto f1 z → Product v (mul binary32 r f255)
product_of {v} p q = subst (λ (x : Float). Product v (mul binary32 x f255)) (sym (q ∙ ap (λ (x : Float). upto f1 x) p)) (scaled-product v)
