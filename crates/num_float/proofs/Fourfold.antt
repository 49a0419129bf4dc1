-- `quarter_of` from the size of x, cut off at 16384 and taken four times in f64, which is exact. Assumes nothing.
use mathlib.Core.Path.{◌≡◌, refl, sym, ap, ◌∙◌, subst}
use Prim.Native.Nat.{ℕ, ◌+◌, ◌*◌, ◌/◌, ◌^◌, ◌≤◌, ◌<◌, min}
use native.Mathlib.Nat.{zero-mul, mul_right_comm, lt_of_lt_of_le, le_trans, le_of_eq, mul-le-mul_right, le_of_mul-le-mul_right, div-lt_iff_lt-mul, div-eq_of_lt-le}
use native.Mathlib.Omega.{arith}
use mathlib.Core.Logic.{inl}
use mathlib.Core.Bool.{Bool, true, false, not, cond, true≢false}
use borrow.Author.Tests.{ltb-true, ltb-false}
use lib.IntN.{ℤ, pos, neg_ℤ}
use lib.Dec.{T, leb, ltb, leb→le, nleb→lt, lit≤}
use lib.Ieee.{Float, nan, inf, fin, binary32, binary64, up, down, lt, neg, fits, mul, round}
use lib.Ieee.Fits.{cond-fits, neg-fits, down_pos, fits_widens}
use lib.Ieee.Exact.{HasValue}
use lib.Ieee.Nearest.{div_same}
use lib.Ieee.Positive.{num, den, den_pos, value→cross}
use Rattle.num_float.specs.Color.{f0}
use Rattle.num_float.specs.Whole.{whole, near, quarter_of}
use Rattle.num_float.proofs.Scaled.{scaled}
use Rattle.num_float.proofs.Placed.{LowCoarse, coarse}
use Rattle.num_float.proofs.Cut.{near_halves, near_none, near_all}
use Rattle.num_float.proofs.Clipped.{above0, upto, top, clipped}

-- 4.0
abbrev pub f4 : Float
f4 = fin false 1 (pos 2)

-- x without its sign, cut off, and four times that
abbrev pub size : Float → Float
size x = cond (lt x f0) (neg x) x

abbrev pub cut_size : Float → Float
cut_size x = upto (top 14) (above0 (size x))

abbrev pub quarters : Float → Float
quarters x = mul binary64 (cut_size x) f4

-- ---- equal fractions have one nearest whole number
near_same : (N D a c : ℕ) → 0 < D → 0 < c → N * c ≡ a * D → near N D ≡ near a c
near_same N D a c P C h =
    sym (near_halves N D P)
    ∙ ap (λ (x : ℕ). (x + 1) / 2) (div_same (N * 2) D (a * 2) c P C (mul_right_comm N 2 c ∙ ap (λ (x : ℕ). x * 2) h ∙ mul_right_comm a D 2))
    ∙ near_halves a c C

-- ---- four times n / d, for n / d up to 16384
own : (y : Float) (a c : ℕ) → HasValue y false a c → HasValue y false (num y) (den y)
own nan a c v = v
own (inf s) a c v = v
own (fin s m e) a c v = (v.0, refl)

abbrev Quartered : Float → ℕ → ℕ → Type 0
Quartered y n d = LowCoarse y × (near (num y) (den y) ≡ near (n * 4) d)

fourfold : (z : Float) (n d : ℕ) → T (fits binary32 z) → 0 < d → n ≤ 16384 * d → HasValue z false n d → Quartered (mul binary64 z f4) n d
fourfold nan n d t D l v = absurd v
fourfold (inf s) n d t D l v = absurd v
fourfold (fin true m e) n d t D l v = absurd (true≢false v.0)
fourfold (fin false m e) n d t D l v =
    let N = m * up e in
    let E = down e in
    let P : 0 < E = down_pos e in
    let y = mul binary64 (fin false m e) f4 in
    let low : N ≤ 16384 * E = le_of_mul-le-mul_right (le_trans (le_of_eq v.1) (le_trans (mul-le-mul_right E l) (le_of_eq (mul_right_comm 16384 d E)))) D in
    let b : N * 4 < 2 ^ 17 * E = omega arith in
    let w : HasValue y false (N * 4) E = scaled binary64 false m e 2 (fits_widens (fin false m e) t) (lt_of_lt_of_le b (mul-le-mul_right E (lit≤ tt))) in
    let c : num y * E ≡ N * 4 * den y = value→cross y (N * 4) E w in
    let four : N * 4 ≤ 131072 * E = omega arith in (
      (own y (N * 4) E w, (le_of_mul-le-mul_right (le_trans (le_of_eq c) (le_trans (mul-le-mul_right (den y) four) (le_of_eq (mul_right_comm 131072 E (den y))))) P, coarse (fin false m e) 2 (num y) (den y) t (den_pos y) c)),
      near_same (num y) (den y) (N * 4) E (den_pos y) P c
          ∙ near_same (N * 4) E (n * 4) d P D (mul_right_comm N 4 d ∙ ap (λ (x : ℕ). x * 4) v.1 ∙ mul_right_comm n E 4),
    )

-- the cut before the product is the cut after it
capped : (N D : ℕ) → 0 < D → near (min N (16384 * D) * 4) D ≡ min (near (N * 4) D) 65536
capped N D P = go (leb N (16384 * D)) (leb→le N (16384 * D)) (nleb→lt N (16384 * D))
  where
    go : (b : Bool) → (T b → N ≤ 16384 * D) → (T (not b) → 16384 * D < N) → near (min N (16384 * D) * 4) D ≡ min (near (N * 4) D) 65536
    go true h k =
        let l : N ≤ 16384 * D = h tt in
        let is : min N (16384 * D) ≡ N = omega arith in
        let u : (N * 4 * 2 + D) / (D * 2) < 65537 = (div-lt_iff_lt-mul {k = D * 2} (omega arith)).1 (omega arith) in
        ap (λ (x : ℕ). near (x * 4) D) is ∙ omega arith
    go false h k =
        let l : 16384 * D < N = k tt in
        let is : min N (16384 * D) ≡ 16384 * D = omega arith in
        let all : 65536 ≤ near (N * 4) D = near_all 65536 (N * 4) D P (omega arith) in
        let full : near (16384 * D * 4) D ≡ 65536 = div-eq_of_lt-le (D * 2) (omega arith) (omega arith) in
        ap (λ (x : ℕ). near (x * 4) D) is ∙ full ∙ omega arith

-- ---- x
-- the size of `quarter_of`
abbrev pub size_of : Float → ℕ
size_of nan = 0
size_of (inf s) = 65536
size_of (fin s m e) = min (near (m * up e * 4) (down e)) 65536

size_of_le : (x : Float) → size_of x ≤ 65536
size_of_le nan = omega arith
size_of_le (inf s) = omega arith
size_of_le (fin s m e) = omega arith

cut-size : (s : Bool) (m : ℕ) (e : ℤ) → HasValue (cut_size (fin s m e)) false (min (m * up e) (16384 * down e)) (down e)
unfolding lt neg
cut-size false m e = go (ltb (m * up e * 1) (0 * down e)) (ltb-true (m * up e * 1) (0 * down e))
  where
    go : (b : Bool) → (b ≡ true → m * up e * 1 < 0 * down e) → HasValue (upto (top 14) (above0 (cond b (fin true m e) (fin false m e)))) false (min (m * up e) (16384 * down e)) (down e)
    go true p =
        let no : ⊥ = omega (arith, p refl, zero-mul (down e)) in
        absurd no
    go false p = clipped 14 m e
cut-size true m e = go (ltb 0 (m * up e * 1 + 0 * down e)) (ltb-false 0 (m * up e * 1 + 0 * down e))
  where
    go : (b : Bool) → (b ≡ false → m * up e * 1 + 0 * down e ≤ 0) → HasValue (upto (top 14) (above0 (cond b (fin false m e) (fin true m e)))) false (min (m * up e) (16384 * down e)) (down e)
    go true p = clipped 14 m e
    go false p =
        let none : m * up e ≡ 0 = omega (arith, p refl) in
        let is : min (m * up e) (16384 * down e) ≡ 0 = omega arith in
        (refl, zero-mul (down e) ∙ sym (ap (λ (x : ℕ). x * 1) is))

cut_fits : (x : Float) → T (fits binary32 x) → T (fits binary32 (cut_size x))
cut_fits x t =
    let a : T (fits binary32 (size x)) = cond-fits binary32 (lt x f0) (neg x) x (neg-fits binary32 x t) t in
    let b : T (fits binary32 (above0 (size x))) = cond-fits binary32 (lt f0 (size x)) (size x) f0 a (unfold fits in tt) in
    cond-fits binary32 (lt (above0 (size x)) (top 14)) (above0 (size x)) (top 14) b (unfold fits in tt)

-- the product's nearest whole number is the size of `quarter_of`
quarters_near : (x : Float) → T (fits binary32 x) → LowCoarse (quarters x) × (near (num (quarters x)) (den (quarters x)) ≡ size_of x)
unfolding lt neg mul round
quarters_near nan t = (((refl, refl), (omega arith, inl (0, refl))), refl)
quarters_near (inf true) t = (((refl, refl), (omega arith, inl (65536 * 2 ^ 26, refl))), refl)
quarters_near (inf false) t = (((refl, refl), (omega arith, inl (65536 * 2 ^ 26, refl))), refl)
quarters_near (fin s m e) t =
    let D = down e in
    let n = min (m * up e) (16384 * D) in
    let l : n ≤ 16384 * D = omega arith in
    let q = fourfold (cut_size (fin s m e)) n D (cut_fits (fin s m e) t) (down_pos e) l (cut-size s m e) in
    (q.0, q.1 ∙ capped (m * up e) D (down_pos e))

-- y is four times the size of x cut off by the two selects in turn: what `nearest` asks of it and what it gives
pub record Quarters (x y : Float) : Type 0 where
  pub low : LowCoarse y
  pub small : near (num y) (den y) ≤ 65536
  pub is : near (num y) (den y) ≡ size_of x

pub quarters_of : {x u z r : Float} → T (fits binary32 x) → u ≡ size x → z ≡ above0 u → r ≡ upto (top 14) z → Quarters x (mul binary64 r f4)
quarters_of {x = x} {u = u} {z = z} {r = r} t o p q =
    let k = quarters_near x t in
    let cut : r ≡ cut_size x = q ∙ ap (λ (v : Float). upto (top 14) v) (p ∙ ap (λ (v : Float). above0 v) o) in
    let n : near (num (quarters x)) (den (quarters x)) ≤ 65536 = omega (arith, k.1, size_of_le x) in
    subst (λ (v : Float). Quarters x (mul binary64 v f4)) (sym cut) (record { low = k.0; small = n; is = k.1 })

-- with its sign
pub quarter_below : (x : Float) → lt x f0 ≡ true → neg_ℤ (pos (size_of x)) ≡ quarter_of x
unfolding lt
quarter_below nan p = absurd (true≢false (sym p))
quarter_below (inf false) p = absurd (true≢false (sym p))
quarter_below (inf true) p = refl
quarter_below (fin false m e) p =
    let no : ⊥ = omega (arith, ltb-true (m * up e * 1) (0 * down e) p, zero-mul (down e)) in
    absurd no
quarter_below (fin true m e) p = refl

pub quarter_above : (x : Float) → lt x f0 ≡ false → pos (size_of x) ≡ quarter_of x
unfolding lt
quarter_above nan p = refl
quarter_above (inf true) p = absurd (true≢false p)
quarter_above (inf false) p = refl
quarter_above (fin false m e) p = refl
quarter_above (fin true m e) p =
    let none : m * up e ≡ 0 = omega (arith, ltb-false 0 (m * up e * 1 + 0 * down e) p) in
    let flat : min (near (m * up e * 4) (down e)) 65536 ≡ 0 = ap (λ (x : ℕ). min (near (x * 4) (down e)) 65536) none ∙ ap (λ (x : ℕ). min x 65536) (near_none (down e) (down_pos e)) in
    ap pos flat ∙ ap (λ (n : ℕ). neg_ℤ (pos n)) (sym flat)

pub whole_le : (g : ℕ → ℕ → ℕ) (cap : ℕ) (y : Float) → whole g cap y ≤ cap
whole_le g cap nan = omega arith
whole_le g cap (inf true) = omega arith
whole_le g cap (inf false) = omega arith
whole_le g cap (fin true m e) = omega arith
whole_le g cap (fin false m e) = omega arith
