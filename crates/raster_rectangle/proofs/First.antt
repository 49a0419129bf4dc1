-- The first quarter that does not lie before a side: the nearest one is no further off than half a quarter, so that it is this one or the next, and one comparison says which.
-- Assumes nothing.
use mathlib.Core.Path.{◌≡◌, refl, sym, ap, ◌∙◌}
use Prim.Native.Nat.{ℕ, zero, suc, ◌+◌, ◌*◌, ◌≤◌, ◌<◌, min}
use native.Mathlib.Nat.{mul-one, mul_assoc, add-mul, le-div_iff_mul-le, div-lt_iff_lt-mul, mul-le-mul_right}
use native.Mathlib.Omega.{arith}
use mathlib.Core.Bool.{Bool, true, false, not, cond, ◌&&◌, ◌||◌, false≢true}
use borrow.Author.Tests.{lt-ltb, le-ltb, lt-leb, le-leb, ltb-true, ltb-false, eq-eqb, ne_eqb}
use lib.Dec.{ltb, leb, eqb}
use lib.IntN.{pos, neg_ℤ}
use lib.Ieee.{Float, nan, inf, fin, up, down, lt, le, is_nan}
use lib.Ieee.Fits.{down_pos}
use Rattle.num_float.specs.Whole.{near, quarter_of}
use Rattle.raster_edge.specs.Bound.{clamp_of}
use Rattle.raster_edge.proofs.Clamped.{clamp_in}
use Rattle.raster_rectangle.specs.Rectangle.{quarters}
use Rattle.raster_rectangle.specs.Outline.{Before, From}

-- ---- `le`
-- a ≤ b, as it tests it
of_le : (a b : ℕ) (s : Bool) → ltb a b ≡ s → a ≤ b → s || (eqb a b && true) ≡ true
of_le a b true p h = refl
of_le a b false p h = λ i. eq-eqb a b (omega (arith, ltb-false a b p)) i && true

-- a number that is not positive is at most one that is not negative
neg_le : (a b : ℕ) (s : Bool) → ltb 0 (a + b) ≡ s → s || (eqb a b && eqb a 0) ≡ true
neg_le a b true p = refl
neg_le a b false p =
    let z = ltb-false 0 (a + b) p in
    λ i. eq-eqb a b (omega arith) i && eq-eqb a 0 (omega arith) i

times : (m n d : ℕ) → m ≤ n → m * 1 * d ≤ n * 1 * d
times m n d h = mul-le-mul_right d (omega arith)

-- ---- a / d in whole numbers
module _ (a d : ℕ) (D : 0 < d) where
  twice : (m : ℕ) → m * (d * 2) ≡ m * 1 * d * 2
  twice m = sym (mul_assoc m d 2) ∙ ap (λ (x : ℕ). x * d * 2) (sym (mul-one m))

  next : (m : ℕ) → (m + 1) * 1 * d ≡ m * 1 * d + d
  next m =
      let a : (m + 1) * 1 ≡ m * 1 + 1 = omega arith in
      let b : 1 * d ≡ d = omega arith in
      ap (λ (x : ℕ). x * d) a ∙ add-mul (m * 1) 1 d ∙ ap (λ (x : ℕ). m * 1 * d + x) b

  near_below : (m : ℕ) → m ≤ near a d → m * 1 * d * 2 ≤ a * 2 + d
  near_below m h = omega (arith, twice m, (le-div_iff_mul-le {k = d * 2} (omega arith)).0 h)

  near_above : (m : ℕ) → near a d ≤ m → a * 2 + d < m * 1 * d * 2 + d * 2
  near_above m h =
      let l : near a d < m + 1 = omega arith in
      omega (arith, twice m, add-mul m 1 (d * 2), (div-lt_iff_lt-mul {k = d * 2} (omega arith)).0 l)

  -- m is the nearest, but at most 4095; t says whether it lies before a / d
  first : (m q : ℕ) → m ≡ min (near a d) 4095 → q < 4096 → (t : Bool) → ltb (m * 1 * d) a ≡ t → ltb (q * 1 * d) a ≡ ltb q (cond t (m + 1) m)
  first m q e h true k = by (ltb q (m + 1)) refl
    where
      by : (t : Bool) → ltb q (m + 1) ≡ t → ltb (q * 1 * d) a ≡ t
      by true p =
          let l = ltb-true q (m + 1) p in
          lt-ltb (q * 1 * d) a (omega (arith, times q m d (omega arith), ltb-true (m * 1 * d) a k))
      by false p =
          let l = ltb-false q (m + 1) p in
          le-ltb (q * 1 * d) a (omega (arith, times (m + 1) q d (omega arith), next m, near_above m (omega arith)))
  first m q e h false k = by (ltb q m) refl
    where
      by : (t : Bool) → ltb q m ≡ t → ltb (q * 1 * d) a ≡ t
      by true p =
          let l = ltb-true q m p in
          lt-ltb (q * 1 * d) a (omega (arith, times (q + 1) m d (omega arith), next q, near_below m (omega arith)))
      by false p =
          let l = ltb-false q m p in
          le-ltb (q * 1 * d) a (omega (arith, times m q d (omega arith), ltb-false (m * 1 * d) a k))

-- ---- the quarters before a side
neg_clamp : (n hi : ℕ) → clamp_of (neg_ℤ (pos n)) 0 hi ≡ 0
neg_clamp zero hi = omega arith
neg_clamp (suc n) hi = refl

before_side : (side : Float) (m q : ℕ) → m ≡ clamp_of (quarter_of side) 0 4095 → q < 4096 → (t : Bool) → lt (quarters m) side ≡ t → lt (quarters q) side ≡ ltb q (cond t (m + 1) m)
unfolding lt
before_side nan m q e h true k = cc
before_side nan m q e h false k = sym (le-ltb q m (omega arith))
before_side (inf true) m q e h true k = cc
before_side (inf true) m q e h false k = sym (le-ltb q m (omega arith))
before_side (inf false) m q e h true k = sym (lt-ltb q (m + 1) (omega arith))
before_side (inf false) m q e h false k = cc
before_side (fin true n d) m q e h true k = cc
before_side (fin true n d) m q e h false k = sym (le-ltb q m (omega (arith, neg_clamp (min (near (n * up d * 4) (down d)) 65536) 4095)))
before_side (fin false n d) m q e h t k = first (n * up d * 4) (down d) (down_pos d) m q (omega arith) h t k

pub before_is : (side : Float) (m : ℕ) (t : Bool) → m ≡ clamp_of (quarter_of side) 0 4095 → lt (quarters m) side ≡ t → Before side (cond t (m + 1) m)
before_is side m t e k = record { most = by t; is = λ q h. before_side side m q e h t k }
  where
    by : (t : Bool) → cond t (m + 1) m ≤ 4096
    by true = omega (arith, clamp_in (quarter_of side) 0 4095 (omega arith))
    by false = omega (arith, clamp_in (quarter_of side) 0 4095 (omega arith))

-- ---- at a side or after it is not before it, unless it is a NaN
not_less : (a b : ℕ) (s : Bool) → ltb b a ≡ s → ltb a b || (eqb a b && true) ≡ not s
not_less a b true p =
    let l = ltb-true b a p in
    λ i. le-ltb a b (omega arith) i || (ne_eqb a b (λ x. omega arith) i && true)
not_less a b false p = of_le a b (ltb a b) refl (ltb-false b a p)

after_side : (side : Float) (q : ℕ) → is_nan side ≡ false → le side (quarters q) ≡ not (lt (quarters q) side)
unfolding lt le is_nan
after_side nan q e = sym e
after_side (inf true) q e = refl
after_side (inf false) q e = refl
after_side (fin true k d) q e = neg_le (k * up d * 4) (q * 1 * down d) (ltb 0 (k * up d * 4 + q * 1 * down d)) refl
after_side (fin false k d) q e = not_less (k * up d * 4) (q * 1 * down d) (ltb (q * 1 * down d) (k * up d * 4)) refl

not_ltb : (q n : ℕ) → not (ltb q n) ≡ leb n q
not_ltb q n = by (ltb q n) refl
  where
    by : (t : Bool) → ltb q n ≡ t → not t ≡ leb n q
    by true p = sym (lt-leb n q (ltb-true q n p))
    by false p = sym (le-leb n q (ltb-false q n p))

pub from_is : (side : Float) (n : ℕ) → is_nan side ≡ false → Before side n → From side n
from_is side n e w = record { most = w.most; is = λ q h. after_side side q e ∙ ap not (w.is q h) ∙ not_ltb q n }

-- none are at a NaN or after it
pub from_nan : (side : Float) → is_nan side ≡ true → From side 4096
unfolding le is_nan
from_nan nan e = record { most = omega arith; is = λ q h. sym (lt-leb 4096 q h) }
from_nan (inf s) e = absurd (false≢true e)
from_nan (fin s m d) e = absurd (false≢true e)
