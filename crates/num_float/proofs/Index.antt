-- `whole` by way of a float that is cut off at 0 and 2 ^ 17 by two selects, for a rounding that keeps whole numbers; and the ceiling from the floor. Assumes nothing.
use mathlib.Core.Path.{◌≡◌, refl, sym, ap, ◌∙◌, subst}
use Prim.Native.Nat.{ℕ, ◌+◌, ◌*◌, ◌/◌, ◌≤◌, ◌<◌}
use native.Mathlib.Nat.{mul-one, mul_right_comm, le_of_mul-le-mul_right, lt_of_mul-lt-mul_right}
use native.Mathlib.Omega.{arith}
use mathlib.Core.Bool.{true, false, true≢false}
use borrow.Author.Tests.{ltb-true, ltb-false}
use lib.IntN.{pos}
use lib.Ieee.{Float, nan, inf, fin, binary32, up, down, lt, round, of_int}
use lib.Ieee.Fits.{down_pos}
use lib.Ieee.Exact.{HasValue}
use lib.Ieee.Back.{round_whole}
use lib.Ieee.Positive.{num, den, den_pos}
use Rattle.num_float.specs.Whole.{whole, floor, ceil}
use Rattle.num_float.proofs.Cut.{floor_none, floor_all, floor_below, ceil_none, ceil_all, ceil_below, ceil_more, ceil_same}
use Rattle.num_float.proofs.Clipped.{above0, upto, top, left}

-- x cut off
abbrev pub clip : Float → Float
clip x = upto (top 17) (above0 x)

-- z is from 0 to 2 ^ 17, and rounds to what x rounds to
pub record Index (g : ℕ → ℕ → ℕ) (x z : Float) : Type 0 where
  pub value : HasValue z false (num z) (den z)
  pub bounded : num z ≤ 131072 * den z
  pub is : g (num z) (den z) ≡ whole g 131072 x

module _ (g : ℕ → ℕ → ℕ) (none : (b : ℕ) → 0 < b → g 0 b ≡ 0) (all : (n a b : ℕ) → 0 < b → n * b ≤ a → n ≤ g a b) (most : (n a b : ℕ) → 0 < b → a ≤ n * b → g a b ≤ n) where
  none_1 : g 0 1 ≡ 0
  none_1 = none 1 (omega arith)

  all_1 : g 131072 1 ≡ 131072
  all_1 =
      let lo : 131072 ≤ g 131072 1 = all 131072 131072 1 (omega arith) (omega arith) in
      let hi : g 131072 1 ≤ 131072 = most 131072 131072 1 (omega arith) (omega arith) in
      omega arith

  index : (x : Float) → Index g x (clip x)
  unfolding lt
  index nan = record { value = (refl, refl); bounded = omega arith; is = none_1 }
  index (inf true) = record { value = (refl, refl); bounded = omega arith; is = none_1 }
  index (inf false) = record { value = (refl, refl); bounded = omega arith; is = all_1 }
  index (fin true m e) = record { value = (refl, refl); bounded = omega arith; is = none_1 }
  index (fin false m e) =
      let P = down_pos e in
      left 17 m e (Index g (fin false m e))
      (λ l. record { value = (refl, refl); bounded = l; is = omega (arith, most 131072 (m * up e) (down e) P l) })
      (λ l. record { value = (refl, refl); bounded = omega arith; is = omega (arith, all_1, all 131072 (m * up e) (down e) P l) })
      (λ z. record { value = (refl, refl); bounded = omega arith; is = omega (arith, none_1, ap (λ (x : ℕ). g x (down e)) z, none (down e) P) })

  -- the same of y, which is x cut off by the two selects in turn
  cut_off : {x z y : Float} → z ≡ above0 x → y ≡ upto (top 17) z → Index g x y
  cut_off {x} p q = subst (Index g x) (sym (q ∙ ap (λ (v : Float). upto (top 17) v) p)) (index x)

pub floor_cut : {x z y : Float} → z ≡ above0 x → y ≡ upto (top 17) z → Index floor x y
floor_cut p q = cut_off floor floor_none floor_all floor_below p q

pub ceil_cut : {x z y : Float} → z ≡ above0 x → y ≡ upto (top 17) z → Index ceil x y
ceil_cut p q = cut_off ceil ceil_none ceil_all ceil_below p q

-- ---- the ceiling, by whether the whole part is below
-- w is the whole number n, and what w < x says
pub beside : (w x : Float) (n : ℕ) → HasValue w false n 1 → HasValue x false (num x) (den x) → (lt w x ≡ true → n * den x < num x) × (lt w x ≡ false → num x ≤ n * den x)
unfolding lt
beside nan x n v u = absurd v
beside (inf s) x n v u = absurd v
beside (fin true k d) x n v u = absurd (true≢false v.0)
beside (fin false k d) nan n v u = absurd u
beside (fin false k d) (inf s) n v u = absurd u
beside (fin false k d) (fin true m e) n v u = absurd (true≢false u.0)
beside (fin false k d) (fin false m e) n v u =
    let i : k * up d * down e ≡ n * down e * down d = ap (λ (x : ℕ). x * down e) (sym (mul-one (k * up d)) ∙ v.1) ∙ mul_right_comm n (down d) (down e) in (
      (λ p. lt_of_mul-lt-mul_right (down d) (subst (λ (x : ℕ). x < m * up e * down d) i (ltb-true (k * up d * down e) (m * up e * down d) p))),
      (λ p. le_of_mul-le-mul_right (subst (λ (x : ℕ). m * up e * down d ≤ x) i (ltb-false (k * up d * down e) (m * up e * down d) p)) (down_pos d)),
    )

-- t is the whole part of z, and z rounds up to what x rounds up to
pub record Ceiling (x z : Float) (t : ℕ) : Type 0 where
  pub small : t ≤ 131072
  pub below : lt (of_int binary32 (pos t)) z ≡ true → t + 1 ≡ whole ceil 131072 x
  pub even : lt (of_int binary32 (pos t)) z ≡ false → t ≡ whole ceil 131072 x

pub ceiling_cut : {x z y : Float} {t : ℕ} → z ≡ above0 x → y ≡ upto (top 17) z → t ≡ floor (num y) (den y) → Ceiling x y t
unfolding of_int
ceiling_cut {x = x} {z = z} {y = y} {t = t} p q part =
    let i : Index ceil x y = ceil_cut p q in
    let P = den_pos y in
    let small : num y / den y ≤ 131072 = floor_below 131072 (num y) (den y) P i.bounded in
    let b = beside (round binary32 false t 1) y t (round_whole binary32 false t (omega arith)) i.value in
    record {
      small = omega arith;
      below = λ h. omega (arith, i.is, ceil_more (num y) (den y) P (subst (λ (k : ℕ). k * den y < num y) part (b.0 h)));
      even = λ h. omega (arith, i.is, ceil_same (num y) (den y) P (subst (λ (k : ℕ). num y ≤ k * den y) part (b.1 h)));
    }
