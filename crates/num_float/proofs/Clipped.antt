-- A float cut off at 0 and at 2 ^ k, with 0 for a NaN, as two selects do it. Assumes nothing.
use mathlib.Core.Path.{◌≡◌, refl, sym, ap, subst}
use Prim.Native.Nat.{ℕ, ◌*◌, ◌^◌, ◌≤◌, ◌<◌, min}
use native.Mathlib.Nat.{zero-mul, mul-one, one-mul, le_of_lt}
use native.Mathlib.Omega.{arith}
use mathlib.Core.Bool.{Bool, true, false, cond}
use borrow.Author.Tests.{ltb-true, ltb-false}
use lib.IntN.{ℤ, pos}
use lib.Dec.{ltb}
use lib.Pow.{pow_pos}
use lib.Ieee.{Float, fin, up, down, lt}
use lib.Ieee.Exact.{HasValue}
use Rattle.num_float.specs.Color.{f0}

-- the first select, and the second
abbrev pub above0 : Float → Float
above0 v = cond (lt f0 v) v f0

abbrev pub upto : Float → Float → Float
upto top v = cond (lt v top) v top

-- 2 ^ k
abbrev pub top : ℕ → Float
top k = fin false 1 (pos k)

-- ---- the size of what is left of n / d, which is min (n / d) (2 ^ k)
low_top : (k : ℕ) (b : Bool) → (b ≡ false → 1 * 2 ^ k * 1 ≤ 0) → cond b f0 (top k) ≡ f0
low_top k true h = refl
low_top k false h =
    let p : 0 < 2 ^ k = pow_pos k in
    let no : ⊥ = omega (arith, simp (mul-one, one-mul) at (h refl)) in
    absurd no

-- 0 is below every 2 ^ k
pub none : (k : ℕ) → upto (top k) f0 ≡ f0
unfolding lt
none k = low_top k (ltb 0 (1 * 2 ^ k * 1)) (ltb-false 0 (1 * 2 ^ k * 1))

module _ (k m : ℕ) (e : ℤ) where
  abbrev N : ℕ
  N = m * up e

  abbrev D : ℕ
  D = down e

  -- what holds of what is left, by whether that is n / d, 2 ^ k or 0
  pub left : (P : Float → Type 0) → (N ≤ 2 ^ k * D → P (fin false m e)) → (2 ^ k * D ≤ N → P (top k)) → (N ≡ 0 → P f0) → P (upto (top k) (above0 (fin false m e)))
  unfolding lt
  left P own most nil = above (ltb (0 * D) (N * 1)) (ltb-false (0 * D) (N * 1))
    where
      in_top : (b : Bool) → (b ≡ true → N * 1 < 1 * 2 ^ k * D) → (b ≡ false → 1 * 2 ^ k * D ≤ N * 1) → P (cond b (fin false m e) (top k))
      in_top true p q = own (le_of_lt (simp (mul-one, one-mul) at (p refl)))
      in_top false p q = most (simp (mul-one, one-mul) at (q refl))

      above : (b : Bool) → (b ≡ false → N * 1 ≤ 0 * D) → P (upto (top k) (cond b (fin false m e) f0))
      above true q = in_top (ltb (N * 1) (1 * 2 ^ k * D)) (ltb-true (N * 1) (1 * 2 ^ k * D)) (ltb-false (N * 1) (1 * 2 ^ k * D))
      above false q = subst P (sym (none k)) (nil (omega (arith, q refl, zero-mul D)))

  pub clipped : HasValue (upto (top k) (above0 (fin false m e))) false (min N (2 ^ k * D)) D
  clipped =
      left (λ (z : Float). HasValue z false (min N (2 ^ k * D)) D)
      (λ h. (refl, ap (λ (x : ℕ). x * D) (omega arith)))
      (λ h. (refl, omega (arith, mul-one (min N (2 ^ k * D)), one-mul (2 ^ k))))
      (λ z. (refl, omega (arith, zero-mul D)))
