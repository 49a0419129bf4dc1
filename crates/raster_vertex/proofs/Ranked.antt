-- The order of finite floats, on their sizes over one denominator. `total_le` and `le` are each a strict test or else an equality; the two
-- laws at the top take such a test apart and put it together, and the rest is a case for each pair of signs.
use mathlib.Core.Path.{◌≡◌, refl, sym, ◌∙◌}
use mathlib.Core.Bool.{Bool, true, false, not, ◌&&◌, ◌||◌, true≢false, false≢true}
use Prim.Native.Nat.{ℕ, ◌+◌, ◌*◌, ◌≤◌}
use native.Mathlib.Omega.{arith}
use borrow.Author.Tests.{ltb-true, ltb-false, eqb-true, eq-eqb}
use lib.IntN.{ℤ}
use lib.Dec.{ltb, eqb}
use lib.Ieee.{Float, nan, inf, fin, up, down, below, level, lt, eq, le}
use Rattle.num_float.specs.Color.{is_finite, total_le}
use Rattle.std.proofs.lemmas.Bool.{and_parts, or_parts}

-- a is below b, or else e says that they are equal
at_most : (a b : ℕ) (p e : Bool) → ltb a b ≡ p → (e ≡ true → a ≡ b) → (p || e) ≡ true → a ≤ b
at_most a b true e t f h = omega (arith, ltb-true a b t)
at_most a b false e t f h = omega (arith, f h)

from_most : (a b : ℕ) (p e : Bool) → ltb a b ≡ p → (a ≡ b → e ≡ true) → a ≤ b → (p || e) ≡ true
from_most a b true e t f h = refl
from_most a b false e t f h = f (omega (arith, ltb-false a b t))

-- what `total_le` and `le` say of ±a and ±b
abbrev pub Rank : Bool → ℕ → Bool → ℕ → Type 0
Rank false a false b = a ≤ b
Rank false a true b = ⊥
Rank true a false b = Unit
Rank true a true b = b ≤ a

abbrev ranked : Bool → ℕ → Bool → ℕ → Bool
ranked s a t b = below s a t b || (level s a t b && (s || not t))

equal : (a b : ℕ) (q r : Bool) → (eqb a b && q && r) ≡ true → a ≡ b
equal a b q r h = eqb-true a b (and_parts (eqb a b) q (and_parts (eqb a b && q) r h).0).0

rank : (s : Bool) (a : ℕ) (t : Bool) (b : ℕ) → ranked s a t b ≡ true → Rank s a t b
rank false a false b h = at_most a b (ltb a b) (eqb a b && true && true) refl (equal a b true true) h
rank false a true b h = absurd (false≢true (and_parts (level false a true b) false h).1)
rank true a false b h = tt
rank true a true b h = at_most b a (ltb b a) (eqb a b && true && true) refl (λ e. sym (equal a b true true e)) h

-- a negative number, -0 among them, is before each that is not
opposite : (a b : ℕ) → ranked true a false b ≡ true
opposite a b = from_most 0 (a + b) (ltb 0 (a + b)) (eqb a b && eqb a 0 && true) refl (λ z. simp (eq-eqb a b (omega arith), eq-eqb a 0 (omega arith))) (omega arith)

other_way : (s : Bool) (a : ℕ) (t : Bool) (b : ℕ) → ranked s a t b ≡ false → ranked t b s a ≡ true
other_way false a false b h =
    from_most b a (ltb b a) (eqb b a && true && true) refl (λ e. simp (eq-eqb b a e)) (ltb-false a b (or_parts (ltb a b) _ h).0)
other_way false a true b h = opposite b a
other_way true a false b h = absurd (true≢false (sym (opposite a b) ∙ h))
other_way true a true b h =
    from_most a b (ltb a b) (eqb b a && true && true) refl (λ e. simp (eq-eqb b a (sym e))) (ltb-false b a (or_parts (ltb b a) _ h).0)

-- ---- on floats
pub total_rank : (s : Bool) (m : ℕ) (e : ℤ) (t : Bool) (n : ℕ) (d : ℤ) → total_le (fin s m e) (fin t n d) ≡ true → Rank s (m * up e * down d) t (n * up d * down e)
unfolding lt eq
total_rank s m e t n d h = rank s (m * up e * down d) t (n * up d * down e) h

-- `<=` says the same of floats of one sign
pub le_rank : (s : Bool) (m : ℕ) (e : ℤ) (n : ℕ) (d : ℤ) → le (fin s m e) (fin s n d) ≡ true → Rank s (m * up e * down d) s (n * up d * down e)
unfolding le lt eq
le_rank false m e n d h =
    let a = m * up e * down d in
    let b = n * up d * down e in
    at_most a b (ltb a b) (eqb a b && true) refl (λ q. eqb-true a b (and_parts (eqb a b) true q).0) h
le_rank true m e n d h =
    let a = m * up e * down d in
    let b = n * up d * down e in
    at_most b a (ltb b a) (eqb a b && true) refl (λ q. sym (eqb-true a b (and_parts (eqb a b) true q).0)) h

-- Of two finite floats one is at or before the other.
pub total_or : (a b : Float) → is_finite a ≡ true → is_finite b ≡ true → total_le a b ≡ false → total_le b a ≡ true
unfolding lt eq
total_or nan b f g h = absurd (false≢true f)
total_or (inf s) b f g h = absurd (false≢true f)
total_or (fin s m e) nan f g h = absurd (false≢true g)
total_or (fin s m e) (inf t) f g h = absurd (false≢true g)
total_or (fin s m e) (fin t n d) f g h = other_way s (m * up e * down d) t (n * up d * down e) h
