-- A `match` on the masked index gives the table's entry. The mask is a remainder, so an arm's number is the entry's place; the default arm
-- has missed every place of the table and stands past its end. Assumes nothing.
use Prim.Native.Nat.{ℕ, zero, suc, ◌-◌, ◌^◌, ◌≤◌}
use mathlib.Core.Path.{◌≡◌, refl, sym, ap, ◌∙◌}
use mathlib.Core.List.{List}
use native.Mathlib.Omega.{arith}
use lib.Arith.{lt_of_le-ne}
use lib.Bits.{bit_and, and_mask}
use lib.ListN.{length, get_or, get_or-eq_default}
use Rattle.combiner_inputs.specs.Combine.{select}

-- x is none of the n numbers from 0 up: what a default arm is told after the arms 0 to n - 1
abbrev pub Missed : ℕ → ℕ → Type 0
Missed zero x = Unit
Missed (suc n) x = Missed n x × (x ≡ n → ⊥)

pub missed_le : (n x : ℕ) → Missed n x → n ≤ x
missed_le zero x m = omega arith
missed_le (suc n) x m = lt_of_le-ne (missed_le n x m.0) (λ e. m.1 (sym e))

module _ {E : Type 0} (table : List E) (none : E) (width idx : ℕ) where
  -- an arm: the masked index is k
  pub entry : {k : ℕ} → bit_and idx (2 ^ width - 1) ≡ k → get_or table k none ≡ select table none width idx
  unfolding select
  entry e = ap (λ (n : ℕ). get_or table n none) (sym e ∙ and_mask idx width)

  -- the default arm
  pub rest : Missed (length table) (bit_and idx (2 ^ width - 1)) → none ≡ select table none width idx
  rest m = sym (get_or-eq_default table none (missed_le (length table) _ m)) ∙ entry refl
