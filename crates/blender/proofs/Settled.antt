-- Where `destination` gives one number for every memory coverage. The eight questions come down to two: if it gives one number for 0 and for 7 it gives that for all; and
-- `settled_of`, which asks none, is what the two say. Assumes nothing.
use Prim.Native.Nat.{ℕ, ◌+◌, ◌-◌, ◌%◌, ◌≤◌, min}
use mathlib.Core.Path.{◌≡◌, refl, sym, ap, ◌∙◌}
use mathlib.Core.Bool.{Bool, true, false, cond, not, ◌&&◌, ◌||◌}
use native.Mathlib.Omega.{arith}
use borrow.Author.Tests.{leb-true, leb-false, eq-eqb, ne_eqb, le-leb, lt-leb}
use lib.Dec.{leb, eqb}
use Rattle.state.specs.declared.RenderMode.{RenderMode}
use Rattle.blender.specs.Coverage.{Coverage}
use Rattle.std.specs.Prelude.{None, Some}
use Rattle.blender.specs.Coverage.{overflow, blends, clamp_of, destination_of}
use Rattle.blender.specs.Settled.{settled_clamp, settled_of}

-- what two answers say: the number, if they are one
abbrev pub one_number : ℕ → ℕ → Coverage
one_number last first = cond (eqb last first) (Some first) None

one_known : (last first v : ℕ) → last ≡ v → first ≡ v → Some v ≡ one_number last first
one_known last first v p q = sym ((λ i. cond (eq-eqb last first (p ∙ sym q) i) (Some first) None) ∙ ap Some q)

one_unknown : (last first : ℕ) → (last ≡ first → ⊥) → None ≡ one_number last first
one_unknown last first p = sym (λ i. cond (ne_eqb last first p i) (Some first) None)

module _ (n : ℕ) where
  abbrev clamp : Bool → Bool → ℕ → ℕ
  clamp f a c = cond (f || (a && not (overflow n c))) (min (n + c) 7) (n - 1)

  -- with antialiasing alone: the pixel's own samples where they overflow, else the sum
  own : (c : ℕ) → 8 ≤ n + c → clamp false true c ≡ n - 1
  own c l = λ i. cond (not (le-leb 8 (n + c) l i)) (min (n + c) 7) (n - 1)

  sum : (c : ℕ) → n + c ≤ 7 → clamp false true c ≡ n + c
  sum c l = (λ i. cond (not (lt-leb 8 (n + c) (omega arith) i)) (min (n + c) 7) (n - 1)) ∙ omega arith

  -- fewer than eight do not overflow over 0, and from one on they do over 7; none at all gives 0 and 7
  fewer : n ≤ 7 → clamp false true 7 ≡ clamp false true 0 → ⊥
  fewer l e = go (leb 1 n) refl
    where
      go : (b : Bool) → leb 1 n ≡ b → ⊥
      go true h =
          let last = own 7 (omega (arith, leb-true 1 n h)) in
          let first = sum 0 (omega arith) in
          let same : n - 1 ≡ n + 0 = sym last ∙ e ∙ first in
          omega (arith, leb-true 1 n h)
      go false h =
          let last = sum 7 (omega (arith, leb-false 1 n h)) in
          let first = sum 0 (omega arith) in
          let same : n + 7 ≡ n + 0 = sym last ∙ e ∙ first in
          omega arith

  clamp_ends : (f a : Bool) → clamp f a 7 ≡ clamp f a 0 → (c : ℕ) → clamp f a c ≡ clamp f a 0
  clamp_ends true a e c = omega arith
  clamp_ends false false e c = refl
  clamp_ends false true e c = go (leb 8 n) refl
    where
      go : (b : Bool) → leb 8 n ≡ b → clamp false true c ≡ clamp false true 0
      go true h = let l = leb-true 8 n h in own c (omega arith) ∙ sym (own 0 (omega arith))
      go false h = absurd (fewer (omega (arith, leb-false 8 n h)) e)

  -- the closed form of clamp
  settled-clamp :
      1 ≤ n → n ≤ 8 → (f a : Bool) → settled_clamp f a n ≡ one_number (clamp f a 7) (clamp f a 0)
  settled-clamp p q false false = one_known (n - 1) (n - 1) (n - 1) refl refl
  settled-clamp p q true a = go (leb 7 n) refl
    where
      go : (b : Bool) → leb 7 n ≡ b → cond b (Some 7) None ≡ one_number (min (n + 7) 7) (min (n + 0) 7)
      go true h = let l = leb-true 7 n h in one_known (min (n + 7) 7) (min (n + 0) 7) 7 (omega arith) (omega arith)
      go false h = let l = leb-false 7 n h in one_unknown (min (n + 7) 7) (min (n + 0) 7) (λ e. omega arith)
  settled-clamp p q false true = go (leb 8 n) refl
    where
      go : (b : Bool) → leb 8 n ≡ b → cond b (Some 7) None ≡ one_number (clamp false true 7) (clamp false true 0)
      go true h =
          let l = leb-true 8 n h in
          one_known (clamp false true 7) (clamp false true 0) 7 (own 7 (omega arith) ∙ omega arith) (own 0 (omega arith) ∙ omega arith)
      go false h = one_unknown (clamp false true 7) (clamp false true 0) (fewer (omega (arith, leb-false 8 n h)))

module _ (mode : RenderMode) (n : ℕ) where
  -- `destination` by its tests of cvg_dst
  abbrev at : Bool → Bool → Bool → ℕ → ℕ
  at zero wrap two c = cond zero (clamp n mode.force_blend mode.antialias c) (cond wrap ((n + c) % 8) (cond two 7 c))

  -- for every count and every number in place of a coverage
  pub ends_same : destination_of mode n 7 ≡ destination_of mode n 0 → (c : ℕ) → destination_of mode n c ≡ destination_of mode n 0
  unfolding destination_of blends clamp_of
  ends_same e c = go (eqb mode.cvg_dst 0) (eqb mode.cvg_dst 1) (eqb mode.cvg_dst 2) e
    where
      go : (zero wrap two : Bool) → at zero wrap two 7 ≡ at zero wrap two 0 → at zero wrap two c ≡ at zero wrap two 0
      go true wrap two e = clamp_ends n mode.force_blend mode.antialias e c
      go false true two e = absurd (omega arith)
      go false false true e = refl
      go false false false e = absurd (omega arith)

  pub settled_ends : 1 ≤ n → n ≤ 8 → settled_of mode n ≡ one_number (destination_of mode n 7) (destination_of mode n 0)
  unfolding settled_of destination_of blends clamp_of
  settled_ends p q = go (eqb mode.cvg_dst 0) (eqb mode.cvg_dst 1) (eqb mode.cvg_dst 2)
    where
      go : (zero wrap two : Bool) → cond zero (settled_clamp mode.force_blend mode.antialias n) (cond wrap None (cond two (Some 7) None)) ≡ one_number (at zero wrap two 7) (at zero wrap two 0)
      go true wrap two = settled-clamp n p q mode.force_blend mode.antialias
      go false true two = one_unknown ((n + 7) % 8) ((n + 0) % 8) (λ e. omega arith)
      go false false true = refl
      go false false false = refl
