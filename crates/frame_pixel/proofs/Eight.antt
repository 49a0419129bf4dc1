-- F5 over a coverage that is not known: known exactly where `destination` gives one number for all eight memory coverages, which is where it gives one for 0 and for 7.
-- The closed form that the code goes by is the same. Assumes nothing.
use Prim.Native.Nat.{ℕ, ◌≤◌}
use mathlib.Core.Path.{◌≡◌, refl, sym, ap, ◌∙◌}
use mathlib.Core.Bool.{Bool, true, false, cond}
use borrow.Author.Tests.{eqb-true, eqb-false, ne_eqb}
use lib.Dec.{eqb}
use Rattle.state.specs.declared.RenderMode.{RenderMode}
use Rattle.std.specs.Prelude.{None, Some}
use Rattle.blender.specs.Coverage.{destination_of}
use Rattle.blender.specs.Blend.{or_zero}
use Rattle.blender.specs.Settled.{settled_of}
use Rattle.blender.proofs.Settled.{one_number, ends_same, settled_ends}
use Rattle.std.proofs.lemmas.Bool.{false≢true}
use Rattle.frame_pixel.specs.Marks.{unknown}
use Rattle.frame_pixel.specs.Rules.{fresh_coverage}
use Rattle.frame_pixel.proofs.Asked.{last_no, fresh_known}

-- ---- `destination` asked eight times
module _ (mode : RenderMode) (n : ℕ) where
  abbrev d : ℕ → ℕ
  d c = destination_of mode n c

  -- two numbers are not
  pub fresh_unknown : (destination_of mode n 7 ≡ destination_of mode n 0 → ⊥) → fresh_coverage mode n ≡ None
  unfolding fresh_coverage
  fresh_unknown differ = λ i. cond (last_no (λ c. eqb (d c) (d 0)) (ne_eqb (d 7) (d 0) differ) i) (Some (d 0)) None

  -- so the eight questions come down to two
  fresh_ends : fresh_coverage mode n ≡ one_number (destination_of mode n 7) (destination_of mode n 0)
  fresh_ends = go (eqb (d 7) (d 0)) refl
    where
      go : (b : Bool) → eqb (d 7) (d 0) ≡ b → fresh_coverage mode n ≡ cond b (Some (d 0)) None
      go true e = fresh_known mode n (d 0) (λ c l. ends_same mode n (eqb-true (d 7) (d 0) e) c)
      go false e = fresh_unknown (eqb-false (d 7) (d 0) e)

  -- what is known is the number that `destination` gives, whatever memory has
  pub fresh_same : (v : ℕ) → fresh_coverage mode n ≡ Some v → (c : ℕ) → destination_of mode n c ≡ v
  fresh_same v e c = go (eqb (d 7) (d 0)) refl (sym fresh_ends ∙ e)
    where
      go : (b : Bool) → eqb (d 7) (d 0) ≡ b → cond b (Some (d 0)) None ≡ Some v → d c ≡ v
      go true t q = ends_same mode n (eqb-true (d 7) (d 0) t) c ∙ ap or_zero q
      go false t q = absurd (false≢true (sym (ap unknown q)))

  -- the closed form
  pub fresh_settled : 1 ≤ n → n ≤ 8 → fresh_coverage mode n ≡ settled_of mode n
  fresh_settled p q = fresh_ends ∙ sym (settled_ends mode n p q)
