-- A refusal's number is not 0, and it tells the refusal. Assumes nothing.
use Prim.Native.Nat.{ℕ, ◌-◌, ◌≤◌}
use mathlib.Core.Path.{◌≡◌, refl}
use mathlib.Core.List.{List, [], ◌∷◌}
use native.Mathlib.Omega.{arith}
use lib.ListN.{get_or}
use Rattle.refused.specs.declared.Refusal.{Refusal}
use Rattle.refused.specs.declared.Refusal.TheVariants as refusal
use Rattle.refused.specs.Numbers.{number_of}

pub positive : (e : Refusal) → 1 ≤ number_of e
positive refusal.Size = omega arith
positive refusal.Lengths = omega arith
positive refusal.Marks = omega arith
positive refusal.Scissor = omega arith
positive refusal.Lists = omega arith
positive refusal.Combiner = omega arith
positive refusal.Geometry = omega arith
positive refusal.Pixel = omega arith
positive refusal.Writer = omega arith
positive refusal.Unknown = omega arith
positive refusal.Arguments = omega arith
positive refusal.Words = omega arith
positive refusal.Slots = omega arith

-- the refusal that has a number; any at a number that none has
abbrev low : List Refusal
low =
    refusal.Size ∷ refusal.Size ∷ refusal.Lengths ∷ refusal.Marks ∷ refusal.Scissor ∷ refusal.Lists ∷ refusal.Combiner ∷ refusal.Geometry ∷ refusal.Pixel ∷ refusal.Writer ∷ refusal.Unknown ∷ refusal.Arguments ∷ []

abbrev high : List Refusal
high = refusal.Words ∷ refusal.Slots ∷ []

unfoldable pub refusal_at : ℕ → Refusal
refusal_at n = get_or low n (get_or high (n - 19) refusal.Size)

pub refusal_back : (e : Refusal) → refusal_at (number_of e) ≡ e
unfolding refusal_at
refusal_back refusal.Size = refl
refusal_back refusal.Lengths = refl
refusal_back refusal.Marks = refl
refusal_back refusal.Scissor = refl
refusal_back refusal.Lists = refl
refusal_back refusal.Combiner = refl
refusal_back refusal.Geometry = refl
refusal_back refusal.Pixel = refl
refusal_back refusal.Writer = refl
refusal_back refusal.Unknown = refl
refusal_back refusal.Arguments = refl
refusal_back refusal.Words = refl
refusal_back refusal.Slots = refl
