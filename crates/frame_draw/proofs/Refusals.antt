-- Whether each flag is at most 1. Assumes nothing.
use mathlib.Core.Path.{◌≡◌, refl, sym, ◌∙◌}
use native.Mathlib.Omega.{arith}
use mathlib.Core.Bool.{Bool, true, false, ◌&&◌, and-false}
use mathlib.Core.List.{List, [], ◌∷◌}
use Rattle.std.specs.Bool.{MatchBool}
use Rattle.std.specs.List.{AllWithin, HoldsAt}
use Prim.Native.Nat.{ℕ, zero, suc, ◌≤◌, ◌<◌}
use borrow.Author.Tests.{le-leb, lt-leb}
use lib.Dec.{leb}
use lib.ListN.{length, get_or}
use Rattle.frame_draw.specs.Checks.{flags_ok}

flags_all : (ps : List ℕ) → ((k : ℕ) → k < length ps → get_or ps k 0 ≤ 1) → true ≡ flags_ok ps
unfolding flags_ok
flags_all [] h = refl
flags_all (p ∷ ps) h = λ i. sym (le-leb p 1 (h 0 (omega arith))) i && flags_all ps (λ k l. h (suc k) (omega arith)) i

flags_one : (ps : List ℕ) (k : ℕ) → k < length ps → 1 < get_or ps k 0 → false ≡ flags_ok ps
unfolding flags_ok
flags_one [] k l n = absurd (omega arith)
flags_one (p ∷ ps) zero l n = λ i. sym (lt-leb p 1 n) i && flags_ok ps
flags_one (p ∷ ps) (suc k) l n = sym (and-false (leb p 1)) ∙ (λ i. leb p 1 && flags_one ps k (omega arith) n i)

pub flags_by : (r : Bool) (ps : List ℕ) → MatchBool r (AllWithin (λ x. x ≤ 1) ps 0 (length ps)) ((k : ℕ) × (k < length ps) × HoldsAt (λ x. 1 < x) ps k) → r ≡ flags_ok ps
flags_by true ps m = flags_all ps (λ k l. m k 0 (omega arith) l)
flags_by false ps m = flags_one ps m.0 m.1 (m.2 0)
