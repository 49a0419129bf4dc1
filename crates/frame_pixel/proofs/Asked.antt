-- Eight questions, one for each memory coverage: the lemmas that go by their list. Assumes nothing.
use Prim.Native.Nat.{ℕ, ◌≤◌}
use mathlib.Core.Path.{◌≡◌, sym, ap, ◌∙◌}
use mathlib.Core.Bool.{Bool, true, false, cond, ◌&&◌}
use native.Mathlib.Omega.{arith}
use borrow.Author.Tests.{eq-eqb}
use lib.Dec.{eqb}
use Rattle.state.specs.declared.RenderMode.{RenderMode}
use Rattle.std.specs.Prelude.{None, Some}
use Rattle.blender.specs.Coverage.{destination_of}
use Rattle.std.proofs.Math.Bool.{and-false}
use Rattle.frame_pixel.specs.Rules.{all_eight, fresh_coverage}

-- ---- eight questions
pub all_yes : (asked : ℕ → Bool) → ((c : ℕ) → c ≤ 7 → asked c ≡ true) → all_eight asked ≡ true
all_yes asked said =
    λ i.
    said 0 (omega arith) i && said 1 (omega arith) i && said 2 (omega arith) i && said 3 (omega arith) i && said 4 (omega arith) i && said 5 (omega arith) i
    && said 6 (omega arith) i && said 7 (omega arith) i

pub last_no : (asked : ℕ → Bool) → asked 7 ≡ false → all_eight asked ≡ false
last_no asked e =
    let others = asked 0 && asked 1 && asked 2 && asked 3 && asked 4 && asked 5 && asked 6 in
    (λ i. others && e i) ∙ and-false others

-- ---- `destination` asked eight times
module _ (mode : RenderMode) (n : ℕ) where
  abbrev d : ℕ → ℕ
  d c = destination_of mode n c

  -- one number for all eight is known
  pub fresh_known : (v : ℕ) → ((c : ℕ) → c ≤ 7 → destination_of mode n c ≡ v) → fresh_coverage mode n ≡ Some v
  unfolding fresh_coverage
  fresh_known v same =
      let first = same 0 (omega arith) in
      let all = all_yes (λ c. eqb (d c) (d 0)) (λ c l. eq-eqb (d c) (d 0) (same c l ∙ sym first)) in
      (λ i. cond (all i) (Some (d 0)) None) ∙ ap Some first
