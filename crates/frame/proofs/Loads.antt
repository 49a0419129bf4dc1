-- Laws of what is loaded of a pixel: what a byte is where its mark says that it is known and where not. Assumes nothing.
use Prim.Native.Nat.{ℕ, ◌≤◌}
use mathlib.Core.Path.{◌≡◌, refl, sym, ap, ◌∙◌}
use mathlib.Core.Bool.{Bool, true, false, cond, not, ◌||◌}
use borrow.Author.Tests.{le-leb}
use lib.Dec.{leb}
use Rattle.std.specs.Prelude.{None, Some}
use Rattle.frame_pixel.specs.Marks.{highest_mark, coverage_marked, coverage_of}
use Rattle.blender.specs.Blend.{or_zero}
use Rattle.frame.specs.Checks.{mark_ok}
use Rattle.frame.specs.Finding.{at_most}
use Rattle.frame.proofs.Tests.{goes_on}

-- a coverage that is not known stands as 0: it is not too high for number 3, and it is what an unknown one is passed as
pub mark_low : (m c : ℕ) {r : ℕ} → m ≤ highest_mark → r ≡ or_zero (coverage_of m c) → leb r 7 ≡ mark_ok m c
unfolding mark_ok
mark_low m c h e = goes_on (le-leb m highest_mark h) (ap (at_most 7) e ∙ go (coverage_marked m))
  where
    go : (b : Bool) → leb (or_zero (cond b (Some c) None)) 7 ≡ (not b || leb c 7)
    go true = refl
    go false = refl

pub marked_coverage : {b : Bool} (c : ℕ) → b ≡ true → c ≡ or_zero (cond b (Some c) None)
marked_coverage c h = λ i. or_zero (cond (sym h i) (Some c) None)
