-- Inner vocabulary. What passes over marks alone, or over coverages alone, tell of number 3. Definitions only.
use Rattle.std.specs.Prelude.{ℕ, ◌≡◌, Bool, true, false, not, ◌&&◌, List, [], ◌∷◌, nat_le}
use Rattle.frame_pixel.specs.Marks.{highest_mark, coverage_marked}
use Rattle.frame.specs.declared.refusal.Seen.{Seen}
use Rattle.frame.specs.declared.refusal.Finding.{Finding}
use Rattle.frame.specs.declared.refusal.Finding.TheVariants.{Good, Bad, Mixed}
use Rattle.frame.specs.Checks.{marks_ok}

-- what can be asked of marks alone or of coverages alone: that every number of a list passes a test
unfoldable pub every : (ℕ → Bool) → List ℕ → Bool
every test [] = true
every test (n ∷ ns) = test n && every test ns

abbrev pub at_most : ℕ → ℕ → Bool
at_most most n = nat_le n most

abbrev pub coverage_unmarked : ℕ → Bool
coverage_unmarked mark = not (coverage_marked mark)

-- what is seen of the marks of a part of the frame
pub record Sees (ms : List ℕ) (seen : Seen) : Type 0 where
  pub low : seen.low ≡ every (at_most highest_mark) ms
  pub unmarked : seen.unmarked ≡ every coverage_unmarked ms
  pub marked : seen.marked ≡ every coverage_marked ms

-- what is found of a part of the frame
unfoldable pub Tells : List ℕ → List ℕ → Finding → Type 0
Tells cs ms Good = true ≡ marks_ok cs ms
Tells cs ms Bad = false ≡ marks_ok cs ms
Tells cs ms Mixed = every (at_most highest_mark) ms ≡ true
