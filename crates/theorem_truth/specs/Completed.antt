-- To be believed. What a frame may really be: the bytes that its marks say are known, any others where it knows nothing, and both marks everywhere. Definitions only.
-- Source: docs/RULES.md, What is known is true.
use Rattle.std.specs.Prelude.{ℕ, suc, ◌/◌, Bool, true, false, List, [], ◌∷◌, if◌then◌else◌, slice_index}
use Rattle.frame_pixel.specs.Marks.{color_marked, coverage_marked, mark_of}
use Rattle.frame.specs.Frame.{Frame}

-- the bytes of a slice from index i on: as they are where they are known, and else as they really were
abbrev pub filled : (ℕ → Bool) → (ℕ → ℕ) → ℕ → List ℕ → List ℕ
filled known really i [] = []
filled known really i (x ∷ xs) = (if known i then x else really i) ∷ filled known really (suc i) xs

-- f with these colour bytes and coverages where it knows nothing, and with both marks everywhere
abbrev pub completed : Frame → (ℕ → ℕ) → (ℕ → ℕ) → Frame
completed f colors coverages =
    record {
      colors = filled (λ (i : ℕ). color_marked (slice_index f.marks (i / 3))) colors 0 f.colors;
      coverages = filled (λ (p : ℕ). coverage_marked (slice_index f.marks p)) coverages 0 f.coverages;
      marks = filled (λ (p : ℕ). false) (λ (p : ℕ). mark_of true true) 0 f.marks;
    }
