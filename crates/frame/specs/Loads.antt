-- To be believed. What may be loaded of a pixel: a colour or coverage byte only where the mark says that it is known. Definitions only. Source: docs/RULES.md, The frame.
use Rattle.std.specs.Prelude.{ℕ, ◌+◌, ◌*◌, ◌<◌, ◌≤◌, ◌≡◌, true, List, length, slice_index}
use Rattle.frame_pixel.specs.Marks.{color_marked, coverage_marked, coverage_of}
use Rattle.blender.specs.Blend.{or_zero}
use Rattle.frame.specs.Frame.{Frame}

-- ---- what pixel p's mark says
abbrev pub ColorKnown : List ℕ → ℕ → Type 0
ColorKnown marks p = color_marked (slice_index marks p) ≡ true

abbrev pub CoverageKnown : List ℕ → ℕ → Type 0
CoverageKnown marks p = coverage_marked (slice_index marks p) ≡ true

-- ---- its bytes are there where they are known. Where p is unmarked this says nothing, so that no load before the question can be shown to be in bounds
abbrev pub ColorThere : List ℕ → List ℕ → ℕ → Type 0
ColorThere colors marks p = ColorKnown marks p → 3 * p + 2 < length colors

abbrev pub CoverageThere : List ℕ → List ℕ → ℕ → Type 0
CoverageThere coverages marks p = CoverageKnown marks p → p < length coverages

-- pixel p of a frame: its mark is there, its bytes are where they are known, and a known coverage is at most 7
pub record Loadable (f : Frame) (p : ℕ) : Type 0 where
  pub mark : p < length f.marks
  pub color : ColorThere f.colors f.marks p
  pub coverage : CoverageThere f.coverages f.marks p
  pub sound : or_zero (coverage_of (slice_index f.marks p) (slice_index f.coverages p)) ≤ 7
