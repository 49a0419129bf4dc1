-- To be believed. Two frames of which the first knows at least what the second knows, and a frame on which everything is known. Definitions only. Source: docs/RULES.md,
-- What is known is true.
use Rattle.std.specs.Prelude.{ℕ, ◌<◌, ◌≡◌, length}
use Rattle.frame_pixel.specs.Knows.{KnowsPixel, AllKnownPixel}
use Rattle.frame.specs.Frame.{Frame, pixel_at}
use Rattle.frame.specs.Checks.{frame_refusal}

-- slices of the same lengths, and of each pixel g knows at least what f knows
pub record KnowsFrame (g f : Frame) : Type 0 where
  pub colors : length g.colors ≡ length f.colors
  pub coverages : length g.coverages ≡ length f.coverages
  pub marks : length g.marks ≡ length f.marks
  pub pixels : (p : ℕ) → KnowsPixel (pixel_at g p) (pixel_at f p)

-- g knows at least what f knows, as frames of w by h pixels: besides, numbers 1 to 3 say the same of both, so that they let both through or turn both away alike
pub record KnowsAtLeast (w h : ℕ) (g f : Frame) : Type 0 where
  pub frame : KnowsFrame g f
  pub numbers : frame_refusal g w h ≡ frame_refusal f w h

-- everything is known of each pixel
pub record AllKnown (f : Frame) : Type 0 where
  pub pixels : (p : ℕ) → p < length f.marks → AllKnownPixel (pixel_at f p)
