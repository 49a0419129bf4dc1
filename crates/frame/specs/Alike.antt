-- To be believed. Two frames that differ only in what is not known. Definitions only. Source: docs/RULES.md, What is not known does not show.
use Rattle.std.specs.Prelude.{ℕ, ◌≡◌, length}
use Rattle.frame_pixel.specs.Alike.{AlikePixel}
use Rattle.frame.specs.Frame.{Frame, pixel_at}

-- two frames of any slice lengths, alike in these, in marks, in known colours and in known coverages
pub record Alike (f g : Frame) : Type 0 where
  pub colors : length f.colors ≡ length g.colors
  pub coverages : length f.coverages ≡ length g.coverages
  pub marks : f.marks ≡ g.marks
  pub pixels : (p : ℕ) → AlikePixel (pixel_at f p) (pixel_at g p)
