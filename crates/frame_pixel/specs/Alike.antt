-- To be believed. Two pixels that differ only in what is not known. Definitions only. Source: docs/RULES.md, What is not known does not show.
use Rattle.std.specs.Prelude.{◌≡◌, true}
use Rattle.frame_pixel.specs.declared.Pixel.{Pixel}
use Rattle.frame_pixel.specs.Marks.{color_marked, coverage_marked}

-- one mark byte, and the same bytes where it says that they are known
pub record AlikePixel (x y : Pixel) : Type 0 where
  pub mark : x.mark ≡ y.mark
  pub red : color_marked x.mark ≡ true → x.red ≡ y.red
  pub green : color_marked x.mark ≡ true → x.green ≡ y.green
  pub blue : color_marked x.mark ≡ true → x.blue ≡ y.blue
  pub coverage : coverage_marked x.mark ≡ true → x.coverage ≡ y.coverage
