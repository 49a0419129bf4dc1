-- To be believed. The frame: three lent lists, and its pixels. Definitions only. Source: docs/RULES.md, The frame.
use Rattle.std.specs.Prelude.{ℕ, ◌+◌, ◌*◌, List, set, slice_index}
use Rattle.frame_pixel.specs.declared.Pixel.{Pixel}

-- colour bytes, coverages and marks
pub record Frame : Type 0 where
  pub colors : List ℕ
  pub coverages : List ℕ
  pub marks : List ℕ

abbrev pub frame_of : List ℕ → List ℕ → List ℕ → Frame
frame_of colors coverages marks = record { colors = colors; coverages = coverages; marks = marks }

-- pixel p has colour bytes 3p to 3p + 2, coverage byte p and mark byte p, in slices of any length
abbrev pub pixel_at : Frame → ℕ → Pixel
pixel_at f p =
    record {
      red = slice_index f.colors (3 * p);
      green = slice_index f.colors (3 * p + 1);
      blue = slice_index f.colors (3 * p + 2);
      coverage = slice_index f.coverages p;
      mark = slice_index f.marks p;
    }

abbrev pub put_pixel : Frame → ℕ → Pixel → Frame
put_pixel f p x =
    record {
      colors = set (set (set f.colors (3 * p) x.red) (3 * p + 1) x.green) (3 * p + 2) x.blue;
      coverages = set f.coverages p x.coverage;
      marks = set f.marks p x.mark;
    }
