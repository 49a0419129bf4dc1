-- Inner vocabulary. A frame that numbers 1 to 3 let through, and a pixel as far as it is known. Definitions only.
use Rattle.std.specs.Prelude.{ℕ, ◌+◌, ◌*◌, ◌<◌, ◌≤◌, ◌≡◌, Bool, ◌&&◌, List, length, set, Option, Some, None, if◌then◌else◌, slice_index}
use Rattle.frame_pixel.specs.declared.Pixel.{Pixel}
use Rattle.frame_pixel.specs.Marks.{highest_mark, color_marked, coverage_marked, coverage_of}
use Rattle.blender.specs.Coverage.{Coverage}
use Rattle.blender.specs.Blend.{or_zero}
use Rattle.frame_pixel.specs.Rules.{rule_f4, coverage_at}
use Rattle.frame.specs.Frame.{Frame}
use Rattle.frame.specs.Loads.{Loadable}
use Rattle.frame_pixel.specs.declared.Colors.{Colors}

-- three colour bytes and one coverage for each mark
pub record Long (f : Frame) : Type 0 where
  pub colors : length f.colors ≡ 3 * length f.marks
  pub coverages : length f.coverages ≡ length f.marks

-- what is loaded of a pixel: its colour bytes
abbrev pub colors_at : List ℕ → ℕ → Colors
colors_at colors p = record { red = slice_index colors (3 * p); green = slice_index colors (3 * p + 1); blue = slice_index colors (3 * p + 2) }

-- three bytes as far as they are known: else they stand as 0
abbrev pub colors_if : Bool → Colors → Colors
colors_if known c = record { red = if known then c.red else 0; green = if known then c.green else 0; blue = if known then c.blue else 0 }

-- a frame of n pixels that numbers 1 to 3 let through: slices of their lengths, no mark above the highest, and no known coverage above 7
pub record Fit (n : ℕ) (f : Frame) : Type 0 where
  pub colors : length f.colors ≡ 3 * n
  pub coverages : length f.coverages ≡ n
  pub marks : length f.marks ≡ n
  pub low : (p : ℕ) → slice_index f.marks p ≤ highest_mark
  pub sound : (p : ℕ) → or_zero (coverage_of (slice_index f.marks p) (slice_index f.coverages p)) ≤ 7

-- one of w by h pixels
pub record Accepted (f : Frame) (w h : ℕ) : Type 0 where
  pub width : (1 ≤ w) × (w ≤ 1024)
  pub height : (1 ≤ h) × (h ≤ 1024)
  pub few : w * h ≤ 1048576
  pub fit : Fit (w * h) f

-- a frame of which is told no more than that each pixel's bytes are there where they are known: nothing of an unmarked pixel's
abbrev pub AllLoadable : Frame → Type 0
AllLoadable f = (p : ℕ) → p < length f.marks → Loadable f p

-- a pixel's colour, if it is known
abbrev pub color_at : Pixel → Option Colors
color_at x = if color_marked x.mark then Some (rule_f4 x) else None

-- its colour and coverage, if both are known
abbrev pub bytes_at : Pixel → Option (Colors × ℕ)
bytes_at x = if color_marked x.mark && coverage_marked x.mark then Some (rule_f4 x, x.coverage) else None

-- an unmarked byte stands as 0
abbrev pub known_pixel : Pixel → Pixel
known_pixel x =
    record {
      red = if color_marked x.mark then x.red else 0;
      green = if color_marked x.mark then x.green else 0;
      blue = if color_marked x.mark then x.blue else 0;
      coverage = if coverage_marked x.mark then x.coverage else 0;
      mark = x.mark;
    }

-- a byte stored, if it is known
abbrev pub put_if : Bool → List ℕ → ℕ → ℕ → List ℕ
put_if known l i v = if known then set l i v else l

-- a pixel's colour stored, if it is known
abbrev pub with_colors : List ℕ → ℕ → Option Colors → List ℕ
with_colors colors p None = colors
with_colors colors p (Some new) = set (set (set colors (3 * p) new.red) (3 * p + 1) new.green) (3 * p + 2) new.blue

-- its coverage stored, if it is given
abbrev pub with_coverage : List ℕ → ℕ → Coverage → List ℕ
with_coverage coverages p None = coverages
with_coverage coverages p (Some c) = set coverages p c

-- a pixel stored: its colours if they are known, its coverage if it is given, and its mark
abbrev pub stored_at : Frame → ℕ → Option Colors → Coverage → ℕ → Frame
stored_at f p color coverage mark =
    record { colors = with_colors f.colors p color; coverages = with_coverage f.coverages p coverage; marks = set f.marks p mark }

-- and as far as its mark says that it is known
abbrev pub put_known : Frame → ℕ → Pixel → Frame
put_known f p x = stored_at f p (color_at x) (coverage_at x) x.mark
