-- To be believed. What of an emitted pixel is certain all the same: equal whatever the bytes that are not known really are. Definitions only. Source: docs/RULES.md,
-- What is known is true.
use Rattle.std.specs.Prelude.{ℕ, ◌≤◌, ◌≡◌, Some}
use Rattle.state.specs.declared.RenderMode.{RenderMode}
use Rattle.combiner.specs.declared.Combiner.{Combiner}
use Rattle.blender.specs.declared.Source.{Source}
use Rattle.frame_pixel.specs.declared.Pixel.{Pixel}
use Rattle.frame_pixel.specs.declared.Colors.{Colors}
use Rattle.frame_pixel.specs.Marks.{color_marked}
use Rattle.frame_pixel.specs.Rules.{memory_of, rule_f3, coverage_after, colors_after}
use Rattle.frame_pixel.specs.Knows.{KnowsPixel, AllKnownPixel}

-- what pixel x may really be: everything is known of y, and what is known of x is the same there
pub record Completes (y x : Pixel) : Type 0 where
  pub knows : KnowsPixel y x
  pub all : AllKnownPixel y
  pub low : y.coverage ≤ 7

-- the colours after an emitted pixel are these whatever x may really be
abbrev pub CertainColors : RenderMode → Combiner → Source → Pixel → Colors → Type 0
CertainColors mode k s x colors = (y : Pixel) → Completes y x → colors_after mode k s y ≡ colors

-- and so is the coverage
abbrev pub CertainCoverage : RenderMode → Source → Pixel → ℕ → Type 0
CertainCoverage mode s x c = (y : Pixel) → Completes y x → coverage_after mode s y ≡ Some c

-- F3's colours over this memory coverage
abbrev pub colors_over : RenderMode → Combiner → Source → Pixel → ℕ → Colors
colors_over mode k s x c = rule_f3 mode k s (Some c) (memory_of (color_marked x.mark) x)

-- F3's colours over memory coverage 0 and over 7 are both these
abbrev pub SameAtEnds : RenderMode → Combiner → Source → Pixel → Colors → Type 0
SameAtEnds mode k s x colors = (colors_over mode k s x 0 ≡ colors) × (colors_over mode k s x 7 ≡ colors)
