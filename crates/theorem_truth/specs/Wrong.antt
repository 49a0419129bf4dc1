-- Inner vocabulary. Wrong rules, each the step with one thing changed, and a small input on which it breaks the law of one pixel, so that what each one changes is needed.
-- Definitions only; that they break it is proofs/Wrong.
use Rattle.std.specs.Prelude.{ℕ, ◌-◌, Bool, true, false, not, ◌&&◌, ◌||◌, pos, Some, None, if◌then◌else◌, ◌==◌}
use Rattle.std.specs.Float.{fin}
use Rattle.num_float.specs.Color.{f0, f1}
use Rattle.state.specs.declared.RenderMode.{RenderMode}
use Rattle.combiner_inputs.specs.Combine.{cycle1}
use Rattle.combiner.specs.declared.Combiner.{Combiner}
use Rattle.blender.specs.declared.Source.{Source}
use Rattle.blender.specs.Coverage.{Coverage, destination_of}
use Rattle.frame_pixel.specs.declared.Pixel.{Pixel}
use Rattle.frame_pixel.specs.Marks.{color_marked, mark_of}
use Rattle.frame_pixel.specs.Rules.{rule_f1, rule_f2, memory_of, rule_f3, rule_f4, rule_f5, coverage_byte, coverage_at, known_after, colors_after, coverage_after, assembled}
use Rattle.frame_pixel.specs.Knows.{KnowsPixel}
use Rattle.theorem_values.specs.Table.{mode, grey}

-- ---- wrong steps

-- the step with this in place of the verdict of F1 and F2
abbrev pub step_if : Bool → RenderMode → Combiner → Source → Pixel → Pixel
step_if known mode k s x =
    assembled known (if known then rule_f3 mode k s (coverage_at x) (memory_of (color_marked x.mark) x) else rule_f4 x) (coverage_after mode s x) x.coverage

-- F2 left out: an unknown coverage is passed as 0, and F1's yes is taken as it is
unfoldable pub without_f2 : RenderMode → Combiner → Source → Pixel → Pixel
without_f2 mode k s x = step_if (rule_f1 mode s (coverage_at x) (color_marked x.mark)) mode k s x

-- F1 asked as if the memory's colour were known, so that zeros are blended and stored for it
unfoldable pub zeros_stored : RenderMode → Combiner → Source → Pixel → Pixel
zeros_stored mode k s x = step_if (rule_f1 mode s (coverage_at x) true && not (rule_f2 mode s (coverage_at x))) mode k s x

-- F4 without the clearing of mark 1
unfoldable pub stale_kept : RenderMode → Combiner → Source → Pixel → Pixel
stale_kept mode k s x = assembled (known_after mode s x || color_marked x.mark) (colors_after mode k s x) (coverage_after mode s x) x.coverage

-- F5 with count - 1 under antialias too
abbrev pub count_stored : RenderMode → ℕ → Coverage → Coverage
count_stored mode n (Some c) = rule_f5 mode n (Some c)
count_stored mode n None = if mode.cvg_dst == 0 && not mode.force_blend then Some (n - 1) else rule_f5 mode n None

unfoldable pub count_under_antialias : RenderMode → Combiner → Source → Pixel → Pixel
count_under_antialias mode k s x = assembled (known_after mode s x) (colors_after mode k s x) (count_stored mode s.count (coverage_at x)) x.coverage

-- F5 with `destination` asked of memory coverages 1 to 7 alone
abbrev pub seven_asked : RenderMode → ℕ → Coverage → Coverage
seven_asked mode n (Some c) = rule_f5 mode n (Some c)
seven_asked mode n None =
    let number = destination_of mode n 1 in
    let asked : ℕ → Bool = λ c. destination_of mode n c == number in
    if asked 1 && asked 2 && asked 3 && asked 4 && asked 5 && asked 6 && asked 7 then Some number else None

unfoldable pub without_zero : RenderMode → Combiner → Source → Pixel → Pixel
without_zero mode k s x = assembled (known_after mode s x) (colors_after mode k s x) (seven_asked mode s.count (coverage_at x)) x.coverage

-- mark 2 set where F5 leaves the coverage unknown too, on the byte that stands there
unfoldable pub mark_alone : RenderMode → Combiner → Source → Pixel → Pixel
mark_alone mode k s x =
    let colors = colors_after mode k s x in
    record {
      red = colors.red;
      green = colors.green;
      blue = colors.blue;
      coverage = coverage_byte (coverage_after mode s x) x.coverage;
      mark = mark_of (known_after mode s x) true;
    }

-- ---- the inputs

-- fog's alpha is 2 ^ 30, so that 1 - A is - 2 ^ 30 where A is fog's alpha
abbrev pub fog : Combiner
fog = record { selectors = cycle1 0 0; prim = grey f0; env = grey f0; blend = grey f0; fog = record { r = f0; g = f0; b = f0; a = fin false 1 (pos 30) }; lod = f0 }

-- a white pixel with n samples
abbrev pub white : ℕ → Source
white n = record { color = grey f1; shade_alpha = f1; count = n }

-- antialias, P and M the pixel's colour, A fog's alpha and B 1 - A
abbrev pub fogged : RenderMode
fogged = mode 0 false true 0x0400

-- no antialias, and P the memory's colour
abbrev pub over_memory : RenderMode
over_memory = mode 0 false false 0x4000

-- antialias, A fog's alpha, M the memory's colour and B 1 - A
abbrev pub into_memory : RenderMode
into_memory = mode 0 false true 0x0440

-- antialias, clamp; and no antialias, save
abbrev pub smooth : RenderMode
smooth = mode 0 false true 0

abbrev pub saved : RenderMode
saved = mode 3 false false 0

-- a black place of which nothing is known, one of which the colour is; and one of which everything is, with this red and coverage
abbrev pub nothing_known : Pixel
nothing_known = record { red = 0; green = 0; blue = 0; coverage = 0; mark = 0 }

abbrev pub color_known : Pixel
color_known = record { red = 0; green = 0; blue = 0; coverage = 0; mark = 1 }

abbrev pub all_known : ℕ → ℕ → Pixel
all_known red coverage = record { red = red; green = 0; blue = 0; coverage = coverage; mark = 3 }

-- y knows at least what x knows, and after the wrong step, of n samples, it does not
abbrev pub Breaks : (RenderMode → Combiner → Source → Pixel → Pixel) → RenderMode → ℕ → Pixel → Pixel → Type 0
Breaks step mode n y x = KnowsPixel y x × (KnowsPixel (step mode fog (white n) y) (step mode fog (white n) x) → ⊥)
