-- To be believed. Rules F1 to F5 (docs/RULES.md): what one emitted pixel does to the five bytes of its place in the frame, all on the old bytes.
-- Definitions only. F1, F3 and F5 rest on `color_known`, `blend` and `destination` of the Rust, whose definitions are crate blender's.
use Rattle.std.specs.Prelude.{ℕ, Bool, not, ◌&&◌, pos, Float, None, Some, if◌then◌else◌, ◌==◌}
use Rattle.std.specs.Float.{binary32}
use Rattle.std.specs.Float.Ieee.{of_int, div}
use Rattle.num_float.specs.Color.{f0}
use Rattle.num_float.specs.Whole.{f255}
use Rattle.state.specs.declared.RenderMode.{RenderMode}
use Rattle.state.specs.declared.Rgba.{Rgba}
use Rattle.combiner.specs.declared.Combiner.{Combiner}
use Rattle.blender.specs.Coverage.{Coverage}
use Rattle.blender.specs.Coverage.{destination_of}
use Rattle.blender.specs.Known.{reject, color_known}
use Rattle.blender.specs.Blend.{or_zero, blend_of}
use Rattle.frame_pixel.specs.declared.Pixel.{Pixel}
use Rattle.frame_pixel.specs.declared.Colors.{Colors}
use Rattle.blender.specs.declared.Source.{Source}
use Rattle.frame_pixel.specs.Marks.{color_marked, coverage_of, unknown, mark_of}

-- F1: `color_known`, asked with the pixel's alpha, its count (its mask's number of ones), the coverage if it is marked, and whether the colour is marked
unfoldable pub rule_f1 : RenderMode → Source → Coverage → Bool → Bool
rule_f1 mode s coverage marked = color_known mode s.color.a s.count coverage marked

-- F2: in doubt. The coverage is unmarked, antialias is on, force_blend is off, and the pixel is not one with A 0, B 0 and alpha 1.0 or more
unfoldable pub rule_f2 : RenderMode → Source → Coverage → Bool
rule_f2 mode s coverage =
    unknown coverage && mode.antialias && not mode.force_blend && not (reject mode s.color.a)

-- a byte as a colour: byte / 255.0, rounded once
abbrev pub unit : ℕ → Float
unit byte = div binary32 (of_int binary32 (pos byte)) f255

-- the memory's colour for `blend`: zeros if it is unmarked. Its alpha goes into no blend
unfoldable pub memory_of : Bool → Pixel → Rgba
memory_of marked x =
    if marked then record { r = unit x.red; g = unit x.green; b = unit x.blue; a = f0 } else record { r = f0; g = f0; b = f0; a = f0 }

-- F3: on yes, the first three bytes of `blend`
unfoldable pub rule_f3 : RenderMode → Combiner → Source → Coverage → Rgba → Colors
rule_f3 mode k s coverage memory =
    let bytes = blend_of mode k s.color memory s.shade_alpha s.count (or_zero coverage) in
    record { red = bytes.r; green = bytes.g; blue = bytes.b }

-- F4: on no, the bytes stay
abbrev pub rule_f4 : Pixel → Colors
rule_f4 x = record { red = x.red; green = x.green; blue = x.blue }

-- a question asked of each memory coverage 0 to 7
abbrev pub all_eight : (ℕ → Bool) → Bool
all_eight asked = asked 0 && asked 1 && asked 2 && asked 3 && asked 4 && asked 5 && asked 6 && asked 7

-- F5, an unmarked coverage: known exactly if `destination` gives one number for all eight memory coverages 0 to 7, and then that number; else unmarked still
unfoldable pub fresh_coverage : RenderMode → ℕ → Coverage
fresh_coverage mode n =
    let number = destination_of mode n 0 in
    if all_eight (λ c. destination_of mode n c == number) then Some number else None

-- F5: a marked coverage becomes `destination`'s answer
unfoldable pub rule_f5 : RenderMode → ℕ → Coverage → Coverage
rule_f5 mode n (Some c) = Some (destination_of mode n c)
rule_f5 mode n None = fresh_coverage mode n

-- an unmarked coverage byte stays
abbrev pub coverage_byte : Coverage → ℕ → ℕ
coverage_byte None old = old
coverage_byte (Some c) old = c

-- ---- what the rules say of a pixel's place

-- what is known of the coverage there
abbrev pub coverage_at : Pixel → Coverage
coverage_at x = coverage_of x.mark x.coverage

-- whether the colour is known after the pixel: F1 says yes, and F2 does not doubt it
unfoldable pub known_after : RenderMode → Source → Pixel → Bool
known_after mode s x = rule_f1 mode s (coverage_at x) (color_marked x.mark) && not (rule_f2 mode s (coverage_at x))

-- the colours after it: F3 on yes, F4 on no
unfoldable pub colors_after : RenderMode → Combiner → Source → Pixel → Colors
colors_after mode k s x = if known_after mode s x then rule_f3 mode k s (coverage_at x) (memory_of (color_marked x.mark) x) else rule_f4 x

-- the coverage after it: F5
unfoldable pub coverage_after : RenderMode → Source → Pixel → Coverage
coverage_after mode s x = rule_f5 mode s.count (coverage_at x)

-- a pixel of which this much is known: its mark says so, and a coverage that is not known keeps the byte that stood there
unfoldable pub assembled : Bool → Colors → Coverage → ℕ → Pixel
assembled known colors coverage old =
    record {
      red = colors.red;
      green = colors.green;
      blue = colors.blue;
      coverage = coverage_byte coverage old;
      mark = mark_of known (not (unknown coverage));
    }

-- the five rules together
unfoldable pub pixel_step : RenderMode → Combiner → Source → Pixel → Pixel
pixel_step mode k s x = assembled (known_after mode s x) (colors_after mode k s x) (coverage_after mode s x) x.coverage
