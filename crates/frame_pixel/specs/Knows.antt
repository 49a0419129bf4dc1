-- To be believed. Two pixels of which the first knows at least what the second knows, and what an emitted pixel does where everything is known. Definitions only.
-- Source: docs/RULES.md, What is known is true.
use Rattle.std.specs.Prelude.{◌≡◌, true}
use Rattle.state.specs.declared.RenderMode.{RenderMode}
use Rattle.combiner.specs.declared.Combiner.{Combiner}
use Rattle.blender.specs.declared.Source.{Source}
use Rattle.blender.specs.Coverage.{destination_of}
use Rattle.blender.specs.Blend.{blend_of}
use Rattle.frame_pixel.specs.declared.Pixel.{Pixel}
use Rattle.frame_pixel.specs.Marks.{color_marked, coverage_marked, mark_of}
use Rattle.frame_pixel.specs.Rules.{memory_of}

-- y knows at least what x knows: what is marked of x is marked of y too, and the bytes are the same; what is not marked of x may be anything in y
pub record KnowsPixel (y x : Pixel) : Type 0 where
  pub mark1 : color_marked x.mark ≡ true → color_marked y.mark ≡ true
  pub red : color_marked x.mark ≡ true → y.red ≡ x.red
  pub green : color_marked x.mark ≡ true → y.green ≡ x.green
  pub blue : color_marked x.mark ≡ true → y.blue ≡ x.blue
  pub mark2 : coverage_marked x.mark ≡ true → coverage_marked y.mark ≡ true
  pub coverage : coverage_marked x.mark ≡ true → y.coverage ≡ x.coverage

-- everything is known of it
pub record AllKnownPixel (x : Pixel) : Type 0 where
  pub mark1 : color_marked x.mark ≡ true
  pub mark2 : coverage_marked x.mark ≡ true

-- a pixel on the console, on which nothing is unknown: `blend`'s three bytes and `destination`'s coverage, of the bytes that stood there. No question of what is known
-- has a part in it
unfoldable pub console_step : RenderMode → Combiner → Source → Pixel → Pixel
console_step mode k s x =
    let bytes = blend_of mode k s.color (memory_of true x) s.shade_alpha s.count x.coverage in
    record { red = bytes.r; green = bytes.g; blue = bytes.b; coverage = destination_of mode s.count x.coverage; mark = mark_of true true }
