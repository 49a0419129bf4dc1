-- To be believed. A draw, its emitted pixels, a word read and a run of words as C has them: what they are given, and their answers. Definitions only.
use Rattle.std.specs.Prelude.{ℕ, Bool, Float}
use Rattle.state.specs.declared.CombinerUniform.{CombinerUniform}
use Rattle.raster_pixel.specs.declared.Scissor.{Scissor}
use Rattle.frame.specs.Lent.{Shown, shown}
use Rattle.frame_draw.specs.Draw.{DrawArgs, DrawAnswer, draw_args}
use Rattle.words_read.specs.Read.{ReadArgs, WordAnswer, read_args}
use Rattle.words_run.specs.Run.{RunAnswer}
use Rattle.frame_emitted.specs.Emitted.{PixelAnswer}
use Rattle.frame_emitted.specs.Run.{PixelsAnswer}
use Rattle.c_types.specs.declared.Mode.{Mode}
use Rattle.c_types.specs.Convert.{mode_of, encoding_of}
use Rattle.c_draw.specs.declared.GeometryParts.{GeometryParts}
use Rattle.c_draw.specs.Draws.{geometry_from}
use Rattle.c_answers.specs.declared.Answer.{Answer}
use Rattle.c_frame.specs.declared.DrawnAnswer.{DrawnAnswer}
use Rattle.c_frame.specs.declared.RanAnswer.{RanAnswer}
use Rattle.c_frame.specs.declared.emitted.EmittedAnswer.{EmittedAnswer}
use Rattle.c_frame.specs.declared.emitted.ListedAnswer.{ListedAnswer}
use Rattle.c_answers.specs.Answers.{two_bytes}

-- the draw and the read that C's values ask for
abbrev pub draw_from : Mode → CombinerUniform → Bool → Scissor → GeometryParts → Shown Float → Shown ℕ → Shown ℕ → DrawArgs
draw_from mode uniform cull scissor geometry vertices present indices =
    draw_args (mode_of mode) uniform cull scissor (geometry_from geometry) (shown vertices) (shown present) (shown indices)

abbrev pub read_from : ℕ → ℕ → ℕ → ℕ → Bool → ReadArgs
read_from pixel fmt siz dither big = read_args pixel fmt siz dither (encoding_of big)

abbrev pub drawn_answer : DrawAnswer → DrawnAnswer
drawn_answer a = record { number = a.number; pixels = a.pixels }

-- an emitted pixel, and a run of them without its slices
abbrev pub pixel_answer : PixelAnswer → EmittedAnswer
pixel_answer a = record { number = a.number; pixel = a.pixel; mask = a.mask }

abbrev pub listed_answer : PixelsAnswer → ListedAnswer
listed_answer a = record { number = a.number; listed = a.listed; emitted = a.emitted }

-- the two bytes, the first lowest
abbrev pub word_answer : WordAnswer → Answer
word_answer a = record { number = a.number; value = two_bytes a.word }

abbrev pub ran_answer : RunAnswer → RanAnswer
ran_answer a = record { number = a.number; words = a.count }
