-- To be believed. A word read: numbers 1 to 3 and 8 to 10 (docs/RULES.md, The numbers), and `encode`'s two bytes without a literal. Definitions only.
use Rattle.std.specs.Prelude.{ℕ, zero, suc, ◌*◌, ◌≤◌, Bool, false, not, ◌&&◌, ◌||◌, None, Result, Ok, Err, if◌then◌else◌, ◌==◌, nat_lt}
use Rattle.frame_pixel.specs.declared.Pixel.{Pixel}
use Rattle.frame_pixel.specs.Marks.{color_marked, coverage_marked, coverage_of}
use Rattle.blender.specs.Blend.{or_zero}
use Rattle.words_pack.specs.declared.Bytes2.{Bytes2}
use Rattle.words_pack.specs.declared.FramebufferEncoding.{FramebufferEncoding}
use Rattle.state.specs.declared.Rgba8.{Rgba8}
use Rattle.words_pack.specs.declared.Writer.{Writer}
use Rattle.words_pack.specs.Writer.{supported_of, encode_of}
use Rattle.refused.specs.declared.Refusal.{Refusal}
use Rattle.refused.specs.Numbers.{number_of}
use Rattle.frame.specs.Frame.{Frame, pixel_at}
use Rattle.frame.specs.Checks.{or_else, frame_refusal}

pub record ReadArgs : Type 0 where
  pub pixel : ℕ
  pub fmt : ℕ
  pub siz : ℕ
  pub dither : ℕ
  pub encoding : FramebufferEncoding

abbrev pub read_args : ℕ → ℕ → ℕ → ℕ → FramebufferEncoding → ReadArgs
read_args pixel fmt siz dither encoding = record { pixel = pixel; fmt = fmt; siz = siz; dither = dither; encoding = encoding }

-- a colour writer of the frame's width
abbrev pub writer_by : ℕ → ℕ → ℕ → Writer
writer_by w fmt siz = record { layout = record { fmt = fmt; siz = siz; width = w }; depth = false }

abbrev pub writer_of : ReadArgs → ℕ → Writer
writer_of a w = writer_by w a.fmt a.siz

-- 10: the colour is unmarked, or the coverage is unmarked and siz is 2
abbrev pub readable : ℕ → ℕ → Bool
readable mark siz = color_marked mark && (coverage_marked mark || not (siz == 2))

-- 8: the pixel is not below N. 9: fmt and siz are not a supported colour writer
unfoldable pub word_refusal : ReadArgs → ℕ → ℕ → Pixel → ℕ
word_refusal a w n x =
    if nat_lt a.pixel n then if supported_of (writer_of a w) then if readable x.mark a.siz then 0 else 10 else 9 else 8

unfoldable pub read_refusal : ReadArgs → ℕ → ℕ → Frame → ℕ
read_refusal a w h f = or_else (frame_refusal f w h) (word_refusal a w (w * h) (pixel_at f a.pixel))

-- the pixel's bytes as `encode` takes them: no word read looks at an alpha, and an unknown coverage is passed as 0
abbrev pub bytes_of : Pixel → Rgba8
bytes_of x = record { r = x.red; g = x.green; b = x.blue; a = 0 }

abbrev pub word_by : Writer → ℕ → ℕ → FramebufferEncoding → Pixel → Bytes2
word_by writer pixel dither encoding x = encode_of writer (bytes_of x) (or_zero (coverage_of x.mark x.coverage)) pixel None dither encoding

unfoldable pub word_of : ReadArgs → ℕ → Pixel → Bytes2
word_of a w x = word_by (writer_of a w) a.pixel a.dither a.encoding x

-- an answer in the terms of docs/RULES.md: its number and its two bytes
pub record WordAnswer : Type 0 where
  pub number : ℕ
  pub word : Bytes2

abbrev pub no_word : Bytes2
no_word = (0, 0)

abbrev pub word_means : Result Bytes2 Refusal → WordAnswer
word_means (Ok word) = record { number = 0; word = word }
word_means (Err e) = record { number = number_of e; word = no_word }

-- a read that is turned away has a number of the list
abbrev pub Numbered : Result Bytes2 Refusal → Type 0
Numbered (Ok word) = Unit
Numbered (Err e) = 1 ≤ number_of e

abbrev pub word_or : ℕ → Bytes2 → WordAnswer
word_or zero word = record { number = 0; word = word }
word_or (suc n) word = record { number = suc n; word = no_word }

unfoldable pub read_answer : ReadArgs → ℕ → ℕ → Frame → WordAnswer
read_answer a w h f = word_or (read_refusal a w h f) (word_of a w (pixel_at f a.pixel))
