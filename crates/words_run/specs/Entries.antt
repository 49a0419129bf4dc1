-- Inner vocabulary. A run as the code goes through it: the two lent slices as entries, one for each pixel, and the word of a pixel from its column and row. Definitions only.
use Rattle.std.specs.Prelude.{ℕ, ◌+◌, ◌*◌, ◌/◌, ◌%◌, ◌≤◌, ◌<◌, ◌≡◌, List, length, set, if◌then◌else◌, ◌==◌}
use Rattle.frame_pixel.specs.declared.Pixel.{Pixel}
use Rattle.words_pack.specs.declared.Bytes2.{Bytes2}
use Rattle.words_pack.specs.declared.FramebufferEncoding.{FramebufferEncoding}
use Rattle.state.specs.declared.Rgba8.{Rgba8}
use Rattle.words_pack.specs.Color.{pack_color_of}
use Rattle.words_pack.specs.Dither.{threshold_of}
use Rattle.words_pack.specs.Writer as writer
use Rattle.frame.specs.Frame.{Frame, pixel_at}
use Rattle.words_read.specs.Read.{WordAnswer, no_word, readable, bytes_of}
use Rattle.words_run.specs.declared.entry.Place.{Place}
use Rattle.words_run.specs.Run.{entry_of}

-- ---- the two slices
pub record Entries : Type 0 where
  pub words : List ℕ
  pub numbers : List ℕ

abbrev pub entries_of : List ℕ → List ℕ → Entries
entries_of words numbers = record { words = words; numbers = numbers }

abbrev pub entry_at : Entries → ℕ → WordAnswer
entry_at s i = entry_of s.words s.numbers i

abbrev pub put_entry : Entries → ℕ → WordAnswer → Entries
put_entry s i x =
    record {
      words = set (set s.words (2 * i) x.word.0) (2 * i + 1) x.word.1;
      numbers = set s.numbers i x.number;
    }

-- room for n entries
pub record Matched (n : ℕ) (s : Entries) : Type 0 where
  pub words : length s.words ≡ 2 * n
  pub numbers : length s.numbers ≡ n

-- entries lo to hi - 1 are the answers of their numbers, and the entries below lo are as before
pub record Wrote (answer : ℕ → WordAnswer) (lo hi n : ℕ) (before after : Entries) : Type 0 where
  pub matched : Matched n after
  pub written : (i : ℕ) → lo ≤ i → i < hi → entry_at after i ≡ answer i
  pub kept : (i : ℕ) → i < lo → entry_at after i ≡ entry_at before i

-- ---- an answer
abbrev pub answer_of : ℕ → Bytes2 → WordAnswer
answer_of number word = record { number = number; word = word }

abbrev pub refused_by : ℕ → WordAnswer
refused_by k = answer_of k no_word

-- the two bytes of the pixel in column x and row y: 16 bits with the coverage's top bit, or one byte
abbrev pub halfword : ℕ → ℕ → ℕ → FramebufferEncoding → Rgba8 → ℕ → Bytes2
halfword x y dither encoding color coverage = writer.bytes_of encoding (pack_color_of color coverage (threshold_of dither x y))

abbrev pub byte_of : ℕ → Rgba8 → Bytes2
byte_of x color = (if x % 2 == 0 then color.r else color.g, 0)

abbrev pub word_at : ℕ → ℕ → ℕ → ℕ → FramebufferEncoding → Rgba8 → ℕ → Bytes2
word_at siz x y dither encoding color coverage = if siz == 2 then halfword x y dither encoding color coverage else byte_of x color

-- its answer where numbers 1 to 9 let it through
unfoldable pub answer_at : ℕ → ℕ → ℕ → ℕ → FramebufferEncoding → Pixel → WordAnswer
answer_at siz x y dither encoding c =
    if readable c.mark siz then answer_of 0 (word_at siz x y dither encoding (bytes_of c) c.coverage) else refused_by 10

-- pixel p of a frame of width w
abbrev pub answer_in : ℕ → ℕ → ℕ → FramebufferEncoding → Frame → ℕ → WordAnswer
answer_in w siz dither encoding f p = answer_at siz (p % w) (p / w) dither encoding (pixel_at f p)

-- ---- column and row
pub record At (w p : ℕ) (q : Place) : Type 0 where
  pub place : q.y * w + q.x ≡ p
  pub inside : q.x < w
