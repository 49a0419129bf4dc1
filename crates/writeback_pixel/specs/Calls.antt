-- To be believed. The single-pixel calls: for each answer, the number (docs/RULES.md) and values of every case (`.._means`), and for each call its outcome on every
-- input (`.._call`). A pixel's samples are given by their mask m, of which the number of ones counts. Definitions only.
use Rattle.std.specs.Prelude.{ℕ, Bool, false, ◌&&◌, Float, Option, Result, Ok, Err}
use Rattle.num_bits.specs.Ones.{ones_of}
use Rattle.state.specs.declared.RenderMode.{RenderMode}
use Rattle.state.specs.declared.Rgba.{Rgba}
use Rattle.combiner.specs.declared.Combiner.{Combiner}
use Rattle.state.specs.declared.Rgba8.{Rgba8}
use Rattle.refused.specs.declared.Refusal.{Refusal}
use Rattle.blender.specs.Coverage.{Coverage, destination_of}
use Rattle.blender.specs.Known.{color_known}
use Rattle.blender.specs.Blend.{blend_of}
use Rattle.words_pack.specs.declared.Bytes2.{Bytes2}
use Rattle.words_pack.specs.declared.FramebufferEncoding.{FramebufferEncoding}
use Rattle.words_pack.specs.declared.Writer.{Writer}
use Rattle.words_pack.specs.Color.{pack_color_of}
use Rattle.words_pack.specs.Writer.{supported_of, pixel_bytes_of, encode_of}
use Rattle.writeback_pixel.specs.Refusal.{mask_ok, coverage_ok, known_ok, writer_ok, encode_ok, Outcome, accepted, turned_away, checked}

-- ---- a yes or a no
abbrev pub answer_means : Result Bool Refusal → Outcome Bool
answer_means (Ok answer) = accepted answer
answer_means (Err why) = turned_away why false

-- ---- destination
abbrev pub destination_means : Result ℕ Refusal → Outcome ℕ
destination_means (Ok c) = accepted c
destination_means (Err why) = turned_away why 0

unfoldable pub destination_call : RenderMode → ℕ → ℕ → Outcome ℕ
destination_call mode m c = checked (mask_ok m && coverage_ok c) (destination_of mode (ones_of m) c) 0

-- ---- color_known
unfoldable pub color_known_call : RenderMode → Float → ℕ → Coverage → Bool → Outcome Bool
color_known_call mode alpha m coverage memory = checked (mask_ok m && known_ok coverage) (color_known mode alpha (ones_of m) coverage memory) false

-- ---- blend
abbrev pub no_bytes : Rgba8
no_bytes = record { r = 0; g = 0; b = 0; a = 0 }

abbrev pub blend_means : Result Rgba8 Refusal → Outcome Rgba8
blend_means (Ok bytes) = accepted bytes
blend_means (Err why) = turned_away why no_bytes

unfoldable pub blend_call : RenderMode → Combiner → Rgba → Rgba → Float → ℕ → ℕ → Outcome Rgba8
blend_call mode combiner rgba memory shade m c =
    checked (mask_ok m && coverage_ok c) (blend_of mode combiner rgba memory shade (ones_of m) c) no_bytes

-- ---- pack_color
abbrev pub pack_color_means : Result ℕ Refusal → Outcome ℕ
pack_color_means (Ok word) = accepted word
pack_color_means (Err why) = turned_away why 0

unfoldable pub pack_color_call : Rgba8 → ℕ → ℕ → Outcome ℕ
pack_color_call rgba coverage threshold = checked (coverage_ok coverage) (pack_color_of rgba coverage threshold) 0

-- ---- supported and pixel_bytes
unfoldable pub supported_call : Writer → Outcome Bool
supported_call w = checked (writer_ok w) (supported_of w) false

abbrev pub pixel_bytes_means : Result ℕ Refusal → Outcome ℕ
pixel_bytes_means (Ok n) = accepted n
pixel_bytes_means (Err why) = turned_away why 0

unfoldable pub pixel_bytes_call : Writer → Outcome ℕ
pixel_bytes_call w = checked (writer_ok w) (pixel_bytes_of w.layout) 0

-- ---- encode
abbrev pub no_word : Bytes2
no_word = (0, 0)

abbrev pub encode_means : Result Bytes2 Refusal → Outcome Bytes2
encode_means (Ok bytes) = accepted bytes
encode_means (Err why) = turned_away why no_word

unfoldable pub encode_call : Writer → Rgba8 → ℕ → ℕ → Option ℕ → ℕ → FramebufferEncoding → Outcome Bytes2
encode_call w rgba coverage pixel literal dither encoding =
    checked (encode_ok w coverage pixel) (encode_of w rgba coverage pixel literal dither encoding) no_word
