-- To be believed. The two bytes that a writer puts into memory for a pixel. Source: coherence.rs, whose image formats and sizes are those of Set Color
-- Image in the N64 Programming Manual: fmt 0 RGBA, 1 YUV, 2 colour index, 3 intensity and alpha, 4 intensity; siz 0 to 3 for
-- 4, 8, 16 and 32 bits a pixel. Definitions only.
use Rattle.std.specs.Prelude.{ℕ, ◌+◌, ◌-◌, ◌*◌, ◌/◌, ◌%◌, ◌^◌, max, Bool, ◌&&◌, ◌||◌, ◌==◌, from_bits, nat_le, Option, None, Some, if◌then◌else◌}
use Rattle.std.specs.Float.{binary32}
use Rattle.num_bits.specs.Field.{field}
use Rattle.words_pack.specs.Color.{pack_color_of}
use Rattle.words_pack.specs.Dither.{threshold_of}
use Rattle.words_pack.specs.Depth.{pack_depth_of}
use Rattle.words_pack.specs.declared.Bytes2.{Bytes2}
use Rattle.words_pack.specs.declared.FramebufferEncoding.{FramebufferEncoding}
use Rattle.words_pack.specs.declared.FramebufferEncoding.TheVariants.{Native, BigEndian}
use Rattle.words_pack.specs.declared.ImageLayout.{ImageLayout}
use Rattle.state.specs.declared.Rgba8.{Rgba8}
use Rattle.words_pack.specs.declared.Writer.{Writer}

-- 16-bit RGBA, and 8-bit colour index, intensity and alpha, or intensity
unfoldable pub color_supported : ImageLayout → Bool
color_supported l = (l.siz == 2 && l.fmt == 0) || (l.siz == 1 && (nat_le 2 l.fmt && nat_le l.fmt 4))

unfoldable pub supported_of : Writer → Bool
unfolding color_supported
supported_of w = w.depth || color_supported w.layout

-- 4, 8, 16 or 32 bits, and one byte for 4
unfoldable pub pixel_bytes_of : ImageLayout → ℕ
pixel_bytes_of l = max 1 (4 * 2 ^ l.siz / 8)

-- A word in memory: a native host has its lower byte first
unfoldable pub bytes_of : FramebufferEncoding → ℕ → Bytes2
bytes_of Native word = (word % 256, word / 256)
bytes_of BigEndian word = (word / 256, word % 256)

-- A literal word of 32 bits as two halfwords or four bytes, the first pixel's on top
abbrev pub halfword : ℕ → ℕ → ℕ
halfword word pixel = field word (16 * (1 - pixel % 2)) 16

abbrev pub byte : ℕ → ℕ → ℕ
byte word pixel = field word (8 * (3 - pixel % 4)) 8

-- A size other than 16 bits takes bytes
unfoldable pub literal_of : ImageLayout → ℕ → ℕ → FramebufferEncoding → Bytes2
unfolding pixel_bytes_of bytes_of
literal_of l word pixel e = if pixel_bytes_of l == 2 then bytes_of e (halfword word pixel) else (byte word pixel, 0)

-- A depth writer's pixel is an f32 in its four bytes, the lowest first
abbrev pub bits_of : Rgba8 → ℕ
bits_of c = c.r + c.g * 0x100 + c.b * 0x10000 + c.a * 0x1000000

abbrev pub pixel_depth_of : Rgba8 → ℕ
pixel_depth_of c = pack_depth_of (from_bits binary32 (bits_of c))

-- A colour writer's pixel of one byte: red in even columns, green in odd ones
abbrev pub column_byte : ImageLayout → Rgba8 → ℕ → ℕ
column_byte l c pixel = if pixel % l.width % 2 == 0 then c.r else c.g

-- A colour writer's word: packed at the threshold of the pixel's column and row
abbrev pub color_word : ImageLayout → Rgba8 → ℕ → ℕ → ℕ → ℕ
color_word l c coverage pixel mode = pack_color_of c coverage (threshold_of mode (pixel % l.width) (pixel / l.width))

unfoldable pub color_of : ImageLayout → Rgba8 → ℕ → ℕ → ℕ → FramebufferEncoding → Bytes2
unfolding pixel_bytes_of bytes_of
color_of l c coverage pixel mode e = if pixel_bytes_of l == 1 then (column_byte l c pixel, 0) else bytes_of e (color_word l c coverage pixel mode)

-- What a supported writer puts down: the draw's literal word, if it has one, else a depth or a colour
unfoldable pub written_of : Writer → Rgba8 → ℕ → ℕ → Option ℕ → ℕ → FramebufferEncoding → Bytes2
unfolding literal_of bytes_of color_of
written_of w c coverage pixel (Some word) mode e = literal_of w.layout word pixel e
written_of w c coverage pixel None mode e = if w.depth then bytes_of e (pixel_depth_of c) else color_of w.layout c coverage pixel mode e

-- An unsupported writer puts down two zeros
unfoldable pub encode_of : Writer → Rgba8 → ℕ → ℕ → Option ℕ → ℕ → FramebufferEncoding → Bytes2
unfolding supported_of written_of
encode_of w c coverage pixel literal mode e = if supported_of w then written_of w c coverage pixel literal mode e else (0, 0)
