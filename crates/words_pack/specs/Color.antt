-- To be believed. A colour as a 16-bit word. Source: the N64 Programming Manual, 16-bit RGBA pixels, and N64brew's RDP pages on the memory
-- interface and dithering. Definitions only.
use Rattle.std.specs.Prelude.{ℕ, ◌+◌, ◌*◌, ◌/◌, ◌%◌, min, nat_lt, if◌then◌else◌}
use Rattle.state.specs.declared.Rgba8.{Rgba8}

-- A channel of eight bits in five: one more where the three bits that are cut off are above the dither threshold, and 31 at most
unfoldable pub pack_channel_of : ℕ → ℕ → ℕ
pack_channel_of v threshold = min 31 (v / 8 + (if nat_lt threshold (v % 8) then 1 else 0))

-- Five bits each of red, green and blue from the top, and the top bit of a three-bit coverage
unfoldable pub pack_color_of : Rgba8 → ℕ → ℕ → ℕ
unfolding pack_channel_of
pack_color_of c coverage threshold =
    pack_channel_of c.r threshold * 2048
    + pack_channel_of c.g threshold * 64
    + pack_channel_of c.b threshold * 2
    + coverage / 4
