-- To be believed. A field of a word. Definitions only.
use Rattle.std.specs.Prelude.{ℕ, ◌/◌, ◌%◌, ◌^◌}

-- the n bits of v from bit k up, bit 0 being the lowest
unfoldable pub field : ℕ → ℕ → ℕ → ℕ
field v k n = v / 2 ^ k % 2 ^ n
