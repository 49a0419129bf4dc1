-- To be believed. The eight samples of a pixel: four rows of two, every other one of a four by four grid (N64 Programming Manual and N64brew wiki, coverage).
-- Their positions, in eighths of a pixel, and their bits are the Rust's. Definitions only.
use Rattle.std.specs.Prelude.{ℕ, ◌+◌, ◌*◌, ◌%◌, Bool, true, false, ◌&&◌, ℤ, pos, slice_index_or}
use Rattle.std.specs.Int.Signed.{le_z, lt_z}
use Rattle.raster_edges.specs.declared.Edges.{Edges}

abbrev pub bit_of : Bool → ℕ
bit_of true = 1
bit_of false = 0

-- l ≤ n < r
abbrev pub inside : ℤ → ℤ → ℕ → Bool
inside l r n = le_z l (pos n) && lt_z (pos n) r

-- the left sample of pixel x on row s: 2 eighths further on the odd rows. The right one is 4 further
abbrev pub sample_at : ℕ → ℕ → ℕ
sample_at x s = x * 8 + s % 2 * 2

-- which of the two samples at n and n + 4 lie in l..r: the left one counts 2
unfoldable pub two_of : ℤ → ℤ → ℕ → ℕ
two_of l r n = 2 * bit_of (inside l r n) + bit_of (inside l r (n + 4))

-- those of pixel x on row s
unfoldable pub pair_of : Edges → ℕ → ℕ → ℕ
pair_of e x s = two_of (slice_index_or e.left s (pos 0)) (slice_index_or e.right s (pos 0)) (sample_at x s)

-- the four rows, row 0 in the highest bits: bit 7 is its left sample
unfoldable pub mask_of : Edges → ℕ → ℕ
mask_of e x = 64 * pair_of e x 0 + 16 * pair_of e x 1 + 4 * pair_of e x 2 + pair_of e x 3
