-- To be believed. Which samples of a pixel a rectangle holds. From writeback.rs `rasterize`. The pattern is the RDP's coverage: of the 4 by 4
-- places of a pixel every second one is a sample, as on a checkerboard (N64brew, Reality Display Processor; Nintendo 64
-- Programming Manual, coverage). Here row `sub` of four has a left sample, k = 0, and a right one, k = 1. Definitions only.
use Rattle.std.specs.Prelude.{ℕ, ◌+◌, ◌-◌, ◌*◌, ◌%◌, ◌^◌, Bool, false, ◌&&◌, negsuc, Float, if◌then◌else◌}
use Rattle.std.specs.Float.{fin}
use Rattle.std.specs.Float.Ieee.{le, lt}
use Rattle.raster_rectangle.specs.declared.Sides.{Sides}

-- n quarters of a pixel: the number n * 2 ^ -2, with no rounding
abbrev pub quarters : ℕ → Float
quarters n = fin false n (negsuc 1)

-- x, a quarter more in rows 1 and 3, and a half more for the right sample
abbrev pub sample_x : ℕ → ℕ → ℕ → Float
sample_x x sub k = quarters (x * 4 + (sub % 2 + k * 2))

-- y, and a quarter more for each row
abbrev pub sample_y : ℕ → ℕ → Float
sample_y y sub = quarters (y * 4 + sub)

-- low ≤ p < high, by Rust's comparisons: false with a NaN
abbrev pub within_of : Float → Float → Float → Bool
within_of low high p = le low p && lt p high

-- the rectangle holds the point: its left and top sides are in it, its right and bottom ones are not
unfoldable pub inside_of : Sides → Float → Float → Bool
inside_of s px py = within_of s.left s.right px && within_of s.top s.bottom py

-- a sample's bit, where the rectangle holds it: row 0's left sample has bit 7, and row 3's right one bit 0
unfoldable pub sample_bit : Sides → ℕ → ℕ → ℕ → ℕ → ℕ
sample_bit s x y sub k = if inside_of s (sample_x x sub k) (sample_y y sub) then 2 ^ (7 - sub * 2 - k) else 0

-- a row's two bits
unfoldable pub row_bits : Sides → ℕ → ℕ → ℕ → ℕ
row_bits s x y sub = sample_bit s x y sub 0 + sample_bit s x y sub 1

-- the mask of pixel (x, y): the bits of its eight samples
unfoldable pub rect_mask : Sides → ℕ → ℕ → ℕ
rect_mask s x y = row_bits s x y 0 + row_bits s x y 1 + row_bits s x y 2 + row_bits s x y 3
