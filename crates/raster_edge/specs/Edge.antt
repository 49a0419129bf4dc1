-- To be believed. An edge in whole numbers: its roundings, which are the Rust's, and its x on a quarter line. An edge's x is in 2^-16 of a pixel, a line's x in eighths of a pixel.
-- Definitions only.
use Rattle.std.specs.Prelude.{ℕ, zero, suc, ◌+◌, ◌-◌, ◌/◌, ◌%◌, max, ℤ, pos, negsuc, neg_ℤ, ◌+ℤ◌, ◌-ℤ◌, ◌*ℤ◌}
use Rattle.std.specs.Int.Signed.{shr_z}
use Rattle.raster_edge.specs.declared.Edge.{Edge}

-- the greatest multiple of m that is at most z: for m a power of two, z with the bits below m cleared
abbrev pub floor_to : ℤ → ℕ → ℤ
floor_to z m = shr_z z m *ℤ pos m

-- z less that multiple, 0 to m - 1: those bits
abbrev pub mod_z : ℤ → ℕ → ℕ
mod_z (pos a) m = a % m
mod_z (negsuc a) m = (m - 1) - a % m

-- 0 for 0, else 1
abbrev pub sticky : ℕ → ℤ
sticky zero = pos 0
sticky (suc n) = pos 1

-- x shifted down 13, with the lowest bit cleared, and that bit set if one of x's bits 1 to 13 is
unfoldable pub quantized : ℤ → ℤ
quantized x = floor_to (shr_z x 8192) 2 +ℤ sticky (mod_z x 16384 / 2)

-- z over d, its size rounded up
abbrev pub ceil_div : ℕ → ℕ → ℕ
ceil_div a d = (a + d - 1) / d

abbrev pub away_div : ℤ → ℕ → ℤ
away_div (pos a) d = pos (ceil_div a d)
away_div (negsuc a) d = neg_ℤ (pos (ceil_div (suc a) d))

-- z, but at least 1
abbrev pub at_least_one : ℤ → ℕ
at_least_one (pos a) = max a 1
at_least_one (negsuc a) = 1

-- an edge's x on quarter line n; the step's quarter is lowered to an even number
unfoldable pub edge_at : Edge → ℕ → ℤ
edge_at e n = e.start +ℤ floor_to (shr_z e.step 4) 2 *ℤ (pos n -ℤ e.base)

-- and in eighths of a pixel
unfoldable pub cross_of : Edge → ℕ → ℤ
cross_of e n = quantized (edge_at e n)
