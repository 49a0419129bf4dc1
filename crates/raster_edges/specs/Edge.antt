-- To be believed. A triangle's edges in whole numbers, after the edge coefficients of the N64 Programming Manual and the N64brew wiki's RDP pages; the
-- roundings are the Rust's. Corners are in quarters of a pixel, an edge's x in 2^-16 of a pixel, a line's x in eighths of a pixel.
-- Definitions only.
use Rattle.std.specs.Prelude.{ℕ, List, ℤ, pos, ◌-ℤ◌, ◌*ℤ◌, slice_index_or}
use Rattle.std.specs.Int.Signed.{shr_z}
use Rattle.raster_edges.specs.declared.Corner.{Corner}
use Rattle.raster_edge.specs.declared.Edge.{Edge}
use Rattle.raster_edge.specs.Edge.{floor_to, mod_z, away_div, at_least_one}

-- the difference in x times 65,536 over the height (at least 1), its size rounded up, then lowered to a multiple of 8
unfoldable pub slope_of : Corner → Corner → ℤ
slope_of a b = floor_to (away_div ((b.x -ℤ a.x) *ℤ pos 65536) (at_least_one (b.y -ℤ a.y))) 8

-- corner i of a list
abbrev pub corner_at : List Corner → ℕ → Corner
corner_at v i = slice_index_or v i (record { x = pos 0; y = pos 0 })

-- twice the area of the triangle a, b, c, by the turn of its corners
unfoldable pub area_by : Corner → Corner → Corner → ℤ
area_by a b c = (b.x -ℤ a.x) *ℤ (c.y -ℤ a.y) -ℤ (b.y -ℤ a.y) *ℤ (c.x -ℤ a.x)

abbrev pub area_of : List Corner → ℤ
area_of v = area_by (corner_at v 0) (corner_at v 1) (corner_at v 2)

-- the x of the edge through a on the whole line at or above a
unfoldable pub edge_start : Corner → ℤ → ℤ
edge_start a step = a.x *ℤ pos 16384 -ℤ shr_z step 4 *ℤ pos (mod_z a.y 4)

-- that edge, from that line
unfoldable pub edge_from : Corner → ℤ → Edge
edge_from a step = record { start = edge_start a step; step = step; base = floor_to a.y 4 }
