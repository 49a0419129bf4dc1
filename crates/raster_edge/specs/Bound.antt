-- Inner vocabulary. What bounds the edges on four quarter lines: the outermost, and the innermost as the first and the last full pixel. Definitions only.
use Rattle.std.specs.Prelude.{ℕ, ◌+◌, ◌/◌, min, max, Bool, true, false, List, ℤ, pos, negsuc, ◌-ℤ◌, slice_index_or}
use Rattle.std.specs.Int.Signed.{lt_z, le_z}
use Rattle.raster_range.specs.declared.Range.{Range}

-- the smaller of two, or the larger
abbrev pub pick_z : Bool → Bool → ℤ → ℤ → ℤ
pick_z true true a b = a
pick_z true false a b = b
pick_z false true a b = b
pick_z false false a b = a

abbrev pub outer_of : Bool → ℤ → ℤ → ℤ
outer_of low a b = pick_z (le_z a b) low a b

-- the first eighth that a line from l up to r covers, or the last. A line that covers none is put past pixel 1,023, or before pixel 0
abbrev pub tip_by : Bool → Bool → ℤ → ℤ → ℤ
tip_by true true l r = l
tip_by true false l r = r -ℤ pos 1
tip_by false true l r = pos 8192
tip_by false false l r = negsuc 0

-- line s of four
abbrev pub tip_of : Bool → List ℤ → List ℤ → ℕ → ℤ
tip_of low l r s = tip_by (lt_z (slice_index_or l s (pos 0)) (slice_index_or r s (pos 0))) low (slice_index_or l s (pos 0)) (slice_index_or r s (pos 0))

-- all four
unfoldable pub outermost_of : Bool → List ℤ → List ℤ → ℤ
outermost_of low l r = outer_of low (outer_of low (tip_of low l r 0) (tip_of low l r 1)) (outer_of low (tip_of low l r 2) (tip_of low l r 3))

-- z within lo to hi
abbrev pub clamp_of : ℤ → ℕ → ℕ → ℕ
clamp_of (pos a) lo hi = max lo (min a hi)
clamp_of (negsuc a) lo hi = lo

-- the part of lo..hi that lies in from..to
unfoldable pub range_of : ℤ → ℤ → ℕ → ℕ → Range
range_of from to lo hi = record { start = clamp_of from lo hi; end = clamp_of to (clamp_of from lo hi) hi }

-- the smaller or the larger of the edges on rows i and j, within 0 to 8,192: the eighths of the pixels 0 to 1,023
unfoldable pub edge_of_rows : Bool → List ℤ → ℕ → ℕ → ℕ
edge_of_rows low e i j = clamp_of (outer_of low (slice_index_or e i (pos 0)) (slice_index_or e j (pos 0))) 0 8192

-- the first pixel x all of whose samples lie right of their left edges: 8 x, and 8 x + 2 on the odd rows, are the leftmost
unfoldable pub full_from : List ℤ → ℕ
full_from l = max (edge_of_rows false l 0 2 + 7) (edge_of_rows false l 1 3 + 5) / 8

-- the first pixel x not all of whose samples lie left of their right edges: 8 x + 4, and 8 x + 6 on the odd rows, are the rightmost
unfoldable pub full_to : List ℤ → ℕ
full_to r = min (edge_of_rows true r 0 2 + 3) (edge_of_rows true r 1 3 + 1) / 8
