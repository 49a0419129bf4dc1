-- Inner vocabulary. The parts of a row and of the rows that have to be looked at, and the part of a row that is full. The Rust looks from the leftmost edge to the
-- rightmost, and from the top corner's row to the bottom corner's. Definitions only.
use Rattle.std.specs.Prelude.{ℕ, ◌+◌, ◌*◌, ◌≡◌, true, pos, slice_index_or}
use Rattle.std.specs.Int.Signed.{lt_z}
use Rattle.raster_edges.specs.declared.Edges.{Edges}
use Rattle.raster_edges.specs.declared.Tri.{Tri}
use Rattle.raster_edges.specs.Span.{edges_of}
use Rattle.raster_edges.specs.Sample.{mask_of}

-- no sample of pixel x lies between the edges
abbrev pub no_sample : Edges → ℕ → Type 0
no_sample e x = mask_of e x ≡ 0

-- all eight samples of pixel x do
abbrev pub all_samples : Edges → ℕ → Type 0
all_samples e x = mask_of e x ≡ 255

-- line s of the four covers something: its left edge lies left of its right one
abbrev pub Covers : Edges → ℕ → Type 0
Covers e s = lt_z (slice_index_or e.left s (pos 0)) (slice_index_or e.right s (pos 0)) ≡ true

-- pixel x lies between the outermost edges of the lines that cover something: one of them begins in x or before, and one ends in x or after. A line that
-- covers nothing widens no row
pub record Between (e : Edges) (x : ℕ) : Type 0 where
  pub begun : (s : ℕ) × (Covers e s) × (lt_z (slice_index_or e.left s (pos 0)) (pos (x * 8 + 8)) ≡ true)
  pub unended : (s : ℕ) × (Covers e s) × (lt_z (pos (x * 8)) (slice_index_or e.right s (pos 0)) ≡ true)

-- no pixel of row y has a sample in the triangle
abbrev pub no_row : Tri → ℕ → Type 0
no_row t y = (x : ℕ) → no_sample (edges_of t y) x
