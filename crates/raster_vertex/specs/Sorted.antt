-- To be believed. The order of a triangle's vertices: writeback.rs, `rasterize`, whose `sort_by` is stable and goes by y, then x, in `total_cmp`'s order.
-- -0.0 comes before 0.0. `total_cmp` orders NaNs too, which no vertex in range has; `total_le` is false of them.
use Rattle.std.specs.Prelude.{ℕ, Bool, not, ◌&&◌, ◌||◌, List, [], ◌∷◌, if◌then◌else◌, slice_index_or}
use Rattle.std.specs.Float.{nan}
use Rattle.num_float.specs.Color.{total_le}
use Rattle.raster_vertex.specs.declared.Vertex.{Vertex}

-- The vertex at place k of a list. A triangle has three; past the end stands one of NaNs, which no call looks at.
abbrev pub vertex_at : List Vertex → ℕ → Vertex
vertex_at v k = slice_index_or v k (record { x = nan; y = nan; r = nan; g = nan; b = nan; a = nan })

-- a's y is at or before b's, and where b's is at or before a's too, which makes them one, so is a's x
unfoldable pub at_or_before : Vertex → Vertex → Bool
at_or_before a b = total_le a.y b.y && (not (total_le b.y a.y) || total_le a.x b.x)

-- v in front of the first that it is at or before
unfoldable pub insert : Vertex → List Vertex → List Vertex
insert v [] = v ∷ []
insert v (w ∷ ws) = if at_or_before v w then v ∷ w ∷ ws else w ∷ insert v ws

-- The last vertex goes in first, and an earlier one in front of those at its own position: equal positions keep their order
unfoldable pub sorted : List Vertex → List Vertex
sorted [] = []
sorted (v ∷ vs) = insert v (sorted vs)
