-- Inner vocabulary. How near a triangle's corners are. Definitions only.
use Rattle.std.specs.Prelude.{ℕ, ◌/◌, ◌<◌, ◌≡◌, List, [], ◌∷◌, map, Float, length, Some}
use Rattle.raster_vertex.specs.declared.Vertex.{Vertex}
use Rattle.raster_vertex.specs.declared.Triangle.{Triangle}
use Rattle.raster_vertex.specs.Sorted.{sorted}
use Rattle.raster_edges.specs.Limits.{AllNear}
use Rattle.raster_pixel.specs.Admitted.{triangle_at}
use Rattle.raster_pixel.specs.Emitted.{corner_of}

-- sorted and in quarter units, they are near enough that nothing overflows
abbrev pub CornersNear : Vertex → Vertex → Vertex → Type 0
CornersNear a b c = AllNear (map corner_of (sorted (a ∷ b ∷ c ∷ [])))

-- so are those of every triangle of a list
abbrev pub TrianglesNear : List Float → List ℕ → List ℕ → Type 0
TrianglesNear vs ps is = (i : ℕ) → i < length is / 3 → (t : Triangle) → triangle_at vs ps is i ≡ Some t → CornersNear t.a t.b t.c
