-- A function mapped over a triangle's three vertices. Assumes nothing.
use mathlib.Core.Path.{◌≡◌, refl}
use mathlib.Core.List.{List, [], ◌∷◌, map}
use native.Mathlib.Omega.{arith}
use lib.ListN.{length}
use Rattle.raster_vertex.specs.declared.Vertex.{Vertex}
use Rattle.raster_vertex.specs.Sorted.{vertex_at}

pub map_three : {B : Type 0} (f : Vertex → B) (v : List Vertex) → length v ≡ 3 → f (vertex_at v 0) ∷ f (vertex_at v 1) ∷ f (vertex_at v 2) ∷ [] ≡ map f v
map_three f [] h = absurd (omega arith)
map_three f (a ∷ []) h = absurd (omega arith)
map_three f (a ∷ b ∷ []) h = absurd (omega arith)
map_three f (a ∷ b ∷ c ∷ []) h = refl
map_three f (a ∷ b ∷ c ∷ d ∷ v) h = absurd (omega arith)
