-- A row's colours are the triangle's: the same operations in the same order, so that both sides unfold to one expression.
use mathlib.Core.Path.{◌≡◌, refl}
use Prim.Native.Nat.{ℕ}
use mathlib.Core.List.{List}
use Rattle.raster_vertex.specs.declared.Vertex.{Vertex}
use Rattle.raster_vertex.specs.Shade.{edge_of, weighed, shade_of}
use Rattle.raster_vertex.specs.Row.{line_of, weight_at, weighed_by, row_of, shade_on}

-- Row y of a triangle has, at its pixel x, the triangle's colour at x, y.
pub row_shade : (v : List Vertex) (x y : ℕ) → shade_on (row_of v y) x ≡ shade_of v x y
unfolding edge_of weighed line_of weight_at weighed_by
row_shade v x y = refl
