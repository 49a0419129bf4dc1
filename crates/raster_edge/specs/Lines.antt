-- Inner vocabulary. An edge's x on four quarter lines at once. Definitions only.
use Rattle.std.specs.Prelude.{ℕ, ◌+◌, List, [], ◌∷◌, map, ℤ}
use Rattle.raster_edge.specs.declared.Edge.{Edge}
use Rattle.raster_edge.specs.Edge.{cross_of}

-- an edge on four quarter lines from n
unfoldable pub four_of : Edge → ℕ → List ℤ
four_of e n = map (λ s. cross_of e (n + s)) (0 ∷ 1 ∷ 2 ∷ 3 ∷ [])
