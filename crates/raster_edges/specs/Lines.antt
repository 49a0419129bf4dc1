-- Inner vocabulary. A row's four quarter lines between the same two edges. Definitions only.
use Rattle.std.specs.Prelude.{ℕ, Bool, true, false, List, ℤ}
use Rattle.raster_edge.specs.declared.Edge.{Edge}
use Rattle.raster_edge.specs.Lines.{four_of}
use Rattle.raster_edges.specs.declared.Edges.{Edges}

-- from the major edge to the other, or the other way round
abbrev pub edges_by : Bool → List ℤ → List ℤ → Edges
edges_by true m n = record { left = m; right = n }
edges_by false m n = record { left = n; right = m }

unfoldable pub row_of : Edge → Edge → Bool → ℕ → Edges
row_of major other rightward n = edges_by rightward (four_of major n) (four_of other n)
