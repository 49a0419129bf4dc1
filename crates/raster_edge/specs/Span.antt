-- To be believed. What lies between two edges on a quarter line. Which side is the left one is the Rust's. Definitions only.
use Rattle.std.specs.Prelude.{ℕ, Bool, true, false, ℤ}
use Rattle.raster_edge.specs.declared.Edge.{Edge}
use Rattle.raster_edge.specs.declared.Span.{Span}
use Rattle.raster_edge.specs.Edge.{cross_of}

-- from the major edge to the other, or the other way round
abbrev pub span_by : Bool → ℤ → ℤ → Span
span_by true m n = record { l = m; r = n }
span_by false m n = record { l = n; r = m }

unfoldable pub span_of : Edge → Edge → Bool → ℕ → Span
span_of major other rightward n = span_by rightward (cross_of major n) (cross_of other n)
