-- To be believed. What a triangle spans on a quarter line. The major edge runs from the first corner to the last; the other two meet at the middle one. These are
-- the high, middle and low edges of the N64 Programming Manual and the N64brew wiki's RDP pages. Which lines count, which side is the left one and
-- that the lower edge starts at the middle corner itself is the Rust's. Definitions only.
use Rattle.std.specs.Prelude.{ℕ, ◌+◌, ◌*◌, Bool, true, false, List, [], ◌∷◌, map, pos, ◌*ℤ◌}
use Rattle.std.specs.Int.Signed.{lt_z, le_z}
use Rattle.raster_edges.specs.declared.Corner.{Corner}
use Rattle.raster_edges.specs.declared.Tri.{Tri}
use Rattle.raster_edge.specs.declared.Span.{Span}
use Rattle.raster_edge.specs.Span.{span_of}
use Rattle.raster_edges.specs.declared.Edges.{Edges}
use Rattle.raster_edges.specs.Edge.{slope_of, corner_at, edge_from}

-- the edges of the triangle a, b, c, sorted top to bottom
unfoldable pub tri_by : Corner → Corner → Corner → Tri
tri_by a b c = record {
  major = edge_from a (slope_of a c);
  upper = edge_from a (slope_of a b);
  lower = record { start = b.x *ℤ pos 16384; step = slope_of b c; base = b.y };
  top = a.y;
  mid = b.y;
  end = c.y;
  rightward = le_z (slope_of a c) (slope_of a b);
}

abbrev pub tri_of : List Corner → Tri
tri_of v = tri_by (corner_at v 0) (corner_at v 1) (corner_at v 2)

abbrev pub pick_span : Bool → Span → Span → Span
pick_span true a b = a
pick_span false a b = b

abbrev pub no_span : Span
no_span = record { l = pos 0; r = pos 0 }

-- on quarter line n: nothing above the top or from the end; the upper edge above mid, the lower one from there
unfoldable pub line_of : Tri → ℕ → Span
line_of t n =
    pick_span (lt_z (pos n) t.top) no_span
    (pick_span (le_z t.end (pos n)) no_span
    (pick_span (lt_z (pos n) t.mid) (span_of t.major t.upper t.rightward n) (span_of t.major t.lower t.rightward n)))

-- the four quarter lines of row y
unfoldable pub edges_of : Tri → ℕ → Edges
edges_of t y = record {
  left = map (λ s. (line_of t (y * 4 + s)).l) (0 ∷ 1 ∷ 2 ∷ 3 ∷ []);
  right = map (λ s. (line_of t (y * 4 + s)).r) (0 ∷ 1 ∷ 2 ∷ 3 ∷ []);
}
