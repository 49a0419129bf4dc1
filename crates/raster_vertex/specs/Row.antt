-- Inner vocabulary. The colours of a row's pixels: `shade_of` cut in two, what turns on the triangle and the row alone, and what is left for a pixel. Definitions only.
-- Source: writeback.rs, `rasterize`; the operations are those of Shade, in the same order.
use Rattle.std.specs.Prelude.{ℕ, List, pos, Float}
use Rattle.std.specs.Float.{binary32}
use Rattle.std.specs.Float.Ieee.{of_int, sub, mul}
use Rattle.state.specs.declared.Rgba.{Rgba}
use Rattle.raster_vertex.specs.declared.Vertex.{Vertex}
use Rattle.raster_vertex.specs.declared.row.Line.{Line}
use Rattle.raster_vertex.specs.declared.row.ShadeRow.{ShadeRow}
use Rattle.raster_vertex.specs.Shade.{colours_of, area_of, term, sum3}
use Rattle.raster_vertex.specs.Sorted.{vertex_at}

-- of an edge at px, py, what px has no part in
unfoldable pub line_of : Vertex → Vertex → Float → Line
line_of a b py = record { level = mul binary32 (sub binary32 b.x a.x) (sub binary32 py a.y); rise = sub binary32 b.y a.y; x = a.x }

-- level - rise * (px - x)
unfoldable pub weight_at : Line → Float → Float
weight_at l px = sub binary32 l.level (mul binary32 l.rise (sub binary32 px l.x))

abbrev pub row_by : Vertex → Vertex → Vertex → Float → ShadeRow
row_by a b c py =
    record {
      line_a = line_of b c py;
      line_b = line_of c a py;
      line_c = line_of a b py;
      a = colours_of a;
      b = colours_of b;
      c = colours_of c;
      den = area_of a b c;
    }

-- row y of the triangle v
abbrev pub row_of : List Vertex → ℕ → ShadeRow
row_of v y = row_by (vertex_at v 0) (vertex_at v 1) (vertex_at v 2) (of_int binary32 (pos y))

-- three colours by their weights
unfoldable pub weighed_by : Rgba → Rgba → Rgba → Float → Float → Float → Float → Rgba
weighed_by a b c u v w den =
    record {
      r = sum3 (term u a.r den) (term v b.r den) (term w c.r den);
      g = sum3 (term u a.g den) (term v b.g den) (term w c.g den);
      b = sum3 (term u a.b den) (term v b.b den) (term w c.b den);
      a = sum3 (term u a.a den) (term v b.a den) (term w c.a den);
    }

abbrev pub shade_on_at : ShadeRow → Float → Rgba
shade_on_at row px = weighed_by row.a row.b row.c (weight_at row.line_a px) (weight_at row.line_b px) (weight_at row.line_c px) row.den

-- the colour of a row at its pixel x
abbrev pub shade_on : ShadeRow → ℕ → Rgba
shade_on row x = shade_on_at row (of_int binary32 (pos x))
