-- Inner vocabulary. A shape as it is drawn, be it a triangle or a rectangle: edges, and how its pixels get their colours. Definitions only.
use Rattle.std.specs.Prelude.{ℕ, Bool, not, List, Option, option_map}
use Rattle.std.specs.Bool.{then_some}
use Rattle.raster_edges.specs.declared.Tri.{Tri}
use Rattle.raster_edges.specs.Span.{edges_of}
use Rattle.raster_vertex.specs.declared.Vertex.{Vertex}
use Rattle.raster_vertex.specs.declared.row.ShadeRow.{ShadeRow}
use Rattle.raster_vertex.specs.Row.{row_of}
use Rattle.raster_pixel.specs.Parts.{from}
use Rattle.raster_pixel.specs.declared.view.View.{View}
use Rattle.raster_pixel.specs.Emitted.{Emit, inside}
use Rattle.frame_paint.specs.declared.paint.Paint.{Paint}
use Rattle.frame_paint.specs.Row.{row_at}

-- each pixel's own, or all pixels the paint's
abbrev pub Shading : Type 0
Shading = Option (List Vertex)

-- of a triangle: none of its own where it is flat
abbrev pub shading_of : Bool → List Vertex → Shading
shading_of flat v = then_some (not flat) v

-- the shades of row y
abbrev pub shades_on : Shading → ℕ → Option ShadeRow
shades_on shading y = option_map (λ v. row_of v y) shading

-- pixel (x, y) of a shape in a frame of width w, and its row y from l to r
abbrev pub shape_pixel : Paint → Shading → Tri → ℕ → ℕ → ℕ → List Emit
shape_pixel paint shading t w y = row_at paint (shades_on shading y) (edges_of t y) w y

abbrev pub shape_row : Paint → Shading → Tri → ℕ → ℕ → ℕ → ℕ → List Emit
shape_row paint shading t w l r y = from (shape_pixel paint shading t w y) l r

-- and all its pixels in a view
abbrev pub shape_emits : Paint → Shading → Tri → View → List Emit
shape_emits paint shading t v = inside v.scissor v.width v.height (shape_pixel paint shading t v.width)
