-- To be believed. What one pixel of a draw emits, by itself: raster_pixel/specs/Emitted.antt without its lists, and total. Definitions only. Source: writeback.rs, `rasterize`.
use Rattle.std.specs.Prelude.{ℕ, ◌/◌, Bool, not, ◌||◌, List, [], ◌∷◌, map, nat_abs, Float, length, Option, None, Some, if◌then◌else◌, ◌==◌, nat_le}
use Rattle.combiner.specs.declared.Combiner.{Combiner}
use Rattle.combiner.specs.Combine.{color_of, full_shade}
use Rattle.raster_vertex.specs.declared.Triangle.{Triangle}
use Rattle.raster_vertex.specs.declared.Vertex.{Vertex}
use Rattle.raster_vertex.specs.Range.{in_range}
use Rattle.raster_vertex.specs.Sorted.{sorted}
use Rattle.raster_vertex.specs.Shade.{culled_of}
use Rattle.raster_edges.specs.Edge.{area_of}
use Rattle.raster_edges.specs.Span.{tri_of, edges_of}
use Rattle.raster_pixel.specs.declared.Fragment.{Fragment}
use Rattle.raster_pixel.specs.declared.Geometry.{Geometry}
use Rattle.raster_pixel.specs.declared.Geometry.TheVariants.{Nothing, Triangles, Rectangle}
use Rattle.raster_admitted.specs.Check.{any}
use Rattle.raster_pixel.specs.Admitted.{triangle_at}
use Rattle.raster_pixel.specs.Emitted.{corner_of, triangle_fragment, rectangle_fragment}

-- pixel (x, y) of a triangle: nothing where a vertex is out of range, which no admitted draw has, or where the triangle is skipped
unfoldable pub emitted_triangle : Bool → Combiner → Bool → Triangle → ℕ → ℕ → Option Fragment
emitted_triangle antialias k cull t y x =
    let o = sorted (t.a ∷ t.b ∷ t.c ∷ []) in
    let corners = map corner_of o in
    if any (λ (v : Vertex). not (in_range v)) t.a t.b t.c then None
    else if culled_of cull t.a t.b t.c || nat_abs (area_of corners) == 0 then None
    else triangle_fragment antialias k o (edges_of (tri_of corners) y) y x

abbrev pub emitted_three : Bool → Combiner → Bool → Option Triangle → ℕ → ℕ → Option Fragment
emitted_three antialias k cull None y x = None
emitted_three antialias k cull (Some t) y x = emitted_triangle antialias k cull t y x

-- pixel (x, y) of triangle i, if there is one
unfoldable pub emitted_indexed : Bool → Combiner → Bool → List Float → List ℕ → List ℕ → ℕ → ℕ → ℕ → Option Fragment
emitted_indexed antialias k cull vs ps is i y x =
    if nat_le (length is / 3) i then None else emitted_three antialias k cull (triangle_at vs ps is i) y x

-- pixel (x, y) of triangle i, or of the rectangle
abbrev pub emitted_geometry : Bool → Combiner → Bool → List Float → List ℕ → List ℕ → ℕ → ℕ → ℕ → Geometry → Option Fragment
emitted_geometry antialias k cull vs ps is i y x Nothing = None
emitted_geometry antialias k cull vs ps is i y x (Rectangle sides) =
    rectangle_fragment antialias (color_of k full_shade) sides y x
emitted_geometry antialias k cull vs ps is i y x Triangles = emitted_indexed antialias k cull vs ps is i y x

-- and nothing from column or row 1,024 on, where no frame reaches
unfoldable pub emitted_pixel : Bool → Combiner → Bool → Geometry → List Float → List ℕ → List ℕ → ℕ → ℕ → ℕ → Option Fragment
emitted_pixel antialias k cull g vs ps is i y x =
    if nat_le 1024 x || nat_le 1024 y then None else emitted_geometry antialias k cull vs ps is i y x g
