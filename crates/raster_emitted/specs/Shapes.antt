-- Inner vocabulary. The pixels that a shape emits without their colours, parts of a draw as raster_pixel/specs/Emitted has them. Definitions only; that they are those of the
-- emitted list is proofs/Colorless.
use Rattle.std.specs.Prelude.{ℕ, ◌+◌, ◌*◌, ◌/◌, Bool, ◌||◌, List, [], ◌∷◌, map, nat_abs, Float, length, Option, Some, None, if◌then◌else◌, ◌==◌}
use Rattle.raster_vertex.specs.declared.Vertex.{Vertex}
use Rattle.raster_vertex.specs.declared.Triangle.{Triangle}
use Rattle.raster_vertex.specs.Sorted.{sorted}
use Rattle.raster_vertex.specs.Shade.{culled_of}
use Rattle.raster_edges.specs.declared.Edges.{Edges}
use Rattle.raster_edges.specs.declared.Tri.{Tri}
use Rattle.raster_edges.specs.Edge.{area_of}
use Rattle.raster_edges.specs.Span.{tri_of, edges_of}
use Rattle.raster_edges.specs.Sample.{mask_of}
use Rattle.raster_rectangle.specs.declared.Sides.{Sides}
use Rattle.raster_rectangle.specs.Rectangle.{rect_mask}
use Rattle.raster_pixel.specs.declared.Scissor.{Scissor}
use Rattle.raster_pixel.specs.declared.shapes.Shapes.{Shapes}
use Rattle.raster_pixel.specs.declared.view.View.{View}
use Rattle.raster_pixel.specs.declared.Geometry.{Geometry}
use Rattle.raster_pixel.specs.declared.Geometry.TheVariants.{Nothing, Triangles, Rectangle}
use Rattle.raster_pixel.specs.Admitted.{triangle_at}
use Rattle.raster_pixel.specs.Emitted.{shown, inside, corner_of}
use Rattle.raster_pixel.specs.Parts.{from}
use Rattle.raster_emitted.specs.Masked.{Masked}

-- pixel p with these samples, where it is emitted
unfoldable pub pixel_masks : Bool → ℕ → ℕ → List Masked
pixel_masks antialias mask p = if shown antialias mask then record { pixel = p; mask = mask } ∷ [] else []

-- pixels a up to b, each with this mask
abbrev pub run_masks : ℕ → ℕ → ℕ → List Masked
run_masks mask a b = from (λ (p : ℕ). record { pixel = p; mask = mask } ∷ []) a b

-- pixel x of row y in a frame of width w, between these edges
abbrev pub row_masks : Bool → Edges → ℕ → ℕ → ℕ → List Masked
row_masks antialias e w y x = pixel_masks antialias (mask_of e x) (y * w + x)

-- a shape by its edges: row y from l to r, and all of it inside the scissor
abbrev pub line_masks : Bool → Tri → ℕ → ℕ → ℕ → ℕ → List Masked
line_masks antialias t w l r y = from (row_masks antialias (edges_of t y) w y) l r

abbrev pub shape_masks : Bool → Tri → Scissor → ℕ → ℕ → List Masked
shape_masks antialias t s w h = inside s w h (λ (y : ℕ). row_masks antialias (edges_of t y) w y)

unfoldable pub triangle_masks : Bool → Bool → Scissor → ℕ → ℕ → Vertex → Vertex → Vertex → List Masked
triangle_masks antialias cull s w h a b c =
    let corners = map corner_of (sorted (a ∷ b ∷ c ∷ [])) in
    if culled_of cull a b c || nat_abs (area_of corners) == 0 then [] else shape_masks antialias (tri_of corners) s w h

abbrev pub three_masks : Bool → Bool → Scissor → ℕ → ℕ → Option Triangle → List Masked
three_masks antialias cull s w h None = []
three_masks antialias cull s w h (Some t) = triangle_masks antialias cull s w h t.a t.b t.c

unfoldable pub rectangle_masks : Bool → Scissor → ℕ → ℕ → Sides → List Masked
rectangle_masks antialias s w h sides = inside s w h (λ (y x : ℕ). pixel_masks antialias (rect_mask sides x y) (y * w + x))

abbrev pub triangles_masks : Bool → Bool → Scissor → ℕ → ℕ → List Float → List ℕ → List ℕ → List Masked
triangles_masks antialias cull s w h vs ps is = from (λ (i : ℕ). three_masks antialias cull s w h (triangle_at vs ps is i)) 0 (length is / 3)

abbrev pub geometry_masks : Bool → Bool → Scissor → ℕ → ℕ → List Float → List ℕ → List ℕ → Geometry → List Masked
geometry_masks antialias cull s w h vs ps is Nothing = []
geometry_masks antialias cull s w h vs ps is (Rectangle sides) = rectangle_masks antialias s w h sides
geometry_masks antialias cull s w h vs ps is Triangles = triangles_masks antialias cull s w h vs ps is

-- those of a triangle as it is set up
abbrev pub set_up_masks : Bool → Scissor → ℕ → ℕ → Option (Tri × List Vertex) → List Masked
set_up_masks antialias s w h None = []
set_up_masks antialias s w h (Some p) = shape_masks antialias p.0 s w h

-- those of a draw
abbrev pub masks_as : View → Shapes → List Masked
masks_as v s = geometry_masks s.mode.antialias s.cull v.scissor v.width v.height s.lists.vertices.now s.lists.present.now s.lists.indices.now s.geometry
