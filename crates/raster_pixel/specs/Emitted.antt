-- To be believed. The pixels that a draw emits, in the Rust's order: triangle after triangle, row after row, from left to right. Definitions only. Source: writeback.rs,
-- `rasterize`. A row is every pixel of the frame inside the scissor; that its outermost edges may be looked at first is a law, and not part of this.
use Rattle.std.specs.Prelude.{ℕ, ◌+◌, ◌*◌, ◌/◌, min, Bool, ◌&&◌, ◌||◌, List, [], ◌∷◌, map, nat_abs, Float, length, Option, Some, None, if◌then◌else◌, ◌==◌, nat_lt, nat_le}
use Rattle.num_float.specs.Whole.{quarter_of}
use Rattle.state.specs.declared.RenderMode.{RenderMode}
use Rattle.state.specs.declared.Rgba.{Rgba}
use Rattle.combiner.specs.declared.Combiner.{Combiner}
use Rattle.combiner.specs.Combine.{color_of, full_shade}
use Rattle.raster_vertex.specs.declared.Vertex.{Vertex}
use Rattle.raster_vertex.specs.declared.Triangle.{Triangle}
use Rattle.raster_vertex.specs.Sorted.{sorted}
use Rattle.raster_vertex.specs.Shade.{culled_of, shade_of}
use Rattle.raster_edges.specs.declared.Corner.{Corner}
use Rattle.raster_edges.specs.declared.Edges.{Edges}
use Rattle.raster_edges.specs.Edge.{area_of}
use Rattle.raster_edges.specs.Span.{tri_of, edges_of}
use Rattle.raster_edges.specs.Sample.{mask_of}
use Rattle.raster_rectangle.specs.declared.Sides.{Sides}
use Rattle.raster_rectangle.specs.Rectangle.{rect_mask}
use Rattle.raster_pixel.specs.declared.Scissor.{Scissor}
use Rattle.raster_pixel.specs.declared.Fragment.{Fragment}
use Rattle.raster_pixel.specs.declared.Geometry.{Geometry}
use Rattle.raster_pixel.specs.declared.Geometry.TheVariants.{Nothing, Triangles, Rectangle}
use Rattle.raster_pixel.specs.Parts.{from}
use Rattle.raster_pixel.specs.Admitted.{triangle_at}

-- an emitted pixel: its number y * width + x, the mask of its eight samples, its combined colour and its shade alpha
pub record Emit : Type 0 where
  pub pixel : ℕ
  pub mask : ℕ
  pub color : Rgba
  pub shade : Float

-- a pixel is emitted if a sample is hit; without antialias, only if bit 7, its upper left sample, is
abbrev pub shown : Bool → ℕ → Bool
shown antialias mask = nat_lt 0 mask && (antialias || nat_le 128 mask)

-- a pixel with its combined colour, if there is one: a combiner that `new` made always has one
abbrev pub covered : ℕ → Option Rgba → Float → Option Fragment
covered mask None shade = None
covered mask (Some color) shade = Some (record { mask = mask; color = color; shade_alpha = shade })

abbrev pub emits : Option Fragment → ℕ → List Emit
emits None pixel = []
emits (Some f) pixel = record { pixel = pixel; mask = f.mask; color = f.color; shade = f.shade_alpha } ∷ []

-- the pixels of the frame inside the scissor, row by row
abbrev pub inside : {A : Type 0} → Scissor → ℕ → ℕ → (ℕ → ℕ → List A) → List A
inside s w h pixel =
    from (λ (y : ℕ). from (pixel y) s.left (min w (s.left + s.width))) s.top (min h (s.top + s.height))

-- ---- a triangle

-- a vertex in quarter units
abbrev pub corner_of : Vertex → Corner
corner_of v = record { x = quarter_of v.x; y = quarter_of v.y }

-- pixel (x, y): its samples between the edges of row y, and the shade at its upper left corner, of the vertices sorted
unfoldable pub triangle_fragment : Bool → Combiner → List Vertex → Edges → ℕ → ℕ → Option Fragment
triangle_fragment antialias k o e y x =
    let mask = mask_of e x in
    let shade = shade_of o x y in
    if shown antialias mask then covered mask (color_of k shade) shade.a else None

-- nothing of a triangle that is culled, by its float area before sorting, or whose area in quarter units is 0
unfoldable pub triangle_emits : RenderMode → Combiner → Bool → Scissor → ℕ → ℕ → Vertex → Vertex → Vertex → List Emit
triangle_emits m k cull s w h a b c =
    let o = sorted (a ∷ b ∷ c ∷ []) in
    let corners = map corner_of o in
    if culled_of cull a b c || nat_abs (area_of corners) == 0 then []
    else inside s w h (λ (y x : ℕ). emits (triangle_fragment m.antialias k o (edges_of (tri_of corners) y) y x) (y * w + x))

abbrev pub three_emits : RenderMode → Combiner → Bool → Scissor → ℕ → ℕ → Option Triangle → List Emit
three_emits m k cull s w h None = []
three_emits m k cull s w h (Some t) = triangle_emits m k cull s w h t.a t.b t.c

-- ---- a rectangle: its colour is combined with the shade 1.0, and cull is ignored
unfoldable pub rectangle_fragment : Bool → Option Rgba → Sides → ℕ → ℕ → Option Fragment
rectangle_fragment antialias c sides y x =
    let mask = rect_mask sides x y in
    if shown antialias mask then covered mask c full_shade.a else None

unfoldable pub rectangle_emits : RenderMode → Combiner → Scissor → ℕ → ℕ → Sides → List Emit
rectangle_emits m k s w h sides =
    inside s w h (λ (y x : ℕ). emits (rectangle_fragment m.antialias (color_of k full_shade) sides y x) (y * w + x))

-- ---- a draw
abbrev pub geometry_emits : RenderMode → Combiner → Bool → Scissor → ℕ → ℕ → List Float → List ℕ → List ℕ → Geometry → List Emit
geometry_emits m k cull s w h vs ps is Nothing = []
geometry_emits m k cull s w h vs ps is (Rectangle sides) = rectangle_emits m k s w h sides
geometry_emits m k cull s w h vs ps is Triangles =
    from (λ (i : ℕ). three_emits m k cull s w h (triangle_at vs ps is i)) 0 (length is / 3)
