-- Inner vocabulary. A shape as the slow engine has it, sample by sample, and what its pixels emit. Definitions only; that these are the pixels of raster_pixel/specs/Emitted
-- is proofs/Emitted.
use Rattle.std.specs.Prelude.{ℕ, ◌+◌, ◌*◌, ◌/◌, Bool, false, List, [], Float, length, Option, None, Some, if◌then◌else◌}
use Rattle.state.specs.declared.RenderMode.{RenderMode}
use Rattle.state.specs.declared.Rgba.{Rgba}
use Rattle.combiner.specs.declared.Combiner.{Combiner}
use Rattle.combiner.specs.Combine.{color_of, full_shade}
use Rattle.raster_vertex.specs.declared.Vertex.{Vertex}
use Rattle.raster_vertex.specs.Shade.{shade_of}
use Rattle.raster_edges.specs.Limits.{TameTri}
use Rattle.raster_edges.specs.declared.Tri.{Tri}
use Rattle.raster_edges.specs.Span.{line_of}
use Rattle.raster_edges.specs.Sample.{bit_of, inside, sample_at}
use Rattle.raster_rectangle.specs.Rectangle.{inside_of, sample_x, sample_y}
use Rattle.raster_pixel.specs.declared.Fragment.{Fragment}
use Rattle.raster_pixel.specs.declared.Geometry.{Geometry}
use Rattle.raster_pixel.specs.declared.Geometry.TheVariants as geometry
use Rattle.raster_pixel.specs.declared.Area.{Area}
use Rattle.raster_pixel.specs.declared.shapes.Shapes.{Shapes}
use Rattle.raster_pixel.specs.declared.view.View.{View}
use Rattle.raster_pixel.specs.Area.{area_of}
use Rattle.raster_pixel.specs.SetUp.{set_up_of, set_up_by}
use Rattle.raster_vertex.specs.declared.Triangle as vertices
use Rattle.raster_pixel.specs.Admitted.{triangle_at}
use Rattle.raster_pixel.specs.Emitted.{Emit, shown, covered, emits}
use Rattle.raster_pixel.specs.Parts.{from}
use Rattle.rasterize_slow.specs.declared.Shape.{Shape}
use Rattle.rasterize_slow.specs.declared.Shape.TheVariants.{Triangle, Rectangle}

-- ---- samples

-- the shape holds the sample of pixel (x, y) on this line of four: the left one, side 0, or the right one, side 1; one that is not there holds none
unfoldable pub sample_hit : Option Shape → ℕ → ℕ → ℕ → ℕ → Bool
sample_hit None y x line side = false
sample_hit (Some (Triangle t o)) y x line side = inside (line_of t (y * 4 + line)).l (line_of t (y * 4 + line)).r (sample_at x line + side * 4)
sample_hit (Some (Rectangle s)) y x line side = inside_of s (sample_x x line side) (sample_y y line)

-- a line's two samples, the left one counts 2
unfoldable pub pair_hit : Option Shape → ℕ → ℕ → ℕ → ℕ
pair_hit shape y x line = 2 * bit_of (sample_hit shape y x line 0) + bit_of (sample_hit shape y x line 1)

-- the four lines, line 0 in the highest bits
unfoldable pub shape_mask : Option Shape → ℕ → ℕ → ℕ
shape_mask shape y x = 64 * pair_hit shape y x 0 + 16 * pair_hit shape y x 1 + 4 * pair_hit shape y x 2 + pair_hit shape y x 3

-- ---- pixels

abbrev pub shape_shade : Shape → ℕ → ℕ → Rgba
shape_shade (Triangle t o) y x = shade_of o x y
shape_shade (Rectangle s) y x = full_shade

unfoldable pub shape_fragment : Bool → Combiner → Shape → ℕ → ℕ → Option Fragment
shape_fragment antialias k shape y x =
    if shown antialias (shape_mask (Some shape) y x) then covered (shape_mask (Some shape) y x) (color_of k (shape_shade shape y x)) (shape_shade shape y x).a else None

-- of a shape that may not be there: then nothing
abbrev pub optional_fragment : Bool → Combiner → Option Shape → ℕ → ℕ → Option Fragment
optional_fragment antialias k None y x = None
optional_fragment antialias k (Some shape) y x = shape_fragment antialias k shape y x

-- ---- shapes

-- nothing overflows on its edges
abbrev pub TameShape : Shape → Type 0
TameShape (Triangle t o) = TameTri t
TameShape (Rectangle s) = Unit

-- a triangle that is set up to be drawn
abbrev pub shape_of : Option (Tri × List Vertex) → Option Shape
shape_of None = None
shape_of (Some p) = Some (Triangle p.0 p.1)

abbrev pub triangle_shape : Bool → vertices.Triangle → Option Shape
triangle_shape cull t = shape_of (set_up_of cull t)

abbrev pub three_shape : Bool → Option vertices.Triangle → Option Shape
three_shape cull t = shape_of (set_up_by cull t)

-- ---- what a walk emits: a pixel, a row, a shape, the triangles of a list, a draw

-- what all its pixels share
pub record Walk : Type 0 where
  pub mode : RenderMode
  pub combiner : Combiner
  pub width : ℕ
  pub area : Area

abbrev pub walk_of : View → Shapes → Walk
walk_of v d = record { mode = d.mode; combiner = d.combiner; width = v.width; area = area_of v.scissor v.width v.height }

abbrev pub pixel_emits : Walk → Option Shape → ℕ → ℕ → List Emit
pixel_emits v shape y x = emits (optional_fragment v.mode.antialias v.combiner shape y x) (y * v.width + x)

abbrev pub row_emits : Walk → Option Shape → ℕ → List Emit
row_emits v shape y = from (pixel_emits v shape y) v.area.left v.area.right

abbrev pub shape_emits : Walk → Option Shape → List Emit
shape_emits v shape = from (row_emits v shape) v.area.top v.area.bottom

abbrev pub triangles_emits : Walk → Bool → List Float → List ℕ → List ℕ → List Emit
triangles_emits v cull vs ps is = from (λ (i : ℕ). shape_emits v (three_shape cull (triangle_at vs ps is i))) 0 (length is / 3)

abbrev pub walk_emits : Walk → Bool → List Float → List ℕ → List ℕ → Geometry → List Emit
walk_emits v cull vs ps is geometry.Nothing = []
walk_emits v cull vs ps is (geometry.Rectangle sides) = shape_emits v (Some (Rectangle sides))
walk_emits v cull vs ps is geometry.Triangles = triangles_emits v cull vs ps is
