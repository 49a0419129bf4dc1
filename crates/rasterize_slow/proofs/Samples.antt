-- The eight samples, tested one by one, are those of raster_edges/specs/Sample for a triangle and of raster_rectangle/specs/Rectangle for a rectangle. Assumes nothing.
use Prim.Native.Nat.{ℕ, ◌+◌, ◌*◌, ◌<◌}
use mathlib.Core.Path.{◌≡◌, refl}
use mathlib.Core.Bool.{Bool, true, false, cond}
use mathlib.Core.List.{List}
use native.Mathlib.Nat.{add-zero}
use native.Mathlib.Omega.{arith}
use Rattle.combiner.specs.declared.Combiner.{Combiner}
use Rattle.std.specs.Prelude.{Option, Some, None, IfSome}
use Rattle.state.specs.declared.Rgba.{Rgba}
use Rattle.combiner.specs.Combine.{color_of}
use Rattle.raster_vertex.specs.declared.Vertex.{Vertex}
use Rattle.raster_edges.specs.declared.Tri.{Tri}
use Rattle.raster_edges.specs.Sample.{bit_of, inside, sample_at, two_of, pair_of, mask_of}
use Rattle.raster_edges.specs.Span.{line_of, edges_of}
use Rattle.raster_edges.proofs.Pairs.{bit_lt}
use Rattle.raster_rectangle.specs.declared.Sides.{Sides}
use Rattle.raster_rectangle.specs.Rectangle.{inside_of, sample_x, sample_y, sample_bit, row_bits, rect_mask}
use Rattle.raster_pixel.specs.declared.Fragment.{Fragment}
use Rattle.raster_pixel.specs.Emitted.{shown, covered}
use Rattle.raster_pixel.proofs.Masks.{shown_some}
use Rattle.rasterize_slow.specs.declared.Shape.{Shape}
use Rattle.rasterize_slow.specs.declared.Shape.TheVariants.{Triangle, Rectangle}
use Rattle.rasterize_slow.specs.Shape.{sample_hit, pair_hit, shape_mask, shape_shade, shape_fragment, optional_fragment}

pub pair_lt : (shape : Option Shape) (y x line : ℕ) → pair_hit shape y x line < 4
unfolding pair_hit
pair_lt shape y x line = omega (arith, bit_lt (sample_hit shape y x line 0), bit_lt (sample_hit shape y x line 1))

pub mask_lt : (shape : Option Shape) (y x : ℕ) → shape_mask shape y x < 256
unfolding shape_mask
mask_lt shape y x = omega (arith, pair_lt shape y x 0, pair_lt shape y x 1, pair_lt shape y x 2, pair_lt shape y x 3)

-- a triangle
triangle_pair :
    (t : Tri) (o : List Vertex) (y x line : ℕ)
    → pair_hit (Some (Triangle t o)) y x line ≡ two_of (line_of t (y * 4 + line)).l (line_of t (y * 4 + line)).r (sample_at x line)
unfolding pair_hit sample_hit two_of
triangle_pair t o y x line =
    λ i.
    2 * bit_of (inside (line_of t (y * 4 + line)).l (line_of t (y * 4 + line)).r (add-zero (sample_at x line) i))
    + bit_of (inside (line_of t (y * 4 + line)).l (line_of t (y * 4 + line)).r (sample_at x line + 4))

pub triangle_mask : (t : Tri) (o : List Vertex) (y x : ℕ) → shape_mask (Some (Triangle t o)) y x ≡ mask_of (edges_of t y) x
unfolding shape_mask mask_of pair_of edges_of
triangle_mask t o y x =
    λ i. 64 * triangle_pair t o y x 0 i + 16 * triangle_pair t o y x 1 i + 4 * triangle_pair t o y x 2 i + triangle_pair t o y x 3 i

-- a rectangle
scaled : (t : Bool) (n : ℕ) → n * bit_of t ≡ cond t n 0
scaled true n = omega arith
scaled false n = omega arith

pub rectangle_mask : (s : Sides) (y x : ℕ) → shape_mask (Some (Rectangle s)) y x ≡ rect_mask s x y
unfolding shape_mask pair_hit sample_hit rect_mask row_bits sample_bit
rectangle_mask s y x =
    omega (
      arith,
      one 0 0 128,
      one 0 1 64,
      one 1 0 32,
      one 1 1 16,
      one 2 0 8,
      one 2 1 4,
      one 3 0 2,
      one 3 1 1,
    )
  where
    one : (line side n : ℕ) → n * bit_of (inside_of s (sample_x x line side) (sample_y y line)) ≡ cond (inside_of s (sample_x x line side) (sample_y y line)) n 0
    one line side n = scaled (inside_of s (sample_x x line side) (sample_y y line)) n

-- ---- what a pixel emits has a sample, and its mask is a byte
abbrev pub HasSample : Fragment → Type 0
HasSample f = (0 < f.mask) × (f.mask < 256)

pub fragment_some : (antialias : Bool) (k : Combiner) (shape : Shape) (y x : ℕ) → IfSome (shape_fragment antialias k shape y x) HasSample
unfolding shape_fragment
fragment_some antialias k shape y x = go (shown antialias (shape_mask (Some shape) y x)) refl (color_of k (shape_shade shape y x))
  where
    go : (b : Bool) → shown antialias (shape_mask (Some shape) y x) ≡ b → (c : Option Rgba) → IfSome (cond b (covered (shape_mask (Some shape) y x) c (shape_shade shape y x).a) None) HasSample
    go false e c = tt
    go true e None = tt
    go true e (Some c) = (shown_some antialias (shape_mask (Some shape) y x) e, mask_lt (Some shape) y x)

-- a shape that is not there emits nothing
pub optional_some : (antialias : Bool) (k : Combiner) (shape : Option Shape) (y x : ℕ) → IfSome (optional_fragment antialias k shape y x) HasSample
optional_some antialias k None y x = tt
optional_some antialias k (Some shape) y x = fragment_some antialias k shape y x
