-- What the slow engine emits is the emitted list of raster_pixel/specs/Emitted, pixel by pixel. Assumes nothing.
use Prim.Native.Nat.{ℕ, ◌+◌, ◌*◌, ◌/◌}
use mathlib.Core.Path.{◌≡◌, refl, sym, ◌∙◌}
use mathlib.Core.Bool.{Bool, true, false, cond, ◌||◌}
use mathlib.Core.List.{List, [], ◌∷◌, map}
use Rattle.std.specs.Prelude.{Option, None, Some}
use lib.Dec.{eqb}
use lib.IntN.{nat_abs}
use lib.Ieee.{Float}
use lib.ListN.{length}
use Rattle.state.specs.declared.RenderMode.{RenderMode}
use Rattle.combiner.specs.declared.Combiner.{Combiner}
use Rattle.combiner.specs.Combine.{color_of, full_shade}
use Rattle.raster_vertex.specs.declared.Vertex.{Vertex}
use Rattle.raster_vertex.specs.Sorted.{sorted}
use Rattle.raster_vertex.specs.Shade.{culled_of, shade_of}
use Rattle.raster_edges.specs.declared.Tri.{Tri}
use Rattle.raster_edges.specs.Edge.{area_of}
use Rattle.raster_edges.specs.Span.{tri_of, edges_of}
use Rattle.raster_rectangle.specs.declared.Sides.{Sides}
use Rattle.raster_pixel.specs.declared.Geometry.{Geometry}
use Rattle.raster_pixel.specs.declared.Geometry.TheVariants as geometry
use Rattle.raster_pixel.specs.declared.Scissor.{Scissor}
use Rattle.raster_vertex.specs.declared.Triangle as vertices
use Rattle.raster_pixel.specs.Admitted.{triangle_at}
use Rattle.raster_pixel.specs.Area as area
use Rattle.raster_pixel.specs.Emitted.{Emit, shown, covered, emits, inside, corner_of, triangle_fragment, three_emits, rectangle_fragment, rectangle_emits, geometry_emits}
use Rattle.raster_pixel.specs.Parts.{from}
use Rattle.raster_pixel.specs.SetUp.{set_up_of, set_up_by, set_up_emits}
use Rattle.raster_pixel.proofs.Inside.{inside_area}
use Rattle.raster_pixel.proofs.Parts.{from_empty}
use Rattle.raster_pixel.proofs.SetUp.{set_up_emits-by}
use Rattle.rasterize_slow.specs.declared.Shape.{Shape}
use Rattle.rasterize_slow.specs.declared.Shape.TheVariants.{Triangle, Rectangle}
use Rattle.rasterize_slow.specs.Shape.{shape_fragment, optional_fragment, shape_of, triangle_shape, three_shape, Walk, pixel_emits, row_emits, shape_emits, walk_emits}
use Rattle.rasterize_slow.proofs.Samples.{triangle_mask, rectangle_mask}

-- ---- a pixel
module _ (antialias : Bool) (k : Combiner) (y x : ℕ) where
  triangle-fragment : (t : Tri) (o : List Vertex) → shape_fragment antialias k (Triangle t o) y x ≡ triangle_fragment antialias k o (edges_of t y) y x
  unfolding shape_fragment triangle_fragment
  triangle-fragment t o =
      λ i.
      let mask = triangle_mask t o y x i in
      cond (shown antialias mask) (covered mask (color_of k (shade_of o x y)) (shade_of o x y).a) None

  -- of a triangle, which may be skipped
  pub skipped_fragment :
      (cull : Bool) (t : vertices.Triangle)
      → (let o = sorted (t.a ∷ t.b ∷ t.c ∷ []) in let corners = map corner_of o in
      optional_fragment antialias k (triangle_shape cull t) y x
      ≡ cond (culled_of cull t.a t.b t.c || eqb (nat_abs (area_of corners)) 0) None (triangle_fragment antialias k o (edges_of (tri_of corners) y) y x))
  unfolding set_up_of
  skipped_fragment cull t =
      let o = sorted (t.a ∷ t.b ∷ t.c ∷ []) in
      go (culled_of cull t.a t.b t.c || eqb (nat_abs (area_of (map corner_of o))) 0) (tri_of (map corner_of o)) o
    where
      go :
          (skipped : Bool) (e : Tri) (o : List Vertex)
          → optional_fragment antialias k (shape_of (cond skipped None (Some (e, o)))) y x
          ≡ cond skipped None (triangle_fragment antialias k o (edges_of e y) y x)
      go true e o = refl
      go false e o = triangle-fragment e o

  pub rectangle-fragment : (s : Sides) → shape_fragment antialias k (Rectangle s) y x ≡ rectangle_fragment antialias (color_of k full_shade) s y x
  unfolding shape_fragment rectangle_fragment
  rectangle-fragment s =
      λ i. cond (shown antialias (rectangle_mask s y x i)) (covered (rectangle_mask s y x i) (color_of k full_shade) full_shade.a) None

-- ---- a walk over the area of a scissor
module _ (v : Walk) (s : Scissor) (h : ℕ) (ea : v.area ≡ area.area_of s v.width h) where
  abbrev mode : RenderMode
  mode = v.mode

  abbrev k : Combiner
  k = v.combiner

  abbrev w : ℕ
  w = v.width

  -- where there is no shape, no pixel emits anything
  none : shape_emits v None ≡ []
  none = from_empty (row_emits v None) v.area.top v.area.bottom (λ y p q. from_empty (pixel_emits v None y) v.area.left v.area.right (λ x p q. refl))

  -- every pixel inside the scissor
  by_pixel :
      (shape : Shape) (pixel : ℕ → ℕ → List Emit) → ((y x : ℕ) → pixel_emits v (Some shape) y x ≡ pixel y x) → shape_emits v (Some shape) ≡ inside s w h pixel
  by_pixel shape pixel e =
      (λ i. from (λ (y : ℕ). from (λ (x : ℕ). e y x i) (ea i).left (ea i).right) (ea i).top (ea i).bottom) ∙ sym (inside_area s w h pixel)

  set-up-emits : (p : Option (Tri × List Vertex)) → shape_emits v (shape_of p) ≡ set_up_emits mode k s w h p
  set-up-emits None = none
  set-up-emits (Some p) = by_pixel _ _ (λ y x i. emits (triangle-fragment mode.antialias k y x p.0 p.1 i) (y * w + x))

  three-emits : (cull : Bool) (t : Option vertices.Triangle) → shape_emits v (three_shape cull t) ≡ three_emits mode k cull s w h t
  three-emits cull t = set-up-emits (set_up_by cull t) ∙ set_up_emits-by mode k cull s w h t

  -- A draw: the slow engine's list is the one emitted list.
  pub walk-emits :
      (cull : Bool) (vs : List Float) (ps is : List ℕ) (g : Geometry) → walk_emits v cull vs ps is g ≡ geometry_emits mode k cull s w h vs ps is g
  unfolding rectangle_emits
  walk-emits cull vs ps is geometry.Nothing = refl
  walk-emits cull vs ps is (geometry.Rectangle sides) = by_pixel _ _ (λ y x i. emits (rectangle-fragment mode.antialias k y x sides i) (y * w + x))
  walk-emits cull vs ps is geometry.Triangles = λ i. from (λ (j : ℕ). three-emits cull (triangle_at vs ps is j) i) 0 (length is / 3)
