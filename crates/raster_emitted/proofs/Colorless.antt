-- The pixels of the emitted list without their colours are those that are listed here: a pixel's colour says nothing of its mask, where the combiner has a colour for every
-- shade. Assumes nothing.
use Prim.Native.Nat.{ℕ, zero, suc, ◌+◌, ◌-◌, ◌*◌, ◌/◌, min}
use mathlib.Core.Path.{◌≡◌, refl, ◌∙◌}
use mathlib.Core.Bool.{Bool, true, false, cond, ◌||◌}
use mathlib.Core.List.{List, [], ◌∷◌, ◌++◌, map, map-append}
use lib.Dec.{eqb}
use lib.IntN.{nat_abs}
use lib.Ieee.{Float}
use lib.ListN.{length}
use Rattle.state.specs.declared.RenderMode.{RenderMode}
use Rattle.state.specs.declared.Rgba.{Rgba}
use Rattle.combiner.specs.declared.Combiner.{Combiner}
use Rattle.std.specs.Prelude.{Option, Some, None}
use Rattle.combiner.specs.Combine.{color_of, full_shade}
use Rattle.raster_vertex.specs.Sorted.{sorted}
use Rattle.raster_vertex.specs.Shade.{culled_of, shade_of}
use Rattle.raster_edges.specs.Edge.{area_of}
use Rattle.raster_edges.specs.Sample.{mask_of}
use Rattle.raster_edges.specs.Span.{tri_of, edges_of}
use Rattle.raster_rectangle.specs.Rectangle.{rect_mask}
use Rattle.raster_pixel.specs.declared.Geometry.{Geometry}
use Rattle.raster_pixel.specs.declared.Geometry.TheVariants.{Nothing, Triangles, Rectangle}
use Rattle.raster_pixel.specs.declared.Scissor.{Scissor}
use Rattle.raster_vertex.specs.declared.Triangle.{Triangle}
use Rattle.raster_pixel.specs.Admitted.{triangle_at}
use Rattle.raster_pixel.specs.Emitted.{Emit, shown, covered, emits, inside, corner_of, triangle_fragment, triangle_emits, three_emits, rectangle_fragment, rectangle_emits, geometry_emits}
use Rattle.raster_pixel.specs.Parts.{parts, from}
use Rattle.raster_emitted.specs.Masked.{Masked, masked_of}
use Rattle.raster_emitted.specs.Shapes.{pixel_masks, triangle_masks, three_masks, rectangle_masks, geometry_masks}

-- ---- parts
map_from : {A B : Type 0} (f : A → B) (c : ℕ → List A) (d : ℕ → List B) → ((i : ℕ) → map f (c i) ≡ d i) → (a b : ℕ) → map f (from c a b) ≡ from d a b
unfolding parts
map_from f c d h a b = go (b - a) a
  where
    go : (n i : ℕ) → map f (parts c n i) ≡ parts d n i
    go zero i = refl
    go (suc n) i = map-append f (c i) (parts c n (i + 1)) ∙ (λ j. h i j ++ go n (i + 1) j)

map_inside :
    {A B : Type 0} (f : A → B) (s : Scissor) (w h : ℕ) (c : ℕ → ℕ → List A) (d : ℕ → ℕ → List B)
    → ((y x : ℕ) → map f (c y x) ≡ d y x) → map f (inside s w h c) ≡ inside s w h d
map_inside f s w h c d e =
    map_from f _ _ (λ y. map_from f (c y) (d y) (e y) s.left (min w (s.left + s.width))) s.top (min h (s.top + s.height))

-- ---- a combiner that has a colour for every shade
module _ (k : Combiner) (value : Rgba → Rgba) (has : (s : Rgba) → color_of k s ≡ Some (value s)) where
  pixel_mask :
      (antialias : Bool) (mask p : ℕ) (s : Rgba) (shade : Float)
      → map masked_of (emits (cond (shown antialias mask) (covered mask (color_of k s) shade) None) p) ≡ pixel_masks antialias mask p
  unfolding pixel_masks
  pixel_mask antialias mask p s shade =
      (λ i. map masked_of (emits (cond (shown antialias mask) (covered mask (has s i) shade) None) p)) ∙ go (shown antialias mask)
    where
      go :
          (b : Bool)
          → map masked_of (emits (cond b (covered mask (Some (value s)) shade) None) p)
          ≡ cond b (record { pixel = p; mask = mask } ∷ []) []
      go true = refl
      go false = refl

  module _ (m : RenderMode) (cull : Bool) (s : Scissor) (w h : ℕ) where
    three-masks : (t : Option Triangle) → map masked_of (three_emits m k cull s w h t) ≡ three_masks m.antialias cull s w h t
    unfolding triangle_emits triangle_masks triangle_fragment
    three-masks None = refl
    three-masks (Some t) =
        let o = sorted (t.a ∷ t.b ∷ t.c ∷ []) in
        let corners = map corner_of o in
        go (culled_of cull t.a t.b t.c || eqb (nat_abs (area_of corners)) 0) _ _
        (map_inside masked_of s w h _ _ (λ y x.
        pixel_mask m.antialias (mask_of (edges_of (tri_of corners) y) x) (y * w + x) (shade_of o x y) (shade_of o x y).a))
      where
        go : (b : Bool) (es : List Emit) (ms : List Masked) → map masked_of es ≡ ms → map masked_of (cond b [] es) ≡ cond b [] ms
        go true es ms e = refl
        go false es ms e = e

    -- The emitted list of a draw without its colours.
    pub geometry-masks :
        (vs : List Float) (ps is : List ℕ) (g : Geometry)
        → map masked_of (geometry_emits m k cull s w h vs ps is g) ≡ geometry_masks m.antialias cull s w h vs ps is g
    unfolding rectangle_emits rectangle_masks rectangle_fragment
    geometry-masks vs ps is Nothing = refl
    geometry-masks vs ps is (Rectangle sides) =
        map_inside masked_of s w h _ _ (λ y x. pixel_mask m.antialias (rect_mask sides x y) (y * w + x) full_shade full_shade.a)
    geometry-masks vs ps is Triangles = map_from masked_of _ _ (λ i. three-masks (triangle_at vs ps is i)) 0 (length is / 3)
