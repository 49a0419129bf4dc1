-- A draw emits only pixels of the frame, each with a mask from 1 to 255: it goes over rows below h and columns below w, so y * w + x is below w * h, and a pixel is
-- emitted only if a sample is hit. Assumes nothing.
use Prim.Native.Nat.{ℕ, zero, suc, ◌+◌, ◌-◌, ◌*◌, ◌/◌, ◌≤◌, ◌<◌, min}
use mathlib.Core.Path.{◌≡◌, refl}
use mathlib.Core.Bool.{Bool, true, false, cond, ◌||◌}
use mathlib.Core.List.{List, [], ◌∷◌, ◌++◌, map}
use native.Mathlib.Nat.{mul-le-mul_right, suc-mul, mul_comm}
use native.Mathlib.Omega.{arith}
use lib.Dec.{eqb}
use lib.IntN.{nat_abs}
use lib.Ieee.{Float}
use lib.ListN.{length}
use Rattle.state.specs.declared.RenderMode.{RenderMode}
use Rattle.combiner.specs.declared.Combiner.{Combiner}
use Rattle.state.specs.declared.Rgba.{Rgba}
use Rattle.std.specs.Prelude.{Option, Some, None}
use Rattle.combiner.specs.Combine.{color_of, full_shade}
use Rattle.raster_vertex.specs.Sorted.{sorted}
use Rattle.raster_vertex.specs.Shade.{culled_of, shade_of}
use Rattle.raster_edges.specs.Edge.{area_of}
use Rattle.raster_edges.specs.Sample.{mask_of}
use Rattle.raster_edges.specs.Span.{tri_of, edges_of}
use Rattle.raster_rectangle.specs.Rectangle.{rect_mask}
use Rattle.raster_pixel.specs.declared.Scissor.{Scissor}
use Rattle.raster_pixel.specs.declared.Geometry.{Geometry}
use Rattle.raster_pixel.specs.declared.Geometry.TheVariants.{Nothing, Triangles, Rectangle}
use Rattle.raster_vertex.specs.declared.Triangle.{Triangle}
use Rattle.raster_pixel.specs.Admitted.{triangle_at}
use Rattle.raster_pixel.specs.Parts.{parts, from}
use Rattle.raster_pixel.specs.Emitted.{Emit, shown, covered, emits, inside, corner_of, triangle_fragment, triangle_emits, three_emits, rectangle_fragment, rectangle_emits, geometry_emits}
use Rattle.raster_pixel.proofs.Masks.{mask_lt, rect_lt, shown_some}

-- every pixel of a list is below n and has a mask from 1 to 255
pub data Placed (n : ℕ) : List Emit → Type 0 where
  none : Placed n []
  more : {e : Emit} {es : List Emit} → e.pixel < n → (0 < e.mask) × (e.mask < 256) → Placed n es → Placed n (e ∷ es)

module _ {n : ℕ} where
  placed_append : {ds es : List Emit} → Placed n ds → Placed n es → Placed n (ds ++ es)
  placed_append Placed.none q = q
  placed_append (Placed.more h c p) q = Placed.more h c (placed_append p q)

  placed_parts : (c : ℕ → List Emit) (k a : ℕ) → ((i : ℕ) → a ≤ i → i < a + k → Placed n (c i)) → Placed n (parts c k a)
  unfolding parts
  placed_parts c zero a h = Placed.none
  placed_parts c (suc k) a h =
      placed_append (h a (omega arith) (omega arith)) (placed_parts c k (a + 1) (λ i p q. h i (omega arith) (omega arith)))

  placed_from : (c : ℕ → List Emit) (a b : ℕ) → ((i : ℕ) → i < b → Placed n (c i)) → Placed n (from c a b)
  placed_from c a b h = placed_parts c (b - a) a (λ i p q. h i (omega arith))

  -- a pixel by its samples
  placed_shown :
      (antialias : Bool) (mask : ℕ) (c : Option Rgba) (shade : Float) (p : ℕ) → mask < 256 → p < n
      → Placed n (emits (cond (shown antialias mask) (covered mask c shade) None) p)
  placed_shown antialias mask c shade p l h = go (shown antialias mask) refl c
    where
      go : (b : Bool) → shown antialias mask ≡ b → (c : Option Rgba) → Placed n (emits (cond b (covered mask c shade) None) p)
      go false e c = Placed.none
      go true e None = Placed.none
      go true e (Some c) = Placed.more h (shown_some antialias mask e, l) Placed.none

  -- a list or none
  placed_cond : (b : Bool) (es : List Emit) → Placed n es → Placed n (cond b [] es)
  placed_cond true es p = Placed.none
  placed_cond false es p = p

-- the pixel x of row y
pixel_in : (w h y x : ℕ) → y < h → x < w → y * w + x < w * h
pixel_in w h y x p q = rw (mul_comm w h) (omega (arith, mul-le-mul_right {m = suc y} {n = h} w p, suc-mul y w))

module _ (s : Scissor) (w h : ℕ) where
  placed_inside : (pixel : ℕ → ℕ → List Emit) → ((y x : ℕ) → y * w + x < w * h → Placed (w * h) (pixel y x)) → Placed (w * h) (inside s w h pixel)
  placed_inside pixel c =
      placed_from _ s.top (min h (s.top + s.height)) (λ y p.
      placed_from (pixel y) s.left (min w (s.left + s.width)) (λ x q.
      c y x (pixel_in w h y x (omega arith) (omega arith))))

  module _ (m : RenderMode) (k : Combiner) (cull : Bool) where
    placed_three : (t : Option Triangle) → Placed (w * h) (three_emits m k cull s w h t)
    unfolding triangle_emits triangle_fragment
    placed_three None = Placed.none
    placed_three (Some t) =
        let o = sorted (t.a ∷ t.b ∷ t.c ∷ []) in
        let corners = map corner_of o in
        placed_cond (culled_of cull t.a t.b t.c || eqb (nat_abs (area_of corners)) 0) _
        (placed_inside _ (λ (y x : ℕ) l.
        let e = edges_of (tri_of corners) y in
        placed_shown m.antialias (mask_of e x) (color_of k (shade_of o x y)) (shade_of o x y).a (y * w + x) (mask_lt e x) l))

    -- The pixels that a draw emits are pixels of the frame, with a mask from 1 to 255 each.
    pub geometry_placed : (vs : List Float) (ps is : List ℕ) (g : Geometry) → Placed (w * h) (geometry_emits m k cull s w h vs ps is g)
    unfolding rectangle_emits rectangle_fragment
    geometry_placed vs ps is Nothing = Placed.none
    geometry_placed vs ps is (Rectangle sides) =
        placed_inside _ (λ (y x : ℕ) p. placed_shown m.antialias (rect_mask sides x y) (color_of k full_shade) full_shade.a (y * w + x) (rect_lt sides x y) p)
    geometry_placed vs ps is Triangles =
        placed_from (λ (i : ℕ). three_emits m k cull s w h (triangle_at vs ps is i)) 0 (length is / 3) (λ i p. placed_three (triangle_at vs ps is i))
