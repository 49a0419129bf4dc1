-- How many pixels a draw can emit: a pixel emits at most one, a frame has at most 1,024 rows of 1,024, and a triangle or a rectangle goes over the frame
-- once. Assumes nothing.
use mathlib.Core.Bool.{Bool, true, false, cond, ◌||◌}
use mathlib.Core.List.{List, [], ◌∷◌, map}
use Prim.Native.Nat.{ℕ, ◌+◌, ◌-◌, ◌*◌, ◌/◌, ◌≤◌}
use native.Mathlib.Omega.{arith}
use lib.Dec.{eqb}
use lib.IntN.{nat_abs}
use lib.Ieee.{Float}
use lib.ListN.{length}
use Rattle.state.specs.declared.RenderMode.{RenderMode}
use Rattle.combiner.specs.declared.Combiner.{Combiner}
use Rattle.combiner.specs.Combine.{color_of, full_shade}
use Rattle.raster_vertex.specs.declared.Vertex.{Vertex}
use Rattle.raster_vertex.specs.Sorted.{sorted}
use Rattle.raster_vertex.specs.Shade.{culled_of}
use Rattle.raster_edges.specs.Edge.{area_of}
use Rattle.raster_edges.specs.Span.{tri_of, edges_of}
use Rattle.raster_pixel.specs.declared.Scissor.{Scissor}
use Rattle.raster_pixel.specs.declared.Fragment.{Fragment}
use Rattle.std.specs.Prelude.{Option, Some, None}
use Rattle.raster_pixel.specs.declared.Geometry.{Geometry}
use Rattle.raster_pixel.specs.declared.Geometry.TheVariants.{Nothing, Triangles, Rectangle}
use Rattle.raster_vertex.specs.declared.Triangle.{Triangle}
use Rattle.raster_pixel.specs.Parts.{from}
use Rattle.raster_pixel.specs.Area.{right_of, bottom_of}
use Rattle.raster_pixel.specs.Emitted.{emits, inside, corner_of, triangle_fragment, triangle_emits, three_emits, rectangle_fragment, rectangle_emits, geometry_emits}
use Rattle.raster_pixel.specs.Admitted.{triangle_at}
use Rattle.raster_pixel.proofs.Parts.{parts_bound}

pub emits_most : (f : Option Fragment) (p : ℕ) → length (emits f p) ≤ 1
emits_most None p = omega arith
emits_most (Some f) p = omega arith

some_or_none : {A : Type 0} (t : Bool) (l : List A) (n : ℕ) → length l ≤ n → length (cond t [] l) ≤ n
some_or_none true l n h = omega arith
some_or_none false l n h = h

module _ (s : Scissor) {w h : ℕ} (wide : w ≤ 1024) (high : h ≤ 1024) where
  inside_most : {A : Type 0} (pixel : ℕ → ℕ → List A) → ((y x : ℕ) → length (pixel y x) ≤ 1) → length (inside s w h pixel) ≤ 1048576
  inside_most pixel one = omega (arith, parts_bound (λ (y : ℕ). from (pixel y) s.left (right_of s w)) 1024 row (bottom_of s h - s.top) s.top)
    where
      row : (y : ℕ) → length (from (pixel y) s.left (right_of s w)) ≤ 1024
      row y = omega (arith, parts_bound (pixel y) 1 (one y) (right_of s w - s.left) s.left)

  pub triangle_most : (m : RenderMode) (k : Combiner) (cull : Bool) (a b c : Vertex) → length (triangle_emits m k cull s w h a b c) ≤ 1048576
  unfolding triangle_emits
  triangle_most m k cull a b c =
      let o = sorted (a ∷ b ∷ c ∷ []) in
      let corners = map corner_of o in
      let pixel : ℕ → ℕ → Option Fragment = λ (y x : ℕ). triangle_fragment m.antialias k o (edges_of (tri_of corners) y) y x in
      some_or_none (culled_of cull a b c || eqb (nat_abs (area_of corners)) 0) (inside s w h (λ (y x : ℕ). emits (pixel y x) (y * w + x))) 1048576
      (inside_most (λ (y x : ℕ). emits (pixel y x) (y * w + x)) (λ y x. emits_most (pixel y x) (y * w + x)))

  three_most : (m : RenderMode) (k : Combiner) (cull : Bool) (t : Option Triangle) → length (three_emits m k cull s w h t) ≤ 1048576
  three_most m k cull None = omega arith
  three_most m k cull (Some t) = triangle_most m k cull t.a t.b t.c

  -- n triangles of a list
  pub triangles_most : (m : RenderMode) (k : Combiner) (cull : Bool) (t : ℕ → Option Triangle) (n : ℕ) → length (from (λ (i : ℕ). three_emits m k cull s w h (t i)) 0 n) ≤ n * 1048576
  triangles_most m k cull t n =
      omega (arith, parts_bound (λ (i : ℕ). three_emits m k cull s w h (t i)) 1048576 (λ i. three_most m k cull (t i)) (n - 0) 0)

  -- a draw
  pub geometry_most :
      (m : RenderMode) (k : Combiner) (cull : Bool) (vs : List Float) (ps is : List ℕ) (g : Geometry)
      → length (geometry_emits m k cull s w h vs ps is g) ≤ (length is / 3 + 1) * 1048576
  unfolding rectangle_emits
  geometry_most m k cull vs ps is Nothing = omega arith
  geometry_most m k cull vs ps is (Rectangle sides) =
      let pixel : ℕ → ℕ → Option Fragment = λ (y x : ℕ). rectangle_fragment m.antialias (color_of k full_shade) sides y x in
      omega (arith, inside_most (λ (y x : ℕ). emits (pixel y x) (y * w + x)) (λ y x. emits_most (pixel y x) (y * w + x)))
  geometry_most m k cull vs ps is Triangles = omega (arith, triangles_most m k cull (triangle_at vs ps is) (length is / 3))
