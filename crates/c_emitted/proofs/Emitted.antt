-- Visiting every pixel of the frame inside the scissor gives a triangle's emitted list: where the triangle is skipped every pixel is empty, and so is a list of
-- them, and else a pixel is the list's. Assumes nothing.
use mathlib.Core.Path.{◌≡◌, refl, sym, ◌∙◌}
use mathlib.Core.Bool.{Bool, true, false, cond, not, ◌||◌}
use mathlib.Core.List.{[], ◌∷◌, map}
use Prim.Native.Nat.{ℕ, ◌+◌, ◌*◌}
use lib.Dec.{eqb}
use lib.IntN.{nat_abs}
use Rattle.state.specs.declared.RenderMode.{RenderMode}
use Rattle.combiner.specs.declared.Combiner.{Combiner}
use Rattle.std.specs.Prelude.{Option, None}
use Rattle.raster_vertex.specs.declared.Triangle.{Triangle}
use Rattle.raster_vertex.specs.declared.Vertex.{Vertex}
use Rattle.raster_vertex.specs.Range.{in_range}
use Rattle.raster_vertex.specs.Sorted.{sorted}
use Rattle.raster_vertex.specs.Shade.{culled_of}
use Rattle.raster_edges.specs.Edge.{area_of}
use Rattle.raster_edges.specs.Span.{tri_of, edges_of}
use Rattle.raster_pixel.specs.declared.Scissor.{Scissor}
use Rattle.raster_pixel.specs.declared.Fragment.{Fragment}
use Rattle.raster_admitted.specs.Check.{any}
use Rattle.raster_pixel.specs.Emitted.{Emit, emits, inside, corner_of, triangle_fragment, triangle_emits}
use Rattle.raster_pixel.proofs.Parts.{from_empty}
use Rattle.c_emitted.specs.Emitted.{emitted_triangle}

-- nothing on every pixel is nothing
inside_empty : (s : Scissor) (w h : ℕ) → inside {A = Emit} s w h (λ (y x : ℕ). []) ≡ []
inside_empty s w h = from_empty _ _ _ (λ y p q. from_empty _ _ _ (λ x p q. refl))

-- a test for all pixels may be asked at each
inside_cond : (s : Scissor) (w h : ℕ) (t : Bool) (pixel : ℕ → ℕ → Option Fragment)
    → cond t [] (inside s w h (λ (y x : ℕ). emits (pixel y x) (y * w + x))) ≡ inside s w h (λ (y x : ℕ). emits (cond t None (pixel y x)) (y * w + x))
inside_cond s w h true pixel = sym (inside_empty s w h)
inside_cond s w h false pixel = refl

-- A triangle whose vertices are in range emits what its pixels do, row by row and from left to right.
pub triangle-emits : (m : RenderMode) (k : Combiner) (cull : Bool) (s : Scissor) (w h : ℕ) (t : Triangle)
    → any (λ (v : Vertex). not (in_range v)) t.a t.b t.c ≡ false
    → triangle_emits m k cull s w h t.a t.b t.c ≡ inside s w h (λ (y x : ℕ). emits (emitted_triangle m.antialias k cull t y x) (y * w + x))
unfolding triangle_emits emitted_triangle
triangle-emits m k cull s w h t e =
    let o = sorted (t.a ∷ t.b ∷ t.c ∷ []) in
    let corners = map corner_of o in
    let skipped = culled_of cull t.a t.b t.c || eqb (nat_abs (area_of corners)) 0 in
    let pixel : ℕ → ℕ → Option Fragment = λ y x. triangle_fragment m.antialias k o (edges_of (tri_of corners) y) y x in
    inside_cond s w h skipped pixel
    ∙ (λ i. inside s w h (λ (y x : ℕ). emits (cond (sym e i) None (cond skipped None (pixel y x))) (y * w + x)))
