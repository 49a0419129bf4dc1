-- What a shape lists is what the definitions emit: the rows that are left out have no sample, a triangle is nothing where it is culled or has no area, and between a
-- rectangle's edges lie its samples. Assumes nothing.
use Prim.Native.Nat.{ℕ, ◌+◌, ◌*◌, ◌≤◌, min}
use mathlib.Core.Path.{◌≡◌, refl, sym, ◌∙◌}
use Rattle.std.specs.Prelude.{Option, Some, None}
use mathlib.Core.Bool.{Bool, true, false, cond, ◌||◌}
use mathlib.Core.List.{List, [], ◌∷◌, map}
use native.Mathlib.Omega.{arith}
use lib.Dec.{eqb}
use lib.IntN.{nat_abs}
use Rattle.raster_range.specs.declared.Range.{Range}
use Rattle.raster_range.specs.Kept.{Kept}
use Rattle.raster_vertex.specs.declared.Vertex.{Vertex}
use Rattle.raster_vertex.specs.declared.Triangle.{Triangle}
use Rattle.raster_vertex.specs.Sorted.{sorted}
use Rattle.raster_vertex.specs.Shade.{culled_of}
use Rattle.raster_edges.specs.declared.Tri.{Tri}
use Rattle.raster_edges.specs.Bound.{no_row}
use Rattle.raster_edges.specs.Edge.{area_of}
use Rattle.raster_edges.specs.Span.{tri_of, edges_of}
use Rattle.raster_rectangle.specs.declared.Sides.{Sides}
use Rattle.raster_rectangle.specs.Outline.{Outlines}
use Rattle.raster_rectangle.specs.Rectangle.{rect_mask}
use Rattle.raster_pixel.specs.declared.Area.{Area}
use Rattle.raster_pixel.specs.declared.Scissor.{Scissor}
use Rattle.raster_pixel.specs.Area as area
use Rattle.raster_pixel.specs.Emitted.{corner_of}
use Rattle.raster_pixel.specs.Parts.{from}
use Rattle.raster_pixel.specs.SetUp.{set_up_of, set_up_by}
use Rattle.raster_pixel.proofs.Inside.{inside_area}
use Rattle.raster_pixel.proofs.Parts.{from_same}
use Rattle.raster_emitted.specs.Shapes.{pixel_masks, row_masks, line_masks, shape_masks, triangle_masks, three_masks, rectangle_masks, set_up_masks}
use Rattle.raster_emitted.proofs.Lines.{rows_kept}

-- ---- the rows of a shape
pub shape_rows :
    (antialias : Bool) (t : Tri) (s : Scissor) (w h : ℕ) {ar : Area} {rows : Range} → ar ≡ area.area_of s w h → Kept (no_row t) ar.top ar.bottom rows
    → from (line_masks antialias t w ar.left ar.right) rows.start rows.end ≡ shape_masks antialias t s w h
shape_rows antialias t s w h {ar} ea kept =
    rows_kept antialias t w ar.left ar.right kept
    ∙ (λ i. from (line_masks antialias t w (ea i).left (ea i).right) (ea i).top (ea i).bottom)
    ∙ sym (inside_area s w h (λ (y : ℕ). row_masks antialias (edges_of t y) w y))

-- ---- a triangle that is set up
pub set_up_masks-by : (antialias cull : Bool) (s : Scissor) (w h : ℕ) (t : Option Triangle)
    → set_up_masks antialias s w h (set_up_by cull t) ≡ three_masks antialias cull s w h t
unfolding set_up_of triangle_masks
set_up_masks-by antialias cull s w h None = refl
set_up_masks-by antialias cull s w h (Some t) =
    let corners = map corner_of (sorted (t.a ∷ t.b ∷ t.c ∷ [])) in
    go (culled_of cull t.a t.b t.c || eqb (nat_abs (area_of corners)) 0)
  where
    go : (b : Bool)
        → (let o = sorted (t.a ∷ t.b ∷ t.c ∷ []) in
        let p : Tri × List Vertex = (tri_of (map corner_of o), o) in
        set_up_masks antialias s w h (cond b None (Some p)) ≡ cond b [] (set_up_masks antialias s w h (Some p)))
    go true = refl
    go false = refl

-- ---- a rectangle
pub rectangle_shape :
    (antialias : Bool) (s : Scissor) (w h : ℕ) (sides : Sides) {t : Tri} → w ≤ 1024 → h ≤ 1024 → Outlines sides t
    → shape_masks antialias t s w h ≡ rectangle_masks antialias s w h sides
unfolding rectangle_masks
rectangle_shape antialias s w h sides {t} wide high o =
    from_same (λ (y : ℕ). from (row_masks antialias (edges_of t y) w y) s.left (min w (s.left + s.width)))
    (λ (y : ℕ). from (λ (x : ℕ). pixel_masks antialias (rect_mask sides x y) (y * w + x)) s.left (min w (s.left + s.width))) s.top (min h (s.top + s.height)) (λ y p q.
    from_same (row_masks antialias (edges_of t y) w y) (λ (x : ℕ). pixel_masks antialias (rect_mask sides x y) (y * w + x)) s.left (min w (s.left + s.width)) (λ x k l i.
    pixel_masks antialias (o.same x y (omega arith) (omega arith) i) (y * w + x)))
