-- What a shape draws is what the definitions emit. A pixel with its own shade is the definition's; a rectangle's has the definition's samples and its colour; a flat
-- triangle's has its colour and another shade's alpha, which has no part in what is stored. Assumes nothing.
use mathlib.Core.Path.{◌≡◌, refl, sym, ap, ◌∙◌}
use mathlib.Core.Bool.{Bool, true, false, cond}
use mathlib.Core.List.{List, []}
use Rattle.std.specs.Prelude.{Option, None, Some}
use Prim.Native.Nat.{ℕ, ◌+◌, ◌*◌, ◌≤◌, ◌<◌}
use native.Mathlib.Omega.{arith}
use Rattle.num_float.specs.Color.{f1}
use Rattle.state.specs.declared.Rgba.{Rgba}
use Rattle.combiner.specs.Combine.{color_of, full_shade}
use Rattle.combiner_resolved.specs.Resolved.{color_value, mixed_by, Mixed}
use Rattle.raster_range.specs.declared.Range.{Range}
use Rattle.raster_range.specs.Kept.{Kept}
use Rattle.raster_edges.specs.declared.Edges.{Edges}
use Rattle.raster_edges.specs.declared.Tri.{Tri}
use Rattle.raster_edges.specs.Bound.{no_row}
use Rattle.raster_edges.specs.Sample.{mask_of}
use Rattle.raster_edges.specs.Span.{edges_of}
use Rattle.raster_vertex.specs.declared.Vertex.{Vertex}
use Rattle.raster_vertex.specs.declared.Triangle.{Triangle}
use Rattle.raster_vertex.specs.Row.{row_of, shade_on}
use Rattle.raster_vertex.specs.Shade.{shade_of}
use Rattle.raster_vertex.proofs.Rows.{row_shade}
use Rattle.raster_rectangle.specs.declared.Sides.{Sides}
use Rattle.raster_rectangle.specs.Outline.{Outlines}
use Rattle.raster_pixel.specs.declared.Area.{Area}
use Rattle.raster_pixel.specs.declared.Scissor.{Scissor}
use Rattle.raster_pixel.specs.declared.view.View.{View}
use Rattle.raster_pixel.specs.Area.{area_of}
use Rattle.raster_pixel.specs.Emitted.{Emit, shown, covered, emits, inside, triangle_fragment, three_emits, rectangle_fragment, rectangle_emits}
use Rattle.raster_pixel.specs.Parts.{from}
use Rattle.raster_pixel.specs.SetUp.{set_up_by, set_up_emits}
use Rattle.raster_pixel.proofs.Inside.{inside_area}
use Rattle.raster_pixel.proofs.SetUp.{set_up_emits-by}
use Rattle.frame.specs.Frame.{Frame}
use Rattle.frame_paint.specs.declared.paint.Paint.{Paint}
use Rattle.frame_paint.specs.Steps.{step_frame}
use Rattle.frame_paint.proofs.Paints.{any_shade}
use Rattle.frame_paint.specs.declared.Target.{Target}
use Rattle.frame_paint.specs.Pixel.{Drew, DrewOn}
use Rattle.frame_paint.specs.Row.{painted, fragment_of, row_at}
use Rattle.frame_paint.proofs.Drawing.{drew_as}
use Rattle.rasterize.specs.Triangles.{Flat}
use Rattle.rasterize.specs.Shape.{Shading, shading_of, shape_pixel, shape_row, shape_emits}
use Rattle.rasterize.proofs.Same.{Same, same_as, same_parts, drew_same, drew_same_on}
use Rattle.rasterize.proofs.Kept.{rows_kept}

-- ---- a triangle's pixel
module _ (paint : Paint) (v : List Vertex) (e : Edges) (w y x : ℕ) where
  -- by its shade
  smooth_pixel : Mixed paint.combiner → row_at paint (Some (row_of v y)) e w y x ≡ emits (triangle_fragment paint.mode.antialias paint.combiner v e y x) (y * w + x)
  unfolding fragment_of triangle_fragment
  smooth_pixel mixed =
      let s = shade_on (row_of v y) x in
      let color = (λ i. color_value (mixed_by (paint.resolves i) s)) ∙ sym (mixed s) ∙ ap (color_of paint.combiner) (row_shade v x y) in
      λ i. emits (cond (shown paint.mode.antialias (mask_of e x)) (covered (mask_of e x) (color i) (row_shade v x y i).a) None) (y * w + x)

  -- of a flat one
  flat_pixel :
      paint.even ≡ true → ((s : Rgba) → color_of paint.combiner s ≡ color_value paint.color)
      → Same (step_frame paint.mode paint.combiner) (row_at paint None e w y x) (emits (triangle_fragment paint.mode.antialias paint.combiner v e y x) (y * w + x))
  unfolding fragment_of triangle_fragment
  flat_pixel even same = rw same (go (shown paint.mode.antialias (mask_of e x)))
    where
      go :
          (b : Bool)
          → Same (step_frame paint.mode paint.combiner) (emits (cond b (Some (painted paint None (mask_of e x) x)) None) (y * w + x))
          (emits (cond b (covered (mask_of e x) (color_value paint.color) (shade_of v x y).a) None) (y * w + x))
      go true = record { state = λ f. any_shade paint even f (y * w + x) (mask_of e x) f1 (shade_of v x y).a; count = refl }
      go false = same_as refl

-- either way
triangle_pixel :
    (paint : Paint) (v : List Vertex) (t : Tri) (w y x : ℕ) (flat : Bool) → Mixed paint.combiner → Flat paint flat
    → Same (step_frame paint.mode paint.combiner) (shape_pixel paint (shading_of flat v) t w y x)
    (emits (triangle_fragment paint.mode.antialias paint.combiner v (edges_of t y) y x) (y * w + x))
triangle_pixel paint v t w y x true mixed h = flat_pixel paint v (edges_of t y) w y x (h refl).0 (h refl).1
triangle_pixel paint v t w y x false mixed h = same_as (smooth_pixel paint v (edges_of t y) w y x mixed)

-- ---- a rectangle's pixel
rectangle_pixel :
    (paint : Paint) (sides : Sides) (t : Tri) (w y x : ℕ) → Outlines sides t → y < 1024 → x < 1024
    → shape_pixel paint None t w y x ≡ emits (rectangle_fragment paint.mode.antialias (color_of paint.combiner full_shade) sides y x) (y * w + x)
unfolding fragment_of rectangle_fragment
rectangle_pixel paint sides t w y x o hy hx =
    let m = o.same x y hx hy in
    λ i. emits (cond (shown paint.mode.antialias (m i)) (covered (m i) (sym paint.colored i) f1) None) (y * w + x)

-- ---- all its pixels, of every frame: the rows that are left out have no sample
module _ (paint : Paint) (shading : Shading) (t : Tri) (s : Scissor) (w h : ℕ) where
  rows_same :
      {ar : Area} {rows : Range} → ar ≡ area_of s w h → Kept (no_row t) ar.top ar.bottom rows
      → from (shape_row paint shading t w ar.left ar.right) rows.start rows.end ≡ inside s w h (shape_pixel paint shading t w)
  rows_same {ar} ea kept =
      sym (rows_kept paint shading t w ar.left ar.right kept)
      ∙ (λ i. from (shape_row paint shading t w (ea i).left (ea i).right) (ea i).top (ea i).bottom)
      ∙ sym (inside_area s w h (shape_pixel paint shading t w))

  -- and other pixels that do the same
  shape_same :
      w ≤ 1024 → h ≤ 1024 → (pixel : ℕ → ℕ → List Emit)
      → ((y x : ℕ) → y < 1024 → x < 1024 → Same (step_frame paint.mode paint.combiner) (shape_pixel paint shading t w y x) (pixel y x))
      → Same (step_frame paint.mode paint.combiner) (inside s w h (shape_pixel paint shading t w)) (inside s w h pixel)
  shape_same wide high pixel same = same_parts _ _ (λ y p q. same_parts _ _ (λ x j l. same y x (omega arith) (omega arith)))

  module _ {m n : ℕ} {f g : Frame} where
    pub rows_drawn :
        {ar : Area} {rows : Range} → ar ≡ area_of s w h → Kept (no_row t) ar.top ar.bottom rows
        → Drew paint.mode paint.combiner m (from (shape_row paint shading t w ar.left ar.right) rows.start rows.end) f g n
        → Drew paint.mode paint.combiner m (inside s w h (shape_pixel paint shading t w)) f g n
    rows_drawn ea kept = drew_same (same_as (rows_same ea kept))

    pub pixels_drawn :
        w ≤ 1024 → h ≤ 1024 → (pixel : ℕ → ℕ → List Emit)
        → ((y x : ℕ) → y < 1024 → x < 1024 → Same (step_frame paint.mode paint.combiner) (shape_pixel paint shading t w y x) (pixel y x))
        → Drew paint.mode paint.combiner m (inside s w h (shape_pixel paint shading t w)) f g n
        → Drew paint.mode paint.combiner m (inside s w h pixel) f g n
    pixels_drawn wide high pixel same = drew_same (shape_same wide high pixel same)

-- both: from the rows that are not left out to pixels that do the same
module _ (paint : Paint) (shading : Shading) (t : Tri) (s : Scissor) {w h : ℕ} (wide : w ≤ 1024) (high : h ≤ 1024) where
  pub shape_drawn :
      {ar : Area} {rows : Range} {m n : ℕ} {f g : Frame} (pixel : ℕ → ℕ → List Emit)
      → ((y x : ℕ) → y < 1024 → x < 1024 → Same (step_frame paint.mode paint.combiner) (shape_pixel paint shading t w y x) (pixel y x))
      → ar ≡ area_of s w h → Kept (no_row t) ar.top ar.bottom rows
      → Drew paint.mode paint.combiner m (from (shape_row paint shading t w ar.left ar.right) rows.start rows.end) f g n
      → Drew paint.mode paint.combiner m (inside s w h pixel) f g n
  shape_drawn pixel same ea kept d = pixels_drawn paint shading t s w h wide high pixel same (rows_drawn paint shading t s w h ea kept d)

-- of the frame that a draw is carried out on
module _ (paint : Paint) (shading : Shading) (t : Tri) (v : View) {n : ℕ} {before after : Target} where
  pub rows_drawn_on :
      {ar : Area} {rows : Range} → ar ≡ area_of v.scissor v.width v.height → Kept (no_row t) ar.top ar.bottom rows
      → DrewOn paint.mode paint.combiner (from (shape_row paint shading t v.width ar.left ar.right) rows.start rows.end) before after n
      → DrewOn paint.mode paint.combiner (shape_emits paint shading t v) before after n
  rows_drawn_on ea kept = drew_as (rows_same paint shading t v.scissor v.width v.height ea kept)

  pub pixels_drawn_on :
      (pixel : ℕ → ℕ → List Emit)
      → ((y x : ℕ) → y < 1024 → x < 1024 → Same (step_frame paint.mode paint.combiner) (shape_pixel paint shading t v.width y x) (pixel y x))
      → DrewOn paint.mode paint.combiner (shape_emits paint shading t v) before after n
      → DrewOn paint.mode paint.combiner (inside v.scissor v.width v.height pixel) before after n
  pixels_drawn_on pixel same = drew_same_on (shape_same paint shading t v.scissor v.width v.height v.sized.width_small v.sized.height_small pixel same)

-- ---- a triangle of a list
module _ (paint : Paint) (cull : Bool) (v : View) (three : Option Triangle) where
  emitted : {s : Option (Tri × List Vertex)} → s ≡ set_up_by cull three
      → set_up_emits paint.mode paint.combiner v.scissor v.width v.height s ≡ three_emits paint.mode paint.combiner cull v.scissor v.width v.height three
  emitted e = ap (set_up_emits paint.mode paint.combiner v.scissor v.width v.height) e ∙ set_up_emits-by paint.mode paint.combiner cull v.scissor v.width v.height three

  pub triangle_drawn :
      {flat : Bool} {t : Tri} {o : List Vertex} {shading : Shading} {n : ℕ} {before after : Target} → Mixed paint.combiner → Flat paint flat
      → Some (t, o) ≡ set_up_by cull three → shading ≡ shading_of flat o
      → DrewOn paint.mode paint.combiner (shape_emits paint shading t v) before after n
      → DrewOn paint.mode paint.combiner (three_emits paint.mode paint.combiner cull v.scissor v.width v.height three) before after n
  triangle_drawn {flat} {t} {o} mixed h e es d =
      drew_as (emitted e)
      (pixels_drawn_on paint (shading_of flat o) t v _ (λ y x hy hx. triangle_pixel paint o t v.width y x flat mixed h) (drew_as (λ i. shape_emits paint (es i) t v) d))

  pub triangle_skipped : None ≡ set_up_by cull three → three_emits paint.mode paint.combiner cull v.scissor v.width v.height three ≡ []
  triangle_skipped e = sym (emitted e)

-- ---- a rectangle, of every frame and of the frame that a draw is carried out on
module _ (paint : Paint) (sides : Sides) {t : Tri} (o : Outlines sides t) {n : ℕ} where
  pub rectangle_pixels_drawn :
      (s : Scissor) {w h m : ℕ} {f g : Frame} → w ≤ 1024 → h ≤ 1024
      → Drew paint.mode paint.combiner m (inside s w h (shape_pixel paint None t w)) f g n
      → Drew paint.mode paint.combiner m (rectangle_emits paint.mode paint.combiner s w h sides) f g n
  unfolding rectangle_emits
  rectangle_pixels_drawn s {w} {h} wide high = pixels_drawn paint None t s w h wide high _ (λ y x hy hx. same_as (rectangle_pixel paint sides t w y x o hy hx))

  pub rectangle_pixels_drawn_on :
      (v : View) {before after : Target}
      → DrewOn paint.mode paint.combiner (shape_emits paint None t v) before after n
      → DrewOn paint.mode paint.combiner (rectangle_emits paint.mode paint.combiner v.scissor v.width v.height sides) before after n
  unfolding rectangle_emits
  rectangle_pixels_drawn_on v = pixels_drawn_on paint None t v _ (λ y x hy hx. same_as (rectangle_pixel paint sides t v.width y x o hy hx))

-- from the rows that are not left out
module _ (paint : Paint) (s : Scissor) {w h : ℕ} (wide : w ≤ 1024) (high : h ≤ 1024) (sides : Sides) where
  pub rectangle_drawn :
      {t : Tri} {ar : Area} {rows : Range} {m n : ℕ} {f g : Frame} → Outlines sides t → ar ≡ area_of s w h → Kept (no_row t) ar.top ar.bottom rows
      → Drew paint.mode paint.combiner m (from (shape_row paint None t w ar.left ar.right) rows.start rows.end) f g n
      → Drew paint.mode paint.combiner m (rectangle_emits paint.mode paint.combiner s w h sides) f g n
  rectangle_drawn {t} o ea kept d = rectangle_pixels_drawn paint sides o s wide high (rows_drawn paint None t s w h ea kept d)
