-- The rows of a shape: a pixel with no sample emits nothing, so that nothing is lost by the rows and the parts of a row that are left out; and how many pixels they
-- emit. Assumes nothing.
use mathlib.Core.Path.{◌≡◌, refl, sym, subst, ◌∙◌}
use mathlib.Core.Bool.{cond}
use mathlib.Core.List.{List, []}
use Prim.Native.Nat.{ℕ, ◌+◌, ◌-◌, ◌*◌, ◌≤◌, ◌<◌}
use native.Mathlib.Nat.{add-zero}
use native.Mathlib.Omega.{arith}
use lib.ListN.{length}
use Rattle.std.specs.Prelude.{Option, Some, None}
use Rattle.state.specs.declared.RenderMode.{RenderMode}
use Rattle.combiner.specs.declared.Combiner.{Combiner}
use Rattle.raster_pixel.specs.declared.view.View.{View}
use Rattle.raster_range.specs.declared.Range.{Range}
use Rattle.raster_range.specs.Kept.{Kept}
use Rattle.raster_edges.specs.declared.Edges.{Edges}
use Rattle.raster_edges.specs.declared.Tri.{Tri}
use Rattle.raster_edges.specs.Bound.{no_sample, no_row}
use Rattle.raster_edges.specs.Span.{edges_of}
use Rattle.raster_vertex.specs.declared.row.ShadeRow.{ShadeRow}
use Rattle.raster_pixel.specs.Parts.{from}
use Rattle.raster_edges.specs.Sample.{mask_of}
use Rattle.raster_pixel.specs.Emitted.{Emit, shown, emits}
use Rattle.raster_pixel.proofs.Kept.{kept_all}
use Rattle.raster_pixel.proofs.Parts.{from_none, from_empty, parts_bound}
use Rattle.frame.specs.Frame.{Frame}
use Rattle.frame_paint.specs.declared.paint.Paint.{Paint}
use Rattle.frame_paint.specs.declared.Target.{Target}
use Rattle.frame_paint.specs.Pixel.{Drew, DrewOn}
use Rattle.frame_paint.specs.Row.{painted, fragment_of, row_at}
use Rattle.frame_paint.proofs.Drawing.{DrawingOn, drawing_more, drew_as, drew_nothing}
use Rattle.frame_paint.proofs.Joins.{row_most}
use Rattle.rasterize.specs.Shape.{Shading, shades_on, shape_pixel, shape_row}
use Rattle.rasterize.proofs.Same.{same_as, drew_same}

-- ---- a pixel
unseen : (paint : Paint) (shades : Option ShadeRow) (e : Edges) (w y x : ℕ) → mask_of e x ≡ 0 → row_at paint shades e w y x ≡ []
unfolding fragment_of
unseen paint shades e w y x h = λ i. emits (cond (shown paint.mode.antialias (h i)) (Some (painted paint shades (h i) x)) None) (y * w + x)

-- ---- a row
module _ (paint : Paint) (shading : Shading) (t : Tri) (w l r y : ℕ) {e : Edges} (ee : e ≡ edges_of t y) {k : Range} (kept : Kept (no_sample e) l r k) where
  row_kept : {row : Option ShadeRow} → row ≡ shades_on shading y → from (row_at paint row e w y) k.start k.end ≡ shape_row paint shading t w l r y
  row_kept {row} er =
      sym (kept_all (row_at paint row e w y) (no_sample e) (λ x. unseen _ _ _ w y x) kept) ∙ (λ i. from (row_at paint (er i) (ee i) w y) l r)

  pub row_none : k.end ≤ k.start → shape_row paint shading t w l r y ≡ []
  row_none h = sym (row_kept refl) ∙ from_none (row_at paint (shades_on shading y) e w y) k.start k.end h

  -- in a draw of a frame, and of the frame that a draw is carried out on
  pub row_drawn :
      {row : Option ShadeRow} {m n : ℕ} {f g : Frame} → row ≡ shades_on shading y
      → Drew paint.mode paint.combiner m (from (row_at paint row e w y) k.start k.end) f g n
      → Drew paint.mode paint.combiner m (shape_row paint shading t w l r y) f g n
  row_drawn er = drew_same (same_as (row_kept er))

  pub row_drawn_on :
      {row : Option ShadeRow} {n : ℕ} {before after : Target} → row ≡ shades_on shading y
      → DrewOn paint.mode paint.combiner (from (row_at paint row e w y) k.start k.end) before after n
      → DrewOn paint.mode paint.combiner (shape_row paint shading t w l r y) before after n
  row_drawn_on er = drew_as (row_kept er)

-- ---- rows
module _ (paint : Paint) (shading : Shading) (t : Tri) (w l r : ℕ) where
  pub rows_kept :
      {top bottom : ℕ} {k : Range} → Kept (no_row t) top bottom k
      → from (shape_row paint shading t w l r) top bottom ≡ from (shape_row paint shading t w l r) k.start k.end
  rows_kept =
      kept_all (shape_row paint shading t w l r) (no_row t)
      (λ y z. from_empty (shape_pixel paint shading t w y) l r (λ x p q. unseen _ _ _ w y x (z x)))

  pub rows_most : r ≤ 1024 → (a b : ℕ) → length (from (shape_row paint shading t w l r) a b) ≤ (b - a) * 1024
  rows_most h a b =
      parts_bound (shape_row paint shading t w l r) 1024 (λ y. omega (arith, row_most paint (shades_on shading y) (edges_of t y) w y l r)) (b - a) a

-- a loop over rows, one of which emits nothing
pub row_skipped :
    (mode : RenderMode) (k : Combiner) (c : View → ℕ → List Emit) (a b : ℕ) (t₀ : Target) {i n : ℕ} {t : Target}
    → i < b → DrawingOn mode k c a b t₀ i t n → c t.view i ≡ [] → DrawingOn mode k c a b t₀ (i + 1) t n
row_skipped mode k c a b t₀ {i} {n} {t} h l e = subst (DrawingOn mode k c a b t₀ (i + 1) t) (add-zero n) (drawing_more mode k c a b t₀ h l (drew_nothing t e))
