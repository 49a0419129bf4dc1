-- A row's pixels by parts: those of a part have one mask, so that all are emitted or none; and what is left out of a row, or of the rows, has no sample. Assumes nothing.
use Prim.Native.Nat.{ℕ, ◌+◌, ◌-◌, ◌*◌, ◌≤◌, ◌<◌}
use mathlib.Core.Path.{◌≡◌, sym, ap, ◌∙◌}
use mathlib.Core.Bool.{Bool, true, false, cond}
use mathlib.Core.List.{List, [], ◌∷◌}
use native.Mathlib.Decide.{dec_lt}
use native.Mathlib.Omega.{arith}
use Rattle.raster_range.specs.declared.Range.{Range}
use Rattle.raster_range.specs.Kept.{Kept}
use Rattle.raster_edges.specs.declared.Edges.{Edges}
use Rattle.raster_edges.specs.declared.Tri.{Tri}
use Rattle.raster_edges.specs.Bound.{no_sample, no_row}
use Rattle.raster_edges.specs.Sample.{mask_of}
use Rattle.raster_edges.specs.Span.{edges_of}
use Rattle.raster_pixel.specs.Emitted.{shown}
use Rattle.raster_pixel.specs.Parts.{from}
use Rattle.raster_pixel.specs.declared.row.Row.{Row}
use Rattle.raster_pixel.proofs.Kept.{kept_all}
use Rattle.raster_pixel.proofs.Parts.{from_empty, from_same, from_shift}
use Rattle.raster_emitted.specs.Masked.{Masked}
use Rattle.raster_emitted.specs.Shapes.{pixel_masks, run_masks, row_masks, line_masks}

-- ---- a pixel
hit : (antialias : Bool) (mask p : ℕ) → shown antialias mask ≡ true → pixel_masks antialias mask p ≡ record { pixel = p; mask = mask } ∷ []
unfolding pixel_masks
hit antialias mask p e = λ i. cond (e i) (record { pixel = p; mask = mask } ∷ []) []

missed : (antialias : Bool) (mask p : ℕ) → shown antialias mask ≡ false → pixel_masks antialias mask p ≡ []
unfolding pixel_masks
missed antialias mask p e = λ i. cond (e i) (record { pixel = p; mask = mask } ∷ []) []

unseen : (antialias : Bool) (mask p : ℕ) → mask ≡ 0 → pixel_masks antialias mask p ≡ []
unfolding pixel_masks
unseen antialias mask p e = λ i. pixel_masks antialias (e i) p

-- ---- a part of a row: one pixel, or pixels that all have all their samples
module _
    (antialias : Bool) (row : Row) (w y : ℕ) {x next m : ℕ} (em : m ≡ mask_of row.edges x) (h : x < next)
    (r : x + 1 < next → (row.full.start ≤ x) × (next ≤ row.full.end)) where
  one_mask : (j : ℕ) → x ≤ j → j < next → mask_of row.edges j ≡ m
  one_mask j a b = go (dec_lt (x + 1) next)
    where
      go : Dec (x + 1 < next) → mask_of row.edges j ≡ m
      go (yes l) = let k = r l in row.fulls j (omega (arith, k.0)) (omega (arith, k.1)) ∙ sym (row.fulls x k.0 (omega (arith, k.1))) ∙ sym em
      go (no l) =
          let q : j ≡ x = omega arith in
          ap (mask_of row.edges) q ∙ sym em

  pub part_none : shown antialias m ≡ false → from (row_masks antialias row.edges w y) x next ≡ []
  part_none s =
      from_empty (row_masks antialias row.edges w y) x next (λ j a b.
      missed antialias (mask_of row.edges j) (y * w + j) (ap (shown antialias) (one_mask j a b) ∙ s))

  pub part_run : shown antialias m ≡ true → run_masks m (y * w + x) (y * w + x + (next - x)) ≡ from (row_masks antialias row.edges w y) x next
  part_run s =
      let spot : ℕ → List Masked = λ p. record { pixel = p; mask = m } ∷ [] in
      let end : y * w + x + (next - x) ≡ y * w + next = omega arith in
      ap (from spot (y * w + x)) end
      ∙ sym (from_shift spot (y * w) x next)
      ∙ sym (from_same (row_masks antialias row.edges w y) (λ (i : ℕ). spot (y * w + i)) x next (λ j a b.
      (λ i. pixel_masks antialias (one_mask j a b i) (y * w + j)) ∙ hit antialias m (y * w + j) s))

-- ---- a row, and the rows
pub row_kept :
    (antialias : Bool) (t : Tri) (w l r y : ℕ) {e f : Edges} {k : Range} → f ≡ e → e ≡ edges_of t y → Kept (no_sample e) l r k
    → from (row_masks antialias f w y) k.start k.end ≡ line_masks antialias t w l r y
row_kept antialias t w l r y {e} {k = k} ef ee kept =
    (λ i. from (row_masks antialias (ef i) w y) k.start k.end)
    ∙ sym (kept_all (row_masks antialias e w y) (no_sample e) (λ x z. unseen antialias (mask_of e x) (y * w + x) z) kept)
    ∙ (λ i. from (row_masks antialias (ee i) w y) l r)

pub rows_kept :
    (antialias : Bool) (t : Tri) (w l r : ℕ) {top bottom : ℕ} {k : Range} → Kept (no_row t) top bottom k
    → from (line_masks antialias t w l r) k.start k.end ≡ from (line_masks antialias t w l r) top bottom
rows_kept antialias t w l r kept =
    sym (kept_all (line_masks antialias t w l r) (no_row t) (λ y z.
    from_empty (row_masks antialias (edges_of t y) w y) l r (λ x a b. unseen antialias (mask_of (edges_of t y) x) (y * w + x) (z x))) kept)
