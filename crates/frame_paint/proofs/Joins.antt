-- How many pixels a row emits, and a run of full pixels of the paint's own colour. Assumes nothing.
use mathlib.Core.Path.{◌≡◌, sym, ◌∙◌}
use mathlib.Core.Bool.{Bool, true, cond}
use Prim.Native.Nat.{ℕ, ◌+◌, ◌-◌, ◌*◌, ◌≤◌, ◌<◌}
use native.Mathlib.Omega.{arith}
use Rattle.std.proofs.lemmas.Grind.{common_steps}
use lib.ListN.{length}
use Rattle.std.specs.Prelude.{Option, Some, None}
use Rattle.raster_edges.specs.declared.Edges.{Edges}
use Rattle.raster_edges.specs.Sample.{mask_of}
use Rattle.raster_vertex.specs.declared.row.ShadeRow.{ShadeRow}
use Rattle.raster_pixel.specs.Emitted.{shown, emits}
use Rattle.raster_pixel.specs.Parts.{from}
use Rattle.raster_pixel.specs.declared.row.Row.{Row}
use Rattle.raster_pixel.proofs.Counts.{emits_most}
use Rattle.raster_pixel.proofs.Parts.{parts_bound, from_one, from_same, from_shift}
use Rattle.frame_paint.specs.declared.Target.{Target}
use Rattle.frame_paint.specs.declared.paint.Paint.{Paint}
use Rattle.frame_paint.specs.Target.{seen, SameLoans}
use Rattle.frame_paint.specs.Pixel.{Drew, DrewOn}
use Rattle.frame_paint.specs.Row.{painted, fragment_of, row_at, full_pixel, Runs}
use Rattle.frame_paint.proofs.Drawing.{drew_as, drew_count}

-- ---- how many pixels a row emits
pub row_most : (paint : Paint) (shades : Option ShadeRow) (e : Edges) (w y a b : ℕ) → length (from (row_at paint shades e w y) a b) ≤ b - a
row_most paint shades e w y a b = omega (arith, parts_bound (row_at paint shades e w y) 1 (λ x. emits_most _ _) (b - a) a)

-- ---- a run of full pixels of the paint's own colour
full_shown : (antialias : Bool) → shown antialias 255 ≡ true
full_shown antialias = grind (arith, common_steps)

full_row :
    (paint : Paint) {shades : Option ShadeRow} {mask : ℕ} (x p : ℕ) → shades ≡ None → mask ≡ 255
    → full_pixel paint.color p ≡ emits (fragment_of paint shades mask x) p
unfolding fragment_of
full_row paint x p es em =
    sym
    ((λ i. emits (fragment_of paint (es i) (em i) x) p)
    ∙ (λ i. emits (cond (full_shown paint.mode.antialias i) (Some (painted paint None 255 x)) None) p))

module _ (paint : Paint) (shades : Option ShadeRow) (row : Row) (y : ℕ) {x next : ℕ} (runs : Runs paint shades row.full x next) (h : x + 1 < next) where
  run_row : (w : ℕ) → from (full_pixel paint.color) (y * w + x) (y * w + next) ≡ from (row_at paint shades row.edges w y) x next
  run_row w =
      let r = runs h in
      sym (from_shift (full_pixel paint.color) (y * w) x next)
      ∙ from_same (λ i. full_pixel paint.color (y * w + i)) (row_at paint shades row.edges w y) x next
      (λ i p q. full_row paint i (y * w + i) r.0 (row.fulls i (omega (arith, r.2)) (omega (arith, r.3))))

  pub run_drawn :
      {n : ℕ} {t u : Target}
      → (let p = y * t.view.width in Drew paint.mode paint.combiner n (from (full_pixel paint.color) (p + x) (p + next)) (seen t) (seen u) (p + next - (p + x)))
      → SameLoans t u → DrewOn paint.mode paint.combiner (from (row_at paint shades row.edges t.view.width y) x next) t u (next - x)
  run_drawn {t = t} d same = drew_count (omega arith) (drew_as (run_row t.view.width) (record { ran = d.ran; same = same }))

-- a part of one pixel
pub one_drawn :
    (paint : Paint) (shades : Option ShadeRow) (e : Edges) (y : ℕ) {x next mask : ℕ} {t u : Target} {n : ℕ} → mask ≡ mask_of e x → x < next → next ≤ x + 1
    → DrewOn paint.mode paint.combiner (emits (fragment_of paint shades mask x) (y * t.view.width + x)) t u n
    → DrewOn paint.mode paint.combiner (from (row_at paint shades e t.view.width y) x next) t u n
one_drawn paint shades e y {x} {next} {t = t} em h g =
    let c = row_at paint shades e t.view.width y in
    let one : x + 1 ≡ next = omega arith in
    drew_as ((λ i. emits (fragment_of paint shades (em i) x) (y * t.view.width + x)) ∙ sym (from_one c x) ∙ (λ i. from c x (one i)))
