-- An emitted pixel keeps what numbers 1 to 3 leave of a frame: slices of their lengths, no mark above the highest, and no known coverage above 7. So does a list
-- of them. Assumes nothing.
use Prim.Native.Nat.{ℕ, ◌<◌, ◌≤◌}
use mathlib.Core.Path.{◌≡◌, refl, subst, sym}
use mathlib.Core.Bool.{true}
use mathlib.Core.List.{List}
use lib.ListN.{length, length-set}
use Rattle.num_bits.proofs.Masks.{ones_range}
use Rattle.state.specs.declared.RenderMode.{RenderMode}
use Rattle.combiner.specs.declared.Combiner.{Combiner}
use Rattle.blender.specs.declared.Source.{Source}
use Rattle.blender.specs.Blend.{or_zero}
use Rattle.frame_pixel.specs.declared.Pixel.{Pixel}
use Rattle.frame_pixel.specs.Rules.{coverage_at, pixel_step}
use Rattle.frame_pixel.proofs.Alike.{mark_after}
use Rattle.frame_pixel.proofs.Knows.{coverage-after}
use Rattle.raster_pixel.specs.Emitted.{Emit}
use Rattle.raster_pixel.proofs.Placed.{Placed}
use Rattle.frame.specs.Frame.{Frame, pixel_at}
use Rattle.frame.specs.Checks.{mark_ok}
use Rattle.frame.specs.Fits.{Fit}
use Rattle.frame.proofs.Fits.{mark_good, put_fit}
use Rattle.frame_paint.specs.Steps.{source_of, step_frame, draw_list}

-- a frame that fits does so with as many pixels as it has marks
pub fit_own : {n : ℕ} {f : Frame} → Fit n f → Fit (length f.marks) f
fit_own {f = f} h = subst (λ m. Fit m f) (sym h.marks) h

module _ (mode : RenderMode) (k : Combiner) where
  pub step_marks : (f : Frame) (e : Emit) → length (step_frame mode k f e).marks ≡ length f.marks
  unfolding step_frame
  step_marks f e = simp length-set

  -- numbers 1 to 3 let the pixel through
  pub step_good : (s : Source) (x : Pixel) {y : Pixel} → (1 ≤ s.count) × (s.count ≤ 8) → or_zero (coverage_at x) ≤ 7 → y ≡ pixel_step mode k s x → mark_ok y.mark y.coverage ≡ true
  step_good s x c low e =
      subst (λ (y : Pixel). mark_ok y.mark y.coverage ≡ true) (sym e) (mark_good _ _ (mark_after mode k s x) (coverage-after mode k s x c.0 c.1 low))

  pub fit_step : {n : ℕ} {f : Frame} (e : Emit) → Fit n f → 0 < e.mask → e.mask < 256 → Fit n (step_frame mode k f e)
  unfolding step_frame
  fit_step {n} {f} e h a b =
      let c = ones_range e.mask a b in put_fit h e.pixel _ (step_good (source_of e) (pixel_at f e.pixel) c (h.sound e.pixel) refl)

  pub fit_list : {m n : ℕ} {f : Frame} {es : List Emit} → Fit n f → Placed m es → Fit n (draw_list mode k f es)
  fit_list h Placed.none = h
  fit_list {m = m} {n = n} {f = f} h (Placed.more {e = e} {es = es} l c p) = fit_list {f = step_frame mode k f e} (fit_step e h c.0 c.1) p
