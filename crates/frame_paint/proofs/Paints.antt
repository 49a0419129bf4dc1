-- The bytes of a paint from the answers that they are made of; that every pixel of a triangle has a paint's colour where no shade is used; and that the shade's alpha has no part
-- in a pixel of an even paint's own colour. Assumes nothing.
use mathlib.Core.Path.{◌≡◌, sym, ap, ◌∙◌}
use mathlib.Core.Bool.{Bool, true, not, ◌&&◌}
use Prim.Native.Nat.{ℕ}
use native.Mathlib.Omega.{arith}
use Rattle.std.proofs.lemmas.Grind.{common_steps}
use lib.Dec.{eqb}
use lib.Ieee.{Float}
use Rattle.std.specs.Prelude.{Option}
use Rattle.std.specs.Bool.{then_some}
use Rattle.state.specs.declared.RenderMode.{RenderMode}
use Rattle.state.specs.declared.Rgba.{Rgba}
use Rattle.combiner.specs.declared.Combiner.{Combiner}
use Rattle.combiner.specs.Combine.{color_of, full_shade}
use Rattle.combiner_resolved.specs.Resolved.{color_value}
use Rattle.combiner_resolved.specs.Shaded.{shade_used}
use Rattle.combiner_resolved.proofs.Flat.{flat_color}
use Rattle.blender.specs.declared.Mux.{Mux}
use Rattle.blender.specs.Mux.{mux_of}
use Rattle.blender.specs.Layer.{own_of, layered_of, opaque_of, steady_of}
use Rattle.blender.proofs.Solid.{opaque}
use Rattle.blender.proofs.Layers.{layered, steady}
use Rattle.frame_pixel.specs.declared.Pixel.{Pixel}
use Rattle.frame_pixel.specs.declared.Colors.{Colors}
use Rattle.frame_pixel.specs.declared.full.Full.{Full}
use Rattle.frame_pixel.specs.Rules.{pixel_step}
use Rattle.frame_pixel.specs.Coloring.{own_colors}
use Rattle.frame_pixel.specs.Full.{FullOf}
use Rattle.std.proofs.lemmas.Bool.{not-true, and_parts}
use Rattle.frame_pixel.proofs.Colorings.{opaque_step, unshaded_step}
use Rattle.num_bits.specs.Ones.{ones_of}
use Rattle.frame.specs.Frame.{Frame, pixel_at, put_pixel}
use Rattle.frame_paint.specs.declared.paint.Paint.{Paint}
use Rattle.frame_paint.specs.Steps.{step_frame}
use Rattle.frame_paint.specs.Pixel.{emit_of}
use Rattle.frame_paint.specs.Paint.{Own}

-- every pixel of a triangle has the colour, if what full pixels need is enough for it and no shade is used
module _ (k : Combiner) {c : Rgba} {even shaded : Bool} where
  pub all_colored : color_of k full_shade ≡ color_value c → shaded ≡ shade_used k → (even && not shaded) ≡ true → (even ≡ true) × ((s : Rgba) → color_of k s ≡ color_value c)
  all_colored ec eh o = ((and_parts even (not shaded) o).0, λ s. flat_color k s full_shade (sym eh ∙ not-true _ (and_parts even (not shaded) o).1) ∙ ec)

-- ---- the bytes of an opaque pixel: P is the pixel's colour, or does not turn on it
module _ (mode : RenderMode) (k : Combiner) {c : Rgba} {full : Full} {mux : Mux} {own : Option Colors} where
  pub own_bytes : FullOf mode k c full → mux ≡ mux_of mode.blender_mux → own ≡ then_some (not (eqb mux.p 0)) full.own → Own mode k own
  unfolding own_colors own_of
  own_bytes ef em eo color o = let plain = (opaque mode color.a o).own in grind (arith, common_steps, plain, ef.own, em, eo)

-- ---- the shade's alpha
-- what is stored of a pixel of the paint's own colour does not turn on it, where what full pixels need is enough
module _ (paint : Paint) (even : paint.even ≡ true) where
  any_step :
      (n : ℕ) (s t : Float) (x : Pixel)
      → pixel_step paint.mode paint.combiner (record { color = paint.color; shade_alpha = s; count = n }) x
      ≡ pixel_step paint.mode paint.combiner (record { color = paint.color; shade_alpha = t; count = n }) x
  any_step n s t x =
      let unshaded = unshaded_step paint.mode paint.combiner paint.color n x s t in
      let by_layer = λ (h : layered_of paint.mode paint.color.a ≡ true). unshaded (layered paint.mode paint.color.a h).shade in
      let by_mode = λ (h : steady_of paint.mode ≡ true). unshaded (steady paint.mode h).shade in
      let by_alpha = λ (h : opaque_of paint.mode paint.color.a ≡ true). opaque_step paint.mode paint.combiner paint.color n x s t (opaque paint.mode paint.color.a h) in
      grind (arith, common_steps, sym paint.enough ∙ even, paint.filled.layered, paint.filled.sure, by_layer, by_mode, by_alpha)

  pub any_shade :
      (f : Frame) (pixel mask : ℕ) (s t : Float)
      → step_frame paint.mode paint.combiner f (emit_of pixel mask paint.color s) ≡ step_frame paint.mode paint.combiner f (emit_of pixel mask paint.color t)
  unfolding step_frame
  any_shade f pixel mask s t = ap (put_pixel f pixel) (any_step (ones_of mask) s t (pixel_at f pixel))
