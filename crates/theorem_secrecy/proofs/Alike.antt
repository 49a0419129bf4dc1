-- One emitted pixel keeps frames alike, and so does a list of them: the step changes the five bytes of one pixel, which crate frame_pixel's laws keep alike, and no
-- other. Assumes nothing.
use mathlib.Core.List.{List, [], ◌∷◌}
use Rattle.state.specs.declared.RenderMode.{RenderMode}
use Rattle.combiner.specs.declared.Combiner.{Combiner}
use Rattle.frame_pixel.specs.Rules.{pixel_step}
use Rattle.frame_pixel.proofs.Alike.{pixel_alike}
use Rattle.raster_pixel.specs.Emitted.{Emit}
use Rattle.frame.specs.Frame.{Frame, pixel_at}
use Rattle.frame_paint.specs.Steps.{source_of, step_frame, draw_list}
use Rattle.frame.specs.Alike.{Alike}
use Rattle.frame.proofs.Alike.{put_alike}

module _ (mode : RenderMode) (k : Combiner) where
  pub step_alike : (f g : Frame) (e : Emit) → Alike f g → Alike (step_frame mode k f e) (step_frame mode k g e)
  unfolding step_frame
  step_alike f g e h =
      let x = pixel_at f e.pixel in
      let y = pixel_at g e.pixel in
      put_alike f g e.pixel (pixel_step mode k (source_of e) x) (pixel_step mode k (source_of e) y) h
      (pixel_alike mode k (source_of e) x y (h.pixels e.pixel))

  pub list_alike : (f g : Frame) (es : List Emit) → Alike f g → Alike (draw_list mode k f es) (draw_list mode k g es)
  list_alike f g [] h = h
  list_alike f g (e ∷ es) h = list_alike (step_frame mode k f e) (step_frame mode k g e) es (step_alike f g e h)
