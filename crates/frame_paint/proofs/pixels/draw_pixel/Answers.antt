use Rattle.std.proofs.Common.{rules}
use Rattle.frame_paint.proofs.Fits.{step_good}
use Rattle.frame_paint.proofs.Drawing.{pixel_drawn}
use Rattle.frame_paint.proofs.pixels.draw_pixel.Goals as goal

pub put_pixel-requires-clause-mark_ok : goal.put_pixel-requires-clause-mark_ok
put_pixel-requires-clause-mark_ok c = step_good _ _ _ _ c.fragment_source.ensures.samples (search rules) c.step-after.ensures

pub returns : goal.returns
returns c = pixel_drawn c.fragment_source.ensures.value c.known_pixel-before.ensures c.step-after.ensures c.put_pixel.ensures.stored c.put_pixel.ensures.same
