use Rattle.std.proofs.Common.{rules}
use Rattle.frame_paint.proofs.Fits.{step_good}
use Rattle.frame_paint.proofs.Drawing.{pixel_drawn}
use Rattle.rasterize_slow.proofs.sink.TargetSink.emit.Goals as goal

pub put_pixel-requires-clause-mark_ok : goal.put_pixel-requires-clause-mark_ok
put_pixel-requires-clause-mark_ok c = step_good _ _ _ _ c.fragment_source-source.ensures.samples (search rules) c.rules-after.ensures

pub returns : goal.returns
returns c = pixel_drawn c.fragment_source-source.ensures.value c.known_pixel-before.ensures c.rules-after.ensures c.put_pixel.ensures.stored c.put_pixel.ensures.same
