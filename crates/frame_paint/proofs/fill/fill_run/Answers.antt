use native.Mathlib.Omega.{arith}
use Rattle.frame_paint.proofs.Filled.{filling_more, filling_done}
use Rattle.frame_paint.proofs.fill.fill_run.Goals as goal

pub loop-pixel-preserved : goal.loop-pixel-preserved
loop-pixel-preserved c = filling_more _ _ _ _ c.loop-pixel.auto.pixel c.loop-pixel-test.true c.requires.run.2 c.loop-pixel.invariant c.fill_pixel.ensures

pub returns : goal.returns
returns c = filling_done _ _ _ _ (omega arith) c.loop-pixel.invariant
