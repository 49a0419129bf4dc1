use Rattle.frame_paint.proofs.Filled.{filled}
use Rattle.frame_paint.proofs.fill.fill_pixel.Goals as goal

pub returns : goal.returns
returns c =
    filled c.args.full _ c.args.pixel c.coverage_marked-covered.ensures c.full_known-known.ensures c.full_colors-new.ensures c.requires.sets_value c.mark_of.ensures c.store.ensures
