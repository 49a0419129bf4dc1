-- The edges of near corners are tame.
use Rattle.raster_pixel.proofs.Near.{tame_as}
use Rattle.raster_pixel.proofs.set_up.Goals as goal

pub returns-clause-tame : goal.returns-clause-tame
returns-clause-tame c = tame_as _ _ _ c.sort-vertices.ensures c.corners-corners.ensures c.setup.ensures c.requires
