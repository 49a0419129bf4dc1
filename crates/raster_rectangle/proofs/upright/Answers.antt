-- The shift of a quarter up to 4096 does not overflow.
use lib.IntN.{pos}
use Rattle.raster_edge.proofs.Held.{uns, shl}
use Rattle.raster_rectangle.proofs.upright.Goals as goal

pub returns : goal.returns
returns c = λ i. record { start = (shl (uns c.requires tt) 14 tt).read i; step = pos 0; base = pos 0 }
