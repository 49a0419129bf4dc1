-- A NaN has no quarter at it or after it, and for any other side these are the ones not before it.
use mathlib.Core.Path.{sym, ◌∙◌}
use Rattle.raster_rectangle.proofs.First.{from_is, from_nan}
use Rattle.raster_rectangle.proofs.first_quarter.Goals as goal

pub returns-then-is_nan : goal.returns-then-is_nan
returns-then-is_nan c = from_nan c.args.side (sym c.is_nan.ensures.value ∙ c.if-is_nan.true)

pub returns-else-is_nan : goal.returns-else-is_nan
returns-else-is_nan c = from_is c.args.side c.quarters_before.result (sym c.is_nan.ensures.value ∙ c.if-is_nan.false) c.quarters_before.ensures
