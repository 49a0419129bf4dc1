use Rattle.raster_pixel.proofs.Parts.{from_one}
use Rattle.raster_emitted.proofs.Listing.{listed_as}
use Rattle.rasterize_slow.proofs.sink.SlotsSink.emit.Goals as goal

pub returns : goal.returns
returns c = listed_as (from_one _ c.args.pixel) c.list_run.ensures
