-- The samples between its edges are those that it holds.
use Rattle.raster_emitted.proofs.Listing.{listed_as}
use Rattle.raster_emitted.proofs.Triangles.{rectangle_shape}
use Rattle.raster_emitted.proofs.list_rectangle.Goals as goal

pub returns : goal.returns
returns c =
    let v = c.args.slots.now.view in
    listed_as (rectangle_shape c.args.antialias v.scissor v.width v.height c.args.sides v.sized.width_small v.sized.height_small c.outline.ensures) c.list_shape.ensures
