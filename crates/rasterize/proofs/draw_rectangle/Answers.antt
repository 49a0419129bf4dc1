use Rattle.rasterize.proofs.Shapes.{rectangle_pixels_drawn_on}
use Rattle.rasterize.proofs.draw_rectangle.Goals as goal

pub returns : goal.returns
returns c = rectangle_pixels_drawn_on c.args.paint.now c.args.sides c.outline.ensures c.args.target.now.view c.draw_shape.ensures
