use Rattle.raster_pixel.specs.declared.view.View.{View}
use Rattle.frame_paint.proofs.Drawing.{DrawingOn}
use Rattle.rasterize.specs.Shape.{shape_row}
use Rattle.rasterize.proofs.rows.draw_shape.Given as goal

abbrev pub invariant-loop-y : goal.invariant-loop-y
invariant-loop-y l =
    DrawingOn l.paint.mode l.paint.combiner (λ (v : View). shape_row l.paint l.shading l.shape v.width l.area.left l.area.right) l.initial.y l.y-end l.initial.target l.y l.target l.n
