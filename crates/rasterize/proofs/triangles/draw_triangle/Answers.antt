use Rattle.frame_paint.proofs.Drawing.{drew_nothing}
use Rattle.rasterize.proofs.Shapes.{triangle_drawn, triangle_skipped}
use Rattle.rasterize.proofs.triangles.draw_triangle.Goals as goal

pub returns-in_default : goal.returns-in_default
returns-in_default c = drew_nothing _ (triangle_skipped c.args.paint.now c.args.shapes.now.cull c.args.target.now.view _ c.in_default.ensures.value)

pub returns : goal.returns
returns c = triangle_drawn c.args.paint.now c.args.shapes.now.cull c.args.target.now.view _ c.requires.mixed c.requires.flat c.in-Some.ensures.value c.then_some-shading.ensures c.draw_shape.ensures
