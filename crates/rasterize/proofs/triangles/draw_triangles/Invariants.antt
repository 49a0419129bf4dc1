use Rattle.std.specs.Prelude.{◌/◌, length}
use Rattle.frame_paint.proofs.Drawing.{DrawingOn}
use Rattle.rasterize.specs.Triangles.{triangle_of}
use Rattle.rasterize.proofs.triangles.draw_triangles.Given as goal

abbrev pub invariant-loop-i : goal.invariant-loop-i
invariant-loop-i l =
    DrawingOn l.paint.mode l.paint.combiner (triangle_of l.paint l.shapes) 0 (length l.shapes.lists.indices.now / 3) l.initial.target l.i l.target l.n
