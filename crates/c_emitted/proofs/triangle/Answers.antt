-- The corners of a triangle whose vertices are in range are near enough for the edges.
use Rattle.std.proofs.Common.{◌≡◌, Option, not, false, sym, ap, ◌∙◌}
use Rattle.raster_vertex.specs.declared.Triangle.{Triangle}
use Rattle.raster_vertex.specs.declared.Vertex.{Vertex}
use Rattle.raster_vertex.specs.Range.{in_range}
use Rattle.raster_admitted.specs.Check.{any}
use Rattle.raster_admitted.proofs.Choices.{taken, passed}
use Rattle.raster_pixel.specs.Near.{CornersNear}
use Rattle.raster_pixel.proofs.Checked.{placed, sorted_near}
use Rattle.rasterize_slow.specs.declared.Shape.{Shape}
use Rattle.rasterize_slow.specs.Shape.{optional_fragment}
use Rattle.rasterize_slow.proofs.Emitted.{skipped_fragment}
use Rattle.c_emitted.specs.Emitted.{emitted_triangle}
use Rattle.c_emitted.proofs.triangle.Goals as goal

near : (t : Triangle) → any (λ (v : Vertex). not (in_range v)) t.a t.b t.c ≡ false → CornersNear t.a t.b t.c
near t h = sorted_near t (placed t h)

pub returns-then-out_of_range : goal.returns-then-out_of_range
unfolding emitted_triangle
returns-then-out_of_range c = taken _ _ _ (sym c.out_of_range.ensures ∙ c.if-out_of_range.true)

pub triangle-shape-requires : goal.triangle-shape-requires
triangle-shape-requires c = near c.args.t (sym c.out_of_range.ensures ∙ c.if-out_of_range.false)

pub returns : goal.returns
unfolding emitted_triangle
returns c =
    let a = c.args in
    passed _ _ _ (sym c.out_of_range.ensures ∙ c.if-out_of_range.false)
    (c.pixel.ensures ∙ ap (λ (s : Option Shape). optional_fragment a.antialias a.combiner s a.y a.x) c.triangle-shape.ensures.shape ∙ skipped_fragment a.antialias a.combiner a.y a.x a.cull a.t)
