-- What the test answers of each vertex.
use lib.Ieee.{ne}
use borrow.Author.Rules.{rules}
use Rattle.raster_vertex.specs.declared.Vertex.{Vertex}
use Rattle.raster_vertex.specs.Any.{AnyOf}
use Rattle.raster_admitted.proofs.shades_differ.Goals as goal

pub returns : goal.returns
unfolding AnyOf
returns c = c.any.ensures (λ (v : Vertex). ne v.a c.args.triangle.a.a) (λ v b h. search rules)
