-- What the test answers of each vertex.
use mathlib.Core.Bool.{not}
use borrow.Author.Rules.{rules}
use Rattle.raster_vertex.specs.declared.Vertex.{Vertex}
use Rattle.raster_vertex.specs.Any.{AnyOf}
use Rattle.raster_vertex.specs.Range.{finite_color}
use Rattle.raster_admitted.proofs.not_finite.Goals as goal

pub returns : goal.returns
unfolding AnyOf
returns c = c.any.ensures (λ (v : Vertex). not (finite_color v)) (λ v b h. search rules)
