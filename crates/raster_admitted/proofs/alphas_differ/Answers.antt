-- What the test answers of each vertex.
use borrow.Author.Rules.{rules}
use Rattle.combiner.specs.Combine.{color_of}
use Rattle.raster_vertex.specs.declared.Vertex.{Vertex}
use Rattle.raster_vertex.specs.Any.{AnyOf}
use Rattle.raster_admitted.specs.Check.{colour_of, alpha_differs}
use Rattle.raster_admitted.proofs.alphas_differ.Goals as goal

pub returns : goal.returns
unfolding AnyOf
returns c = c.any.ensures (λ (v : Vertex). alpha_differs c.args.alpha (color_of c.args.combiner (colour_of v))) (λ v b h. search rules)
