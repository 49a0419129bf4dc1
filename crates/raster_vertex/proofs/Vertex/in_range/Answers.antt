-- `of_bits` and `neg` open the ends of the ranges, which the code has by their bits.
use mathlib.Core.Path.{sym, ◌∙◌}
use lib.Ieee.{of_bits, neg}
use Rattle.raster_vertex.proofs.Vertex.in_range.Goals as goal

pub returns-then-contains : goal.returns-then-contains
unfolding of_bits neg
returns-then-contains c = c.contains-then-contains.ensures ∙ simp (sym c.contains.ensures ∙ c.if-contains.true)

pub returns-else-contains : goal.returns-else-contains
unfolding of_bits neg
returns-else-contains c = c.if-contains.false ∙ simp (sym c.contains.ensures ∙ c.if-contains.false)
