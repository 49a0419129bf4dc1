-- Field by field.
use mathlib.Core.Path.{◌≡◌, refl, ap, ◌∙◌}
use mir.Syntax.{w64}
use mir.Val.{to_z, of_z}
use Rattle.raster_edges.specs.Edge.{edge_start, edge_from}
use Rattle.raster_edge.proofs.Held.{held, small, back, low}
use Rattle.raster_edges.proofs.edge_from.Goals as goal

pub returns : goal.returns
unfolding edge_from
returns c =
    let t = held c.ranges.step c.requires.1 in
    let p : to_z w64 (of_z w64 c.edge_start.result) ≡ edge_start c.args.a c.args.step = back c.edge_start.result c.edge_start.type_inv ∙ c.edge_start.ensures ∙ ap (edge_start c.args.a) t.read in
    λ i. record { start = p i; step = t.read i; base = (low (small c.args.a.y c.requires.0.y_near tt) 62 2 refl tt).read i }
