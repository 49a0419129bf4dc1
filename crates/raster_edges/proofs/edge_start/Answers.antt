-- A chain of operations by `Held`.
use mathlib.Core.Path.{refl}
use Rattle.raster_edges.specs.Edge.{edge_start}
use Rattle.raster_edge.proofs.Held.{held, small, sub, fit_sub, mul, fit_mul, shr, shl, ones}
use Rattle.raster_edges.proofs.edge_start.Goals as goal

pub overflow_mul-result : goal.overflow_mul-result
overflow_mul-result c = fit_mul (shr (held c.ranges.step c.requires.1) 4 tt) (ones (small c.args.a.y c.requires.0.y_near tt) 62 2 refl tt tt) tt

pub overflow_sub-result : goal.overflow_sub-result
overflow_sub-result c =
    let back_to = mul (shr (held c.ranges.step c.requires.1) 4 tt) (ones (small c.args.a.y c.requires.0.y_near tt) 62 2 refl tt tt) tt in
    fit_sub (shl (small c.args.a.x c.requires.0.x_near tt) 14 tt) back_to tt

pub returns : goal.returns
unfolding edge_start
returns c =
    let back_to = mul (shr (held c.ranges.step c.requires.1) 4 tt) (ones (small c.args.a.y c.requires.0.y_near tt) 62 2 refl tt tt) tt in
    (sub (shl (small c.args.a.x c.requires.0.x_near tt) 14 tt) back_to tt).read
