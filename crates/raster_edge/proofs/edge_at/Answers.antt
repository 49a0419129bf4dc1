-- A chain of operations by `Held`.
use mathlib.Core.Path.{refl}
use Rattle.raster_edge.specs.Edge.{edge_at}
use Rattle.raster_edge.proofs.Held.{small, uns, add, fit_add, sub, mul, fit_mul, shr, low}
use Rattle.raster_edge.proofs.edge_at.Goals as goal

pub overflow_mul-result : goal.overflow_mul-result
overflow_mul-result c =
    let rows = sub (uns c.requires.1 tt) (small c.args.e.base c.requires.0.base_small tt) tt in
    fit_mul (low (shr (small c.args.e.step c.requires.0.step_small tt) 4 tt) 63 1 refl tt) rows tt

pub overflow_add-result : goal.overflow_add-result
overflow_add-result c =
    let rows = sub (uns c.requires.1 tt) (small c.args.e.base c.requires.0.base_small tt) tt in
    let step = low (shr (small c.args.e.step c.requires.0.step_small tt) 4 tt) 63 1 refl tt in
    fit_add (small c.args.e.start c.requires.0.start_small tt) (mul step rows tt) tt

pub returns : goal.returns
unfolding edge_at
returns c =
    let rows = sub (uns c.requires.1 tt) (small c.args.e.base c.requires.0.base_small tt) tt in
    let step = low (shr (small c.args.e.step c.requires.0.step_small tt) 4 tt) 63 1 refl tt in
    (add (small c.args.e.start c.requires.0.start_small tt) (mul step rows tt) tt).read
