use Rattle.std.proofs.Common.{◌∙◌}
use Rattle.raster_edges.proofs.Pairs.{bits, four_pairs}
use Rattle.rasterize_slow.specs.Shape.{pair_hit, shape_mask}
use Rattle.rasterize_slow.proofs.Samples.{pair_lt}
use Rattle.rasterize_slow.proofs.mask.Goals as goal

pub returns : goal.returns
unfolding shape_mask
returns c =
    let s = c.args in
    let hit = pair_hit s.shape.now s.y s.x in
    let small = pair_lt s.shape.now s.y s.x in
    (λ i. bits (c.pair-a.ensures i) (c.pair-b.ensures i) (c.pair-c.ensures i) (c.pair-d.ensures i))
    ∙ four_pairs (hit 0) (hit 1) (hit 2) (hit 3) (small 0) (small 1) (small 2) (small 3)
