-- By what `tip` and `outer` ensure.
use mathlib.Core.Path.{◌∙◌}
use Rattle.raster_edge.specs.Bound.{outer_of, outermost_of}
use Rattle.raster_edge.proofs.Held.{back}
use Rattle.raster_edge.proofs.outermost.Goals as goal

pub returns : goal.returns
unfolding outermost_of
returns c =
    let low = c.args.low in
    let ta = back c.tip.result c.tip.type_inv ∙ c.tip.ensures in
    let tb = back c.tip-2.result c.tip-2.type_inv ∙ c.tip-2.ensures in
    let tc = back c.tip-3.result c.tip-3.type_inv ∙ c.tip-3.ensures in
    let td = back c.tip-4.result c.tip-4.type_inv ∙ c.tip-4.ensures in
    let ab = back c.outer.result c.outer.type_inv ∙ c.outer.ensures ∙ (λ i. outer_of low (ta i) (tb i)) in
    let cd = back c.outer-2.result c.outer-2.type_inv ∙ c.outer-2.ensures ∙ (λ i. outer_of low (tc i) (td i)) in
    back c.outer-3.result c.outer-3.type_inv ∙ c.outer-3.ensures ∙ (λ i. outer_of low (ab i) (cd i))
