-- By the law `outlines`.
use mathlib.Core.Path.{subst⁻¹}
use mathlib.Core.Bool.{true}
use Rattle.raster_edge.proofs.Held.{uns}
use Rattle.raster_rectangle.specs.Outline.{Outlines}
use Rattle.raster_rectangle.proofs.Outlined.{outlines}
use Rattle.raster_rectangle.proofs.outline.Goals as goal

pub returns : goal.returns
returns c =
    let left = c.first_quarter in
    let right = c.quarters_before in
    let top = c.first_quarter-top in
    let bottom = c.quarters_before-end in
    let major = c.upright-major.ensures in
    let other = c.upright-other.ensures in
    let t = (uns top.ensures.most tt).read in
    let b = (uns bottom.ensures.most tt).read in
    subst⁻¹ (Outlines c.args.sides)
    (λ i. record { major = major i; upper = other i; lower = other i; top = t i; mid = b i; end = b i; rightward = true })
    (outlines _ left.result top.result right.result bottom.result left.ensures top.ensures right.ensures bottom.ensures)
