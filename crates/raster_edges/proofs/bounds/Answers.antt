-- What lies outside the outermost edges has no sample, and only lines that cover something count.
use mathlib.Core.Path.{ap, ◌∙◌, subst⁻¹}
use lib.IntN.{ℤ, pos, ◌+ℤ◌}
use lib.Signed.{shr_z}
use Rattle.raster_range.specs.Kept.{Kept}
use Rattle.raster_range.specs.Inner.{Inner}
use Rattle.raster_edge.specs.Bound.{range_of}
use Rattle.raster_edges.specs.Bound.{no_sample, Between}
use Rattle.raster_edge.proofs.Held.{got, lit, add, part}
use Rattle.raster_edges.proofs.Outside.{kept_pixels}
use Rattle.raster_edges.proofs.Fits.{between_pixels}
use Rattle.raster_edges.proofs.bounds.Goals as goal

pub returns-clause-kept : goal.returns-clause-kept
returns-clause-kept c =
    let a = c.args in
    let f = (part (got c.outermost-first.result c.outermost-first.type_inv) 8 tt).read ∙ ap (λ (z : ℤ). shr_z z 8) c.outermost-first.ensures in
    let l = (add (part (got c.outermost-last.result c.outermost-last.type_inv) 8 tt) (lit 1 tt) tt).read ∙ ap (λ (z : ℤ). shr_z z 8 +ℤ pos 1) c.outermost-last.ensures in
    subst⁻¹ (Kept (no_sample a.e) a.x0 a.x1) (c.within.ensures ∙ (λ i. range_of (f i) (l i) a.x0 a.x1)) (kept_pixels a.e a.x0 a.x1 c.requires.0)

pub returns-clause-fits : goal.returns-clause-fits
returns-clause-fits c =
    let a = c.args in
    let f = (part (got c.outermost-first.result c.outermost-first.type_inv) 8 tt).read ∙ ap (λ (z : ℤ). shr_z z 8) c.outermost-first.ensures in
    let l = (add (part (got c.outermost-last.result c.outermost-last.type_inv) 8 tt) (lit 1 tt) tt).read ∙ ap (λ (z : ℤ). shr_z z 8 +ℤ pos 1) c.outermost-last.ensures in
    subst⁻¹ (Inner (Between a.e) a.x0 a.x1) (c.within.ensures ∙ (λ i. range_of (f i) (l i) a.x0 a.x1)) (between_pixels a.e a.x0 a.x1 c.requires.0 c.requires.1)
