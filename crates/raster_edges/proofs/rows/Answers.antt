-- Above its top and from its end a triangle spans nothing.
use mathlib.Core.Path.{◌∙◌, subst⁻¹}
use borrow.Author.Rules.{rules}
use mir.Syntax.{w64}
use mir.Val.{SFits}
use Rattle.raster_range.specs.Kept.{Kept}
use Rattle.raster_edge.specs.Bound.{range_of}
use Rattle.raster_edges.specs.Bound.{no_row}
use Rattle.raster_edge.proofs.Held.{any, lit, add, part}
use Rattle.raster_edges.proofs.Outside.{kept_rows}
use Rattle.raster_edges.proofs.rows.Goals as goal

pub returns : goal.returns
returns c =
    let a = c.args in
    let top : SFits w64 a.t.top = search rules in
    let end : SFits w64 a.t.end = search rules in
    let l = (part (any top) 4 tt).read in
    let r = (add (part (any end) 4 tt) (lit 1 tt) tt).read in
    subst⁻¹ (Kept (no_row a.t) a.y0 a.y1) (c.within.ensures ∙ (λ i. range_of (l i) (r i) a.y0 a.y1)) (kept_rows a.t a.y0 a.y1 c.requires)
