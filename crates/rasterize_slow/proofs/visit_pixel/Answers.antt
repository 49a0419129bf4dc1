use Rattle.std.proofs.Common.{Option, IfSome, sym, ◌∙◌, subst}
use Rattle.raster_pixel.specs.declared.Fragment.{Fragment}
use Rattle.rasterize_slow.proofs.Samples.{HasSample, optional_some}
use Rattle.rasterize_slow.proofs.visit_pixel.Goals as goal

pub emit-requires-clause-sample : goal.emit-requires-clause-sample
emit-requires-clause-sample g c =
    let a = c.args in
    (subst (λ (f : Option Fragment). IfSome f HasSample) (sym c.pixel.ensures ∙ c.in-Some.is) (optional_some a.shapes.now.mode.antialias a.shapes.now.combiner a.shape.now a.y a.x)).0
