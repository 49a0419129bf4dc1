use Rattle.std.proofs.Common.{◌∙◌, arith}
use Rattle.std.proofs.lemmas.Grind.{common_steps}
use Rattle.rasterize_slow.proofs.Emitted.{rectangle-fragment}
use Rattle.c_emitted.specs.Emitted.{emitted_pixel}
use Rattle.c_emitted.proofs.pixel.Goals as goal

pub returns-in-Rectangle : goal.returns-in-Rectangle
unfolding emitted_pixel
returns-in-Rectangle c =
    let a = c.args in
    let e = c.pixel.ensures ∙ rectangle-fragment a.antialias a.combiner a.y a.x c.in-Rectangle.sides in
    grind (arith, common_steps)
