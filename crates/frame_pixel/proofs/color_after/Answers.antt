use mathlib.Core.Path.{ap, subst, ◌∙◌}
use mathlib.Core.Bool.{cond}
use Rattle.std.specs.Prelude.{Some, None}
use Rattle.blender.proofs.Solid.{opaque}
use Rattle.blender.proofs.Layers.{layered}
use Rattle.frame_pixel.specs.Marks.{color_marked}
use Rattle.frame_pixel.specs.Rules.{rule_f4}
use Rattle.frame_pixel.specs.Coloring.{over_colors, ColoringOf}
use Rattle.frame_pixel.proofs.Colorings.{opaque_colored, layered_colored}
use Rattle.frame_pixel.proofs.color_after.Goals as goal

pub returns-in-Opaque : goal.returns-in-Opaque
unfolding ColoringOf
returns-in-Opaque c =
    let a = c.args in
    let o = subst (ColoringOf a.mode a.combiner a.source.color) c.in-Opaque.is c.requires in
    ap Some o.1 ∙ opaque_colored a.mode a.combiner a.source a.bytes (opaque a.mode a.source.color.a o.0)

pub returns-in-Layered : goal.returns-in-Layered
unfolding ColoringOf
returns-in-Layered c =
    let a = c.args in
    let o = subst (ColoringOf a.mode a.combiner a.source.color) c.in-Layered.is c.requires in
    c.laid.ensures
    ∙ (λ i. cond (color_marked a.bytes.mark) (Some (over_colors (o.1 i) (rule_f4 a.bytes))) None)
    ∙ layered_colored a.mode a.combiner a.source a.bytes (layered a.mode a.source.color.a o.0)
