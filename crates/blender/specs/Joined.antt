-- Inner vocabulary. `color_known` and `blend` of a pixel that is handed over once. Definitions only. Source: docs/RULES.md, F1 and F3.
use Rattle.std.specs.Prelude.{Option, Some, None, is_some, unwrap_or, if◌then◌else◌}
use Rattle.num_float.specs.Color.{f0}
use Rattle.state.specs.declared.RenderMode.{RenderMode}
use Rattle.state.specs.declared.Rgba.{Rgba}
use Rattle.state.specs.declared.Rgba8.{Rgba8}
use Rattle.combiner.specs.declared.Combiner.{Combiner}
use Rattle.blender.specs.Coverage.{Coverage}
use Rattle.blender.specs.declared.Source.{Source}
use Rattle.blender.specs.Known.{color_known}
use Rattle.blender.specs.Blend.{or_zero, blend_of}

-- a colour that is not known is passed as zeros
abbrev pub or_zeros : Option Rgba → Rgba
or_zeros memory = unwrap_or memory (record { r = f0; g = f0; b = f0; a = f0 })

-- nothing where `color_known` says no, else the bytes of `blend`
unfoldable pub joined : RenderMode → Combiner → Source → Coverage → Option Rgba → Option Rgba8
joined mode k s coverage m =
    if color_known mode s.color.a s.count coverage (is_some m)
    then Some (blend_of mode k s.color (or_zeros m) s.shade_alpha s.count (or_zero coverage))
    else None
