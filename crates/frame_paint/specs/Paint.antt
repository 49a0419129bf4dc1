-- Inner vocabulary. What is worked out once a draw. Definitions only.
use Rattle.std.specs.Prelude.{◌≡◌, true, Option, unwrap_or}
use Rattle.state.specs.declared.RenderMode.{RenderMode}
use Rattle.state.specs.declared.Rgba.{Rgba}
use Rattle.combiner.specs.declared.Combiner.{Combiner}
use Rattle.blender.specs.Layer.{opaque_of}
use Rattle.frame_pixel.specs.declared.Colors.{Colors}
use Rattle.frame_pixel.specs.Coloring.{colors_of, own_colors}

-- the bytes of an opaque pixel of any colour: the same for all, else its own
abbrev pub Own : RenderMode → Combiner → Option Colors → Type 0
Own mode k own = (color : Rgba) → opaque_of mode color.a ≡ true → unwrap_or own (colors_of color) ≡ own_colors mode k color
