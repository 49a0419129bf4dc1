-- Inner vocabulary. What is known of a pixel's colour ahead of the memory: one that is opaque, of whose colour the memory has no part, and one that is layered,
-- whose colour is a sum with the memory's. Definitions only, for contracts of inner functions; that they are what the rules give is proofs/Colorings.
use Rattle.std.specs.Prelude.{ℕ, ◌≡◌, true, Float, Option, Some, None, if◌then◌else◌}
use Rattle.std.specs.Float.{binary32}
use Rattle.std.specs.Float.Ieee.{add, mul}
use Rattle.num_float.specs.Whole.{byte_of}
use Rattle.state.specs.declared.RenderMode.{RenderMode}
use Rattle.state.specs.declared.Rgba.{Rgba}
use Rattle.state.specs.declared.Rgba8.{Rgba8}
use Rattle.combiner.specs.declared.Combiner.{Combiner}
use Rattle.blender.specs.declared.Source.{Source}
use Rattle.blender.specs.declared.layer.Layer.{Layer}
use Rattle.blender.specs.Layer.{own_of, layered_of, layer_of, opaque_of}
use Rattle.frame_pixel.specs.declared.Pixel.{Pixel}
use Rattle.frame_pixel.specs.declared.Coloring.{Coloring}
use Rattle.frame_pixel.specs.declared.Coloring.TheVariants.{Opaque, Layered, Blended}
use Rattle.frame_pixel.specs.declared.Colors.{Colors}
use Rattle.frame_pixel.specs.Rules.{unit, known_after, colors_after}

-- what a frame stores of a colour in bytes: no alpha
abbrev pub stored_of : Rgba8 → Colors
stored_of bytes = record { red = bytes.r; green = bytes.g; blue = bytes.b }

-- the bytes of a pixel's own colour
abbrev pub colors_of : Rgba → Colors
colors_of c = record { red = byte_of c.r; green = byte_of c.g; blue = byte_of c.b }

unfoldable pub own_colors : RenderMode → Combiner → Rgba → Colors
own_colors mode k color = colors_of (own_of mode k color)

-- and those of a layered pixel over the memory's
abbrev pub over_byte : Float → Float → ℕ → ℕ
over_byte part share byte = byte_of (add binary32 part (mul binary32 (unit byte) share))

unfoldable pub over_colors : Layer → Colors → Colors
over_colors l c = record { red = over_byte l.r l.share c.red; green = over_byte l.g l.share c.green; blue = over_byte l.b l.share c.blue }

-- what is known ahead of a pixel of this colour; of any it may be that nothing is
unfoldable pub ColoringOf : RenderMode → Combiner → Rgba → Coloring → Type 0
ColoringOf mode k color (Opaque colors) = (opaque_of mode color.a ≡ true) × (colors ≡ own_colors mode k color)
ColoringOf mode k color (Layered l) = (layered_of mode color.a ≡ true) × (l ≡ layer_of mode k color)
ColoringOf mode k color Blended = Unit

-- the colours after an emitted pixel, if they are then known
abbrev pub colored_of : RenderMode → Combiner → Source → Pixel → Option Colors
colored_of mode k s x = if known_after mode s x then Some (colors_after mode k s x) else None
