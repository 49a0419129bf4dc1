-- To be believed. A draw in the C interface: its geometry from plain values, and what a pixel of it emits as a struct. Definitions only.
use Rattle.std.specs.Prelude.{ℕ, Bool, List, [], ◌∷◌, Float, Option, None, Some}
use Rattle.num_float.specs.Color.{f0}
use Rattle.raster_pixel.specs.declared.Fragment.{Fragment}
use Rattle.raster_pixel.specs.declared.Geometry.{Geometry}
use Rattle.raster_pixel.specs.declared.Geometry.TheVariants.{Nothing, Triangles, Rectangle}
use Rattle.c_draw.specs.declared.GeometryParts.{GeometryParts}
use Rattle.c_draw.specs.declared.FragmentAnswer.{FragmentAnswer}
use Rattle.c_emitted.specs.Emitted.{emitted_pixel}
use Rattle.c_types.specs.declared.Mode.{Mode}
use Rattle.c_types.specs.declared.Parts.{Parts}
use Rattle.c_types.specs.Convert.{numbered, combiner_from}
use Rattle.combiner.specs.Means.{no_color}

abbrev pub geometries : GeometryParts → List Geometry
geometries p = Nothing ∷ Triangles ∷ Rectangle (record { left = p.left; top = p.top; right = p.right; bottom = p.bottom }) ∷ []

-- from 3 up Nothing
unfoldable pub geometry_from : GeometryParts → Geometry
geometry_from p = numbered (geometries p) Nothing p.kind

-- what pixel (x, y) of triangle i, or of the rectangle, emits
abbrev pub emitted_from : Mode → Parts → Bool → GeometryParts → List Float → List ℕ → List ℕ → ℕ → ℕ → ℕ → Option Fragment
emitted_from mode combiner cull geometry vs ps is i y x =
    emitted_pixel mode.antialias (combiner_from combiner) cull (geometry_from geometry) vs ps is i y x

-- where nothing is emitted all is 0; a mask that is emitted never is
abbrev pub fragment_answer : Option Fragment → FragmentAnswer
fragment_answer None = record { mask = 0; rgba = no_color; shade_alpha = f0 }
fragment_answer (Some x) = record { mask = x.mask; rgba = x.color; shade_alpha = x.shade_alpha }
