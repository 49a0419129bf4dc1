-- To be believed. The checks of the Rust's `admitted` on three vertices. Definitions only. Source: writeback.rs, `admitted`, its checks in its order; docs/RULES.md, Admitted draws,
-- numbers them.
use Rattle.std.specs.Prelude.{ℕ, ◌+◌, ◌*◌, Bool, true, false, not, ◌&&◌, ◌||◌, List, Float, length, Option, Some, None, if◌then◌else◌, ◌==◌, nat_lt, nat_le, slice_index_or, slice_index}
use Rattle.std.specs.Float.{nan}
use Rattle.std.specs.Float.Ieee.{ne}
use Rattle.state.specs.declared.Rgba.{Rgba}
use Rattle.combiner_inputs.specs.declared.AlphaIn.{AlphaIn}
use Rattle.combiner_inputs.specs.declared.AlphaIn.TheVariants as alpha
use Rattle.combiner_inputs.specs.declared.CycleSel.{CycleSel}
use Rattle.combiner.specs.declared.Combiner.{Combiner}
use Rattle.combiner.specs.Combine.{color_of}
use Rattle.raster_vertex.specs.declared.Vertex.{Vertex}
use Rattle.raster_vertex.specs.Range.{in_range, finite_color}

-- vertex i: six floats each, in the order x, y, red, green, blue, alpha
abbrev pub vertex_at : List Float → ℕ → Vertex
vertex_at vs i =
    record {
      x = slice_index_or vs (6 * i) nan;
      y = slice_index_or vs (6 * i + 1) nan;
      r = slice_index_or vs (6 * i + 2) nan;
      g = slice_index_or vs (6 * i + 3) nan;
      b = slice_index_or vs (6 * i + 4) nan;
      a = slice_index_or vs (6 * i + 5) nan;
    }

-- an index names a vertex if it is below the number of presence flags, its flag is 1, and its floats are there
unfoldable pub looked_up : List Float → List ℕ → ℕ → Option Vertex
looked_up vs ps i = if nat_lt i (length ps) && slice_index ps i == 1 && nat_le (6 * i + 6) (length vs) then Some (vertex_at vs i) else None

abbrev pub colour_of : Vertex → Rgba
colour_of v = record { r = v.r; g = v.g; b = v.b; a = v.a }

abbrev pub is_shade : AlphaIn → Bool
is_shade alpha.Combined = false
is_shade alpha.Texel0 = false
is_shade alpha.Primitive = false
is_shade alpha.Shade = true
is_shade alpha.Environment = false
is_shade alpha.Zero = false
is_shade alpha.One = false
is_shade alpha.Texel1 = false
is_shade alpha.LodFraction = false
is_shade alpha.PrimLodFrac = false

-- an alpha selector is Shade. A ShadeAlpha colour selector does not count
unfoldable pub uses_shade : CycleSel → Bool
uses_shade s = is_shade s.aa || is_shade s.ab || is_shade s.ac || is_shade s.ad

-- p of one of the three
abbrev pub any : (Vertex → Bool) → Vertex → Vertex → Vertex → Bool
any p a b c = p a || p b || p c

-- a combined colour that there is not, or whose alpha is another one; a NaN differs from itself
abbrev pub alpha_differs : Float → Option Rgba → Bool
alpha_differs x None = true
alpha_differs x (Some c) = ne c.a x

-- checks 5 and 6, from the combined colour of the first vertex
abbrev pub alpha_check : Combiner → Vertex → Vertex → Vertex → Option Rgba → ℕ
alpha_check k a b c None = 5
alpha_check k a b c (Some first) = if any (λ (v : Vertex). alpha_differs first.a (color_of k (colour_of v))) a b c then 6 else 0

-- The first check that fails, in the Rust's order: 2 position, 3 shade alpha, 4 not finite, 5 no colour, 6 alpha differs; 0 for none
unfoldable pub check_of : Combiner → Vertex → Vertex → Vertex → ℕ
check_of k a b c =
    if any (λ (v : Vertex). not (in_range v)) a b c then 2
    else if uses_shade k.selectors && any (λ (v : Vertex). ne v.a a.a) a b c then 3
    else if any (λ (v : Vertex). not (finite_color v)) a b c then 4
    else alpha_check k a b c (color_of k (colour_of a))
