-- Inner vocabulary. A combiner resolved once for a draw: each of its inputs as a constant or a part of the shade, and the colour that this gives. Definitions only.
-- Source: Combiner::color of writeback.rs, of which this is a faster form; that the colours are the same is the law `new_mixes` (proofs/Mixes).
use Rattle.std.specs.Prelude.{◌≡◌, Bool, true, false, [], ◌∷◌, Float, Option, Some, None}
use Rattle.num_float.specs.Color.{f0, channel_of}
use Rattle.state.specs.declared.Rgba.{Rgba}
use Rattle.combiner_inputs.specs.declared.ColorIn.{ColorIn}
use Rattle.combiner_inputs.specs.declared.ColorIn.TheVariants as cin
use Rattle.combiner_inputs.specs.declared.AlphaIn.{AlphaIn}
use Rattle.combiner.specs.declared.Combiner.{Combiner}
use Rattle.combiner_resolved.specs.declared.Kind.{Kind}
use Rattle.combiner_resolved.specs.declared.Kind.TheVariants.{Constant, ConstantShade, ShadeConstant, Shade, AlphaConstant, Alpha}
use Rattle.combiner_resolved.specs.declared.Operand.{Operand}
use Rattle.combiner_resolved.specs.declared.Resolved.{Resolved}
use Rattle.combiner.specs.Combine.{color_input, alpha_input, color_of, full_shade}
use Rattle.combiner.specs.Strict.{among}
use Rattle.combiner_inputs.specs.Inputs.{color_number}
use Rattle.combiner_resolved.specs.Shaded.{shade_alpha}

-- ---- a pixel
-- what an operand is, by its kind and its constant
unfoldable pub input_of : Kind → Rgba → Rgba → Rgba
input_of Constant k s = k
input_of ConstantShade k s = record { r = k.r; g = k.g; b = k.b; a = s.a }
input_of ShadeConstant k s = record { r = s.r; g = s.g; b = s.b; a = k.a }
input_of Shade k s = s
input_of AlphaConstant k s = record { r = s.a; g = s.a; b = s.a; a = k.a }
input_of Alpha k s = record { r = s.a; g = s.a; b = s.a; a = s.a }

unfoldable pub input_by : Operand → Rgba → Rgba
input_by o s = input_of o.kind o.constant s

-- (a - b) * c + d in each channel
unfoldable pub channels_of : Rgba → Rgba → Rgba → Rgba → Rgba
channels_of a b c d =
    record {
      r = channel_of a.r b.r c.r d.r;
      g = channel_of a.g b.g c.g d.g;
      b = channel_of a.b b.b c.b d.b;
      a = channel_of a.a b.a c.a d.a;
    }

-- the colour for a shade
unfoldable pub mixed_by : Resolved → Rgba → Rgba
mixed_by m s = channels_of (input_by m.a s) (input_by m.b s) (input_by m.c s) (input_by m.d s)

-- a colour that is there
abbrev pub color_value : Rgba → Option Rgba
color_value c = Some c

-- ---- a draw
unfoldable pub or_zero : Option Float → Float
or_zero (Some x) = x
or_zero None = f0

unfoldable pub shade_flag : ColorIn → Bool
shade_flag x = among color_number (cin.Shade ∷ []) x

unfoldable pub shade_alpha_flag : ColorIn → Bool
shade_alpha_flag x = among color_number (cin.ShadeAlpha ∷ []) x

-- by whether the colour is the shade's, whether it is the shade's alpha, and whether alpha is the shade's
unfoldable pub kind_of : Bool → Bool → Bool → Kind
kind_of true q true = Shade
kind_of true q false = ShadeConstant
kind_of false true true = Alpha
kind_of false true false = AlphaConstant
kind_of false false true = ConstantShade
kind_of false false false = Constant

-- what a colour selector and an alpha selector name; an input that is not there counts as 0.0
unfoldable pub operand_of : Combiner → ColorIn → AlphaIn → Operand
operand_of k x y =
    record {
      kind = kind_of (shade_flag x) (shade_alpha_flag x) (shade_alpha y);
      constant =
          record {
            r = or_zero (color_input k x full_shade 0);
            g = or_zero (color_input k x full_shade 1);
            b = or_zero (color_input k x full_shade 2);
            a = or_zero (alpha_input k y full_shade);
          };
    }

-- the combiner's four inputs
unfoldable pub resolved_of : Combiner → Resolved
resolved_of k =
    record {
      a = operand_of k k.selectors.ca k.selectors.aa;
      b = operand_of k k.selectors.cb k.selectors.ab;
      c = operand_of k k.selectors.cc k.selectors.ac;
      d = operand_of k k.selectors.cd k.selectors.ad;
    }

-- a combiner has a colour for every shade, as those that `new` makes have
abbrev pub Mixed : Combiner → Type 0
Mixed k = (s : Rgba) → color_of k s ≡ color_value (mixed_by (resolved_of k) s)
