-- To be believed. The colour word of a combiner that gives one constant colour, each channel of it empty or full. Definitions only.
-- Source: Combiner::strict_color of writeback.rs; the word has five bits each of red, green and blue from the top (N64 Programming Manual, 16-bit
-- RGBA frame buffer).
use Rattle.std.specs.Prelude.{ℕ, ◌+◌, Bool, false, ◌&&◌, ◌||◌, List, [], ◌∷◌, Float, Option, Some, None, if◌then◌else◌, ◌==◌}
use Rattle.std.specs.Float.Ieee.{eq}
use Rattle.num_float.specs.Color.{f0, f1}
use Rattle.state.specs.declared.Rgba.{Rgba}
use Rattle.combiner_inputs.specs.declared.CycleSel.{CycleSel}
use Rattle.combiner_inputs.specs.declared.ColorIn.{ColorIn}
use Rattle.combiner_inputs.specs.declared.ColorIn.TheVariants as cin
use Rattle.combiner_inputs.specs.declared.AlphaIn.{AlphaIn}
use Rattle.combiner_inputs.specs.declared.AlphaIn.TheVariants as ain
use Rattle.combiner_inputs.specs.Inputs.{color_number, alpha_number}
use Rattle.combiner.specs.declared.Combiner.{Combiner}
use Rattle.combiner.specs.Combine.{color_of, full_shade}

-- whether x is one of a list, by a numbering
abbrev pub among : {E : Type 0} → (E → ℕ) → List E → E → Bool
among number [] x = false
among number (y ∷ ys) x = number x == number y || among number ys x

-- Zero alone: Combined is also read as 0.0, and does not count
unfoldable pub zero_color : ColorIn → Bool
zero_color x = among color_number (cin.Zero ∷ []) x

unfoldable pub zero_alpha : AlphaIn → Bool
zero_alpha x = among alpha_number (ain.Zero ∷ []) x

-- a constant that turns on neither shade nor texture
unfoldable pub constant_color : ColorIn → Bool
constant_color x = among color_number (cin.Primitive ∷ cin.Environment ∷ cin.One ∷ cin.Zero ∷ []) x

unfoldable pub constant_alpha : AlphaIn → Bool
constant_alpha x = among alpha_number (ain.Primitive ∷ ain.Environment ∷ ain.One ∷ []) x

-- (0 - 0) * 0 + d, of a constant d, in colour and in alpha
unfoldable pub flat : CycleSel → Bool
flat s =
    (zero_color s.ca && zero_color s.cb && zero_color s.cc && constant_color s.cd)
    && (zero_alpha s.aa && zero_alpha s.ab && zero_alpha s.ac && constant_alpha s.ad)

-- empty or full; a NaN is neither
unfoldable pub pure : Float → Bool
pure v = eq v f0 || eq v f1

-- the bits of a channel, if it is full
unfoldable pub filled : Float → ℕ → ℕ
filled v bits = if eq v f1 then bits else 0

-- a colour that is opaque, with every channel empty or full, and its word
abbrev pub is_strict : Rgba → Bool
is_strict c = eq c.a f1 && pure c.r && pure c.g && pure c.b

abbrev pub strict_word : Rgba → ℕ
strict_word c = filled c.r 0xf800 + filled c.g 0x07c0 + filled c.b 0x003e

unfoldable pub word_of : Rgba → Option ℕ
word_of c = if is_strict c then Some (strict_word c) else None

abbrev pub word_of_color : Option Rgba → Option ℕ
word_of_color (Some c) = word_of c
word_of_color None = None

unfoldable pub strict_of : Combiner → Option ℕ
strict_of k = if flat k.selectors then word_of_color (color_of k full_shade) else None
