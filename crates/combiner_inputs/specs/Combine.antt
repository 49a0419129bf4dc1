-- To be believed. The RDP command Set Combine Mode (0x3C): which input each slot of the colour combiner reads in each cycle. Definitions only.
-- Sources: Nintendo 64 Programming Manual, the colour combiner, and gbi.h's gsDPSetCombineLERP; N64brew wiki, Reality Display
-- Processor/Commands, 0x3C. A channel is (a - b) * c + d, in the papers (sub_a - sub_b) * mul + add.
use Rattle.std.specs.Prelude.{ℕ, ◌+◌, ◌-◌, ◌*◌, ◌%◌, ◌^◌, List, [], ◌∷◌, slice_index_or}
use Rattle.num_bits.specs.Field.{field}
use Rattle.combiner_inputs.specs.declared.ColorIn.{ColorIn}
use Rattle.combiner_inputs.specs.declared.ColorIn.TheVariants as color
use Rattle.combiner_inputs.specs.declared.AlphaIn.{AlphaIn}
use Rattle.combiner_inputs.specs.declared.AlphaIn.TheVariants as alpha
use Rattle.combiner_inputs.specs.declared.CycleSel.{CycleSel}
use Rattle.combiner_inputs.specs.declared.CombinerSelectors.{CombinerSelectors}

-- ---- what the number in a slot's field names: each table from 0 up. A number past its end names Zero.

-- colour, sub_a
unfoldable pub color_a : List ColorIn
color_a =
    color.Combined ∷ color.Texel0 ∷ color.Texel1 ∷ color.Primitive ∷ color.Shade ∷ color.Environment ∷ color.One ∷ color.Noise ∷ []

-- colour, sub_b
unfoldable pub color_b : List ColorIn
color_b =
    color.Combined ∷ color.Texel0 ∷ color.Texel1 ∷ color.Primitive ∷ color.Shade ∷ color.Environment ∷ color.KeyCenter ∷ color.K4 ∷ []

-- colour, mul
unfoldable pub color_c : List ColorIn
color_c =
    color.Combined ∷ color.Texel0 ∷ color.Texel1 ∷ color.Primitive ∷ color.Shade ∷ color.Environment ∷ color.KeyScale ∷ color.CombinedAlpha
    ∷ color.Texel0Alpha ∷ color.Texel1Alpha ∷ color.PrimitiveAlpha ∷ color.ShadeAlpha ∷ color.EnvAlpha ∷ color.LodFraction ∷ color.PrimLodFrac ∷ color.K5 ∷ []

-- colour, add
unfoldable pub color_d : List ColorIn
color_d =
    color.Combined ∷ color.Texel0 ∷ color.Texel1 ∷ color.Primitive ∷ color.Shade ∷ color.Environment ∷ color.One ∷ []

-- alpha, sub_a, sub_b and add
unfoldable pub alpha_abd : List AlphaIn
alpha_abd =
    alpha.Combined ∷ alpha.Texel0 ∷ alpha.Texel1 ∷ alpha.Primitive ∷ alpha.Shade ∷ alpha.Environment ∷ alpha.One ∷ []

-- alpha, mul
unfoldable pub alpha_c : List AlphaIn
alpha_c =
    alpha.LodFraction ∷ alpha.Texel0 ∷ alpha.Texel1 ∷ alpha.Primitive ∷ alpha.Shade ∷ alpha.Environment ∷ alpha.PrimLodFrac ∷ []

-- what the lowest width bits of idx name: an entry of the table, or none past its end
unfoldable pub select : {E : Type 0} → List E → E → ℕ → ℕ → E
select table none width idx = slice_index_or table (idx % 2 ^ width) none

-- ---- where the fields stand

-- the 64-bit command: l is its upper word, h its lower
unfoldable pub command : ℕ → ℕ → ℕ
command l h = l * 2 ^ 32 + h

-- the bits hi down to lo of the command w, as the papers write a field
abbrev pub at : ℕ → ℕ → ℕ → ℕ
at hi lo w = field w lo (hi + 1 - lo)

-- the first cycle, the papers' cycle 0
unfoldable pub cycle0 : ℕ → ℕ → CycleSel
cycle0 l h =
    let w = command l h in
    record {
      ca = select color_a color.Zero 4 (at 55 52 w);
      cb = select color_b color.Zero 4 (at 31 28 w);
      cc = select color_c color.Zero 5 (at 51 47 w);
      cd = select color_d color.Zero 3 (at 17 15 w);
      aa = select alpha_abd alpha.Zero 3 (at 46 44 w);
      ab = select alpha_abd alpha.Zero 3 (at 14 12 w);
      ac = select alpha_c alpha.Zero 3 (at 43 41 w);
      ad = select alpha_abd alpha.Zero 3 (at 11 9 w);
    }

-- the second cycle, the papers' cycle 1; one-cycle mode reads this one
unfoldable pub cycle1 : ℕ → ℕ → CycleSel
cycle1 l h =
    let w = command l h in
    record {
      ca = select color_a color.Zero 4 (at 40 37 w);
      cb = select color_b color.Zero 4 (at 27 24 w);
      cc = select color_c color.Zero 5 (at 36 32 w);
      cd = select color_d color.Zero 3 (at 8 6 w);
      aa = select alpha_abd alpha.Zero 3 (at 23 21 w);
      ab = select alpha_abd alpha.Zero 3 (at 5 3 w);
      ac = select alpha_c alpha.Zero 3 (at 20 18 w);
      ad = select alpha_abd alpha.Zero 3 (at 2 0 w);
    }

-- both cycles, with the words that they come from
abbrev pub combine_of : ℕ → ℕ → CombinerSelectors
combine_of l h = record { raw_l = l; raw_h = h; cyc0 = cycle0 l h; cyc1 = cycle1 l h }
