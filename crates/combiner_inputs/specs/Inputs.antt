-- To be believed. The inputs of the colour combiner by number: their order in combiner.rs, and the number by which the C interface hands each one over. Definitions only.
-- A decoder turns nothing away, so its answer is an input and nothing else: this is the number of every case of it.
use Rattle.std.specs.Prelude.{ℕ}
use Rattle.combiner_inputs.specs.declared.ColorIn.{ColorIn}
use Rattle.combiner_inputs.specs.declared.ColorIn.TheVariants as cin
use Rattle.combiner_inputs.specs.declared.AlphaIn.{AlphaIn}
use Rattle.combiner_inputs.specs.declared.AlphaIn.TheVariants as ain

unfoldable pub color_number : ColorIn → ℕ
color_number cin.Combined = 0
color_number cin.Texel0 = 1
color_number cin.Primitive = 2
color_number cin.Shade = 3
color_number cin.Environment = 4
color_number cin.Zero = 5
color_number cin.One = 6
color_number cin.Texel1 = 7
color_number cin.KeyCenter = 8
color_number cin.K4 = 9
color_number cin.KeyScale = 10
color_number cin.CombinedAlpha = 11
color_number cin.Texel0Alpha = 12
color_number cin.Texel1Alpha = 13
color_number cin.PrimitiveAlpha = 14
color_number cin.ShadeAlpha = 15
color_number cin.EnvAlpha = 16
color_number cin.LodFraction = 17
color_number cin.PrimLodFrac = 18
color_number cin.K5 = 19
color_number cin.Noise = 20

unfoldable pub alpha_number : AlphaIn → ℕ
alpha_number ain.Combined = 0
alpha_number ain.Texel0 = 1
alpha_number ain.Primitive = 2
alpha_number ain.Shade = 3
alpha_number ain.Environment = 4
alpha_number ain.Zero = 5
alpha_number ain.One = 6
alpha_number ain.Texel1 = 7
alpha_number ain.LodFraction = 8
alpha_number ain.PrimLodFrac = 9
