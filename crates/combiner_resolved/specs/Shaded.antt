-- Inner vocabulary. Whether a combiner's colour turns on the shade: whether one of its eight selectors names it. Definitions only.
-- Source: the inputs Shade and Shade Alpha of the color combiner (N64 Programming Manual, chapter on the color combiner; Combiner::color of writeback.rs).
use Rattle.std.specs.Prelude.{Bool, ◌||◌, [], ◌∷◌}
use Rattle.combiner_inputs.specs.declared.ColorIn.{ColorIn}
use Rattle.combiner_inputs.specs.declared.ColorIn.TheVariants as cin
use Rattle.combiner_inputs.specs.declared.AlphaIn.{AlphaIn}
use Rattle.combiner_inputs.specs.declared.AlphaIn.TheVariants as ain
use Rattle.combiner.specs.declared.Combiner.{Combiner}
use Rattle.combiner.specs.Strict.{among}
use Rattle.combiner_inputs.specs.Inputs.{color_number, alpha_number}

unfoldable pub shade_color : ColorIn → Bool
shade_color x = among color_number (cin.Shade ∷ cin.ShadeAlpha ∷ []) x

unfoldable pub shade_alpha : AlphaIn → Bool
shade_alpha x = among alpha_number (ain.Shade ∷ []) x

unfoldable pub shade_used : Combiner → Bool
shade_used k =
    (shade_color k.selectors.ca || shade_color k.selectors.cb || shade_color k.selectors.cc || shade_color k.selectors.cd)
    || (shade_alpha k.selectors.aa || shade_alpha k.selectors.ab || shade_alpha k.selectors.ac || shade_alpha k.selectors.ad)
