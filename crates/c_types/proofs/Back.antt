-- A combiner that goes out by its numbers and comes back is the same: each case has its own number. Assumes nothing.
use mathlib.Core.Path.{◌≡◌, refl}
use Rattle.combiner_inputs.specs.declared.ColorIn.{ColorIn}
use Rattle.combiner_inputs.specs.declared.ColorIn.TheVariants as cin
use Rattle.combiner_inputs.specs.declared.AlphaIn.{AlphaIn}
use Rattle.combiner_inputs.specs.declared.AlphaIn.TheVariants as ain
use Rattle.combiner_inputs.specs.declared.CycleSel.{CycleSel}
use Rattle.combiner.specs.declared.Combiner.{Combiner}
use Rattle.combiner_inputs.specs.Inputs.{color_number, alpha_number}
use Rattle.c_types.specs.Convert.{color_in_of, alpha_in_of, cycle_from, numbers_of, combiner_from, parts_of}

-- Each case computes to itself. `_` stands for every other case, each checked apart; it is split only below a case that is written out.
color_back : (x : ColorIn) → color_in_of (color_number x) ≡ x
unfolding color_in_of color_number
color_back cin.Combined = refl
color_back _ = refl

alpha_back : (x : AlphaIn) → alpha_in_of (alpha_number x) ≡ x
unfolding alpha_in_of alpha_number
alpha_back ain.Combined = refl
alpha_back _ = refl

cycle_back : (s : CycleSel) → cycle_from (numbers_of s) ≡ s
unfolding cycle_from numbers_of
cycle_back s = simp (color_back, alpha_back)

-- What wb_combiner_new gives can be handed to the calls that take a combiner.
pub combiner_back : (k : Combiner) → combiner_from (parts_of k) ≡ k
unfolding combiner_from parts_of
combiner_back k = simp cycle_back
