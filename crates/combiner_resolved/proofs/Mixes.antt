-- A resolved gives the combiner's colour. For each selector whose input is there, what the operand takes is what the selector names; a colour is none
-- where one of its sixteen inputs is, so that a combiner that `new` made has each of them.
use mathlib.Core.Path.{◌≡◌, refl, sym, ap, ◌∙◌}
use Prim.Native.Nat.{ℕ}
use mathlib.Core.Bool.{Bool, true, false, cond, ◌||◌, true≢false}
use lib.Ieee.{Float}
use Rattle.std.specs.Prelude.{Option, Some, is_none}
use Rattle.num_float.specs.Color.{channel_of}
use Rattle.state.specs.declared.CombinerUniform.{CombinerUniform}
use Rattle.state.specs.declared.RenderMode.{RenderMode}
use Rattle.state.specs.declared.Rgba.{Rgba}
use Rattle.combiner_inputs.specs.declared.ColorIn.{ColorIn}
use Rattle.combiner_inputs.specs.declared.ColorIn.TheVariants as cin
use Rattle.combiner_inputs.specs.declared.AlphaIn.{AlphaIn}
use Rattle.combiner_inputs.specs.declared.AlphaIn.TheVariants as ain
use Rattle.combiner.specs.declared.Combiner.{Combiner}
use Rattle.combiner.specs.Combine.{element, color_input, alpha_input, mixed, joined, channel_at, alpha_at, color_of, full_shade}
use Rattle.combiner_inputs.specs.Inputs.{color_number, alpha_number}
use Rattle.combiner.specs.New.{new_of}
use Rattle.combiner_resolved.specs.Shaded.{shade_alpha}
use Rattle.combiner_resolved.specs.Resolved.{input_of, input_by, channels_of, mixed_by, color_value, or_zero, shade_flag, shade_alpha_flag, kind_of, operand_of, resolved_of}
use Rattle.combiner.proofs.Known.{mixed_missing, joined_missing, new_colors}
use Rattle.combiner_resolved.proofs.Flat.{left, right}

-- ---- the inputs
-- a channel of a colour, by whether it is the shade's and whether it is the shade's alpha
abbrev taken_by : Bool → Bool → Float → Float → Float → Float
taken_by p q constant shade alpha = cond p shade (cond q alpha constant)

-- an operand of the kind for three answers has in each channel what they say
input_kind : (p q r : Bool) (k s : Rgba) → input_of (kind_of p q r) k s
    ≡ record { r = taken_by p q k.r s.r s.a; g = taken_by p q k.g s.g s.a; b = taken_by p q k.b s.b s.a; a = cond r s.a k.a }
unfolding input_of kind_of
input_kind true q true k s = refl
input_kind true q false k s = refl
input_kind false true true k s = refl
input_kind false true false k s = refl
input_kind false false true k s = refl
input_kind false false false k s = refl

-- what an operand takes in channel i of a colour, and in alpha
abbrev color_taken : Combiner → ColorIn → Rgba → ℕ → Float
color_taken k x s i = taken_by (shade_flag x) (shade_alpha_flag x) (or_zero (color_input k x full_shade i)) (element s i) s.a

abbrev alpha_taken : Combiner → AlphaIn → Rgba → Float
alpha_taken k x s = cond (shade_alpha x) s.a (or_zero (alpha_input k x full_shade))

color-taken : (k : Combiner) (x : ColorIn) (s : Rgba) (i : ℕ) → is_none (color_input k x s i) ≡ false → color_input k x s i ≡ Some (color_taken k x s i)
unfolding color_input or_zero shade_flag shade_alpha_flag color_number
color-taken k cin.Combined s i h = refl
color-taken k cin.Texel0 s i h = absurd (true≢false h)
color-taken k cin.Primitive s i h = refl
color-taken k cin.Shade s i h = refl
color-taken k cin.Environment s i h = refl
color-taken k cin.Zero s i h = refl
color-taken k cin.One s i h = refl
color-taken k cin.Texel1 s i h = absurd (true≢false h)
color-taken k cin.KeyCenter s i h = absurd (true≢false h)
color-taken k cin.K4 s i h = absurd (true≢false h)
color-taken k cin.KeyScale s i h = absurd (true≢false h)
color-taken k cin.CombinedAlpha s i h = refl
color-taken k cin.Texel0Alpha s i h = absurd (true≢false h)
color-taken k cin.Texel1Alpha s i h = absurd (true≢false h)
color-taken k cin.PrimitiveAlpha s i h = refl
color-taken k cin.ShadeAlpha s i h = refl
color-taken k cin.EnvAlpha s i h = refl
color-taken k cin.LodFraction s i h = refl
color-taken k cin.PrimLodFrac s i h = refl
color-taken k cin.K5 s i h = absurd (true≢false h)
color-taken k cin.Noise s i h = absurd (true≢false h)

alpha-taken : (k : Combiner) (x : AlphaIn) (s : Rgba) → is_none (alpha_input k x s) ≡ false → alpha_input k x s ≡ Some (alpha_taken k x s)
unfolding alpha_input or_zero shade_alpha alpha_number
alpha-taken k ain.Combined s h = refl
alpha-taken k ain.Texel0 s h = absurd (true≢false h)
alpha-taken k ain.Primitive s h = refl
alpha-taken k ain.Shade s h = refl
alpha-taken k ain.Environment s h = refl
alpha-taken k ain.Zero s h = refl
alpha-taken k ain.One s h = refl
alpha-taken k ain.Texel1 s h = absurd (true≢false h)
alpha-taken k ain.LodFraction s h = refl
alpha-taken k ain.PrimLodFrac s h = refl

-- ---- four inputs, each of them there, and each of which is what an operand takes
module _ {E : Type 0} (input : E → Option Float) (taken : E → Float) (is : (x : E) → is_none (input x) ≡ false → input x ≡ Some (taken x)) where
  mixed_taken : (a b c d : E) → is_none (mixed (input a) (input b) (input c) (input d)) ≡ false
      → mixed (input a) (input b) (input c) (input d) ≡ Some (channel_of (taken a) (taken b) (taken c) (taken d))
  unfolding mixed
  mixed_taken a b c d h =
      let none = sym (mixed_missing (input a) (input b) (input c) (input d)) ∙ h in
      let hd = right (is_none (input a) || is_none (input b) || is_none (input c)) (is_none (input d)) none in
      let h3 = left (is_none (input a) || is_none (input b) || is_none (input c)) (is_none (input d)) none in
      let hc = right (is_none (input a) || is_none (input b)) (is_none (input c)) h3 in
      let h2 = left (is_none (input a) || is_none (input b)) (is_none (input c)) h3 in
      λ i. mixed (is a (left (is_none (input a)) (is_none (input b)) h2) i) (is b (right (is_none (input a)) (is_none (input b)) h2) i) (is c hc i) (is d hd i)

-- ---- the colour
-- a colour that is there is the resolved's
pub mixes : (k : Combiner) (s : Rgba) → is_none (color_of k s) ≡ false → color_of k s ≡ color_value (mixed_by (resolved_of k) s)
unfolding color_of channel_at alpha_at joined element input_by channels_of mixed_by operand_of resolved_of
mixes k s h =
    let l = k.selectors in
    let none = sym (joined_missing (channel_at k s 0) (channel_at k s 1) (channel_at k s 2) (alpha_at k s)) ∙ h in
    let ha = right (is_none (channel_at k s 0) || is_none (channel_at k s 1) || is_none (channel_at k s 2)) (is_none (alpha_at k s)) none in
    let h3 = left (is_none (channel_at k s 0) || is_none (channel_at k s 1) || is_none (channel_at k s 2)) (is_none (alpha_at k s)) none in
    let hb = right (is_none (channel_at k s 0) || is_none (channel_at k s 1)) (is_none (channel_at k s 2)) h3 in
    let h2 = left (is_none (channel_at k s 0) || is_none (channel_at k s 1)) (is_none (channel_at k s 2)) h3 in
    let channel : (i : ℕ) → is_none (channel_at k s i) ≡ false → channel_at k s i ≡ Some (channel_of (color_taken k l.ca s i) (color_taken k l.cb s i) (color_taken k l.cc s i) (color_taken k l.cd s i)) =
    λ i. mixed_taken (λ x. color_input k x s i) (λ x. color_taken k x s i) (λ x. color-taken k x s i) l.ca l.cb l.cc l.cd in
    let r = channel 0 (left (is_none (channel_at k s 0)) (is_none (channel_at k s 1)) h2) in
    let g = channel 1 (right (is_none (channel_at k s 0)) (is_none (channel_at k s 1)) h2) in
    let b = channel 2 hb in
    let a = mixed_taken (λ x. alpha_input k x s) (λ x. alpha_taken k x s) (λ x. alpha-taken k x s) l.aa l.ab l.ac l.ad ha in
    let input : (x : ColorIn) (y : AlphaIn) → input_by (operand_of k x y) s ≡ record { r = color_taken k x s 0; g = color_taken k x s 1; b = color_taken k x s 2; a = alpha_taken k y s } =
    λ x y. input_kind (shade_flag x) (shade_alpha_flag x) (shade_alpha y) (operand_of k x y).constant s in
    (λ i. joined (r i) (g i) (b i) (a i))
    ∙ sym (λ i. color_value (channels_of (input l.ca l.aa i) (input l.cb l.ab i) (input l.cc l.ac i) (input l.cd l.ad i)))

-- A combiner that `new` made has, for every shade, the colour of its resolved.
pub new_mixes : (u : CombinerUniform) (m : RenderMode) {k : Combiner} → new_of u m ≡ Some k → (s : Rgba) → color_of k s ≡ color_value (mixed_by (resolved_of k) s)
new_mixes u m {k} h s = mixes k s (ap is_none (new_colors u m h s).is)
