-- A combiner that does not use the shade gives one colour for every shade. Each selector that does not name the shade names one number, whatever the shade.
use mathlib.Core.Path.{◌≡◌, refl}
use Prim.Native.Nat.{ℕ}
use mathlib.Core.Bool.{Bool, true, false, ◌||◌, true≢false}
use Rattle.state.specs.declared.Rgba.{Rgba}
use Rattle.combiner_inputs.specs.declared.ColorIn.{ColorIn}
use Rattle.combiner_inputs.specs.declared.ColorIn.TheVariants as cin
use Rattle.combiner_inputs.specs.declared.AlphaIn.{AlphaIn}
use Rattle.combiner_inputs.specs.declared.AlphaIn.TheVariants as ain
use Rattle.combiner.specs.declared.Combiner.{Combiner}
use Rattle.combiner.specs.Combine.{color_input, alpha_input, mixed, joined, channel_at, alpha_at, color_of}
use Rattle.combiner_inputs.specs.Inputs.{color_number, alpha_number}
use Rattle.combiner_resolved.specs.Shaded.{shade_color, shade_alpha, shade_used}

-- ---- the inputs
color_input_flat : (k : Combiner) (x : ColorIn) (s t : Rgba) (i : ℕ) → shade_color x ≡ false → color_input k x s i ≡ color_input k x t i
unfolding color_input shade_color color_number
color_input_flat k cin.Combined s t i h = refl
color_input_flat k cin.Texel0 s t i h = refl
color_input_flat k cin.Primitive s t i h = refl
color_input_flat k cin.Shade s t i h = absurd (true≢false h)
color_input_flat k cin.Environment s t i h = refl
color_input_flat k cin.Zero s t i h = refl
color_input_flat k cin.One s t i h = refl
color_input_flat k cin.Texel1 s t i h = refl
color_input_flat k cin.KeyCenter s t i h = refl
color_input_flat k cin.K4 s t i h = refl
color_input_flat k cin.KeyScale s t i h = refl
color_input_flat k cin.CombinedAlpha s t i h = refl
color_input_flat k cin.Texel0Alpha s t i h = refl
color_input_flat k cin.Texel1Alpha s t i h = refl
color_input_flat k cin.PrimitiveAlpha s t i h = refl
color_input_flat k cin.ShadeAlpha s t i h = absurd (true≢false h)
color_input_flat k cin.EnvAlpha s t i h = refl
color_input_flat k cin.LodFraction s t i h = refl
color_input_flat k cin.PrimLodFrac s t i h = refl
color_input_flat k cin.K5 s t i h = refl
color_input_flat k cin.Noise s t i h = refl

alpha_input_flat : (k : Combiner) (x : AlphaIn) (s t : Rgba) → shade_alpha x ≡ false → alpha_input k x s ≡ alpha_input k x t
unfolding alpha_input shade_alpha alpha_number
alpha_input_flat k ain.Combined s t h = refl
alpha_input_flat k ain.Texel0 s t h = refl
alpha_input_flat k ain.Primitive s t h = refl
alpha_input_flat k ain.Shade s t h = absurd (true≢false h)
alpha_input_flat k ain.Environment s t h = refl
alpha_input_flat k ain.Zero s t h = refl
alpha_input_flat k ain.One s t h = refl
alpha_input_flat k ain.Texel1 s t h = refl
alpha_input_flat k ain.LodFraction s t h = refl
alpha_input_flat k ain.PrimLodFrac s t h = refl

-- ---- of four tests, and of two, none holds
pub left : (a b : Bool) → (a || b) ≡ false → a ≡ false
left false b h = refl
left true b h = h

pub right : (a b : Bool) → (a || b) ≡ false → b ≡ false
right false b h = h
right true b h = absurd (true≢false h)

-- what is made of four inputs, each of which is the same for two shades
module _ {E I : Type 0} (test : E → Bool) (p q : E → I) (same : (x : E) → test x ≡ false → p x ≡ q x) {A : Type 0} (make : I → I → I → I → A) where
  of_four : (a b c d : E) → (test a || test b || test c || test d) ≡ false → make (p a) (p b) (p c) (p d) ≡ make (q a) (q b) (q c) (q d)
  of_four a b c d h =
      let hd = right (test a || test b || test c) (test d) h in
      let h3 = left (test a || test b || test c) (test d) h in
      let hc = right (test a || test b) (test c) h3 in
      let h2 = left (test a || test b) (test c) h3 in
      λ i. make (same a (left (test a) (test b) h2) i) (same b (right (test a) (test b) h2) i) (same c hc i) (same d hd i)

-- ---- the colour
-- A combiner that does not use the shade gives the same colour for any two shades.
pub flat_color : (k : Combiner) (s t : Rgba) → shade_used k ≡ false → color_of k s ≡ color_of k t
unfolding color_of channel_at alpha_at shade_used
flat_color k s t h =
    let l = k.selectors in
    let colors = left (shade_color l.ca || shade_color l.cb || shade_color l.cc || shade_color l.cd) _ h in
    let alphas = right (shade_color l.ca || shade_color l.cb || shade_color l.cc || shade_color l.cd) _ h in
    let channel : (i : ℕ) → channel_at k s i ≡ channel_at k t i =
    λ i. of_four shade_color (λ x. color_input k x s i) (λ x. color_input k x t i) (λ x. color_input_flat k x s t i) mixed l.ca l.cb l.cc l.cd colors in
    let alpha : alpha_at k s ≡ alpha_at k t =
    of_four shade_alpha (λ x. alpha_input k x s) (λ x. alpha_input k x t) (λ x. alpha_input_flat k x s t) mixed l.aa l.ab l.ac l.ad alphas in
    λ n. joined (channel 0 n) (channel 1 n) (channel 2 n) (alpha n)
