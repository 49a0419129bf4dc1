-- Whether a combiner gives a colour does not turn on the shade, so a combiner that `new` makes gives one for every shade. Selectors decide
-- whether an input is there, and a colour is none where one of its sixteen inputs is.
use mathlib.Core.Path.{◌≡◌, refl, sym, ap, ◌∙◌}
use Prim.Native.Nat.{ℕ}
use mathlib.Core.Bool.{Bool, true, false, cond, ◌&&◌, ◌||◌, true≢false}
use lib.Dec.{eqb}
use lib.Ieee.{Float}
use Rattle.std.specs.Prelude.{Option, Some, None, is_none}
use Rattle.num_float.specs.Color.{channel_of}
use Rattle.state.specs.declared.CombinerUniform.{CombinerUniform}
use Rattle.state.specs.declared.RenderMode.{RenderMode}
use Rattle.state.specs.declared.Rgba.{Rgba}
use Rattle.combiner_inputs.specs.declared.ColorIn.{ColorIn}
use Rattle.combiner_inputs.specs.declared.ColorIn.TheVariants as cin
use Rattle.combiner_inputs.specs.declared.AlphaIn.{AlphaIn}
use Rattle.combiner_inputs.specs.declared.AlphaIn.TheVariants as ain
use Rattle.combiner.specs.declared.Combiner.{Combiner}
use Rattle.combiner.specs.Combine.{color_input, alpha_input, with_all, mixed, joined, channel_at, alpha_at, color_of, full_shade}
use Rattle.combiner.specs.New.{plain, combiner_of, if_colored, new_of}

-- ---- the inputs
pub color_input_alike : (k : Combiner) (x : ColorIn) (s t : Rgba) (i j : ℕ) → is_none (color_input k x s i) ≡ is_none (color_input k x t j)
unfolding color_input
color_input_alike k cin.Combined s t i j = refl
color_input_alike k cin.Texel0 s t i j = refl
color_input_alike k cin.Primitive s t i j = refl
color_input_alike k cin.Shade s t i j = refl
color_input_alike k cin.Environment s t i j = refl
color_input_alike k cin.Zero s t i j = refl
color_input_alike k cin.One s t i j = refl
color_input_alike k cin.Texel1 s t i j = refl
color_input_alike k cin.KeyCenter s t i j = refl
color_input_alike k cin.K4 s t i j = refl
color_input_alike k cin.KeyScale s t i j = refl
color_input_alike k cin.CombinedAlpha s t i j = refl
color_input_alike k cin.Texel0Alpha s t i j = refl
color_input_alike k cin.Texel1Alpha s t i j = refl
color_input_alike k cin.PrimitiveAlpha s t i j = refl
color_input_alike k cin.ShadeAlpha s t i j = refl
color_input_alike k cin.EnvAlpha s t i j = refl
color_input_alike k cin.LodFraction s t i j = refl
color_input_alike k cin.PrimLodFrac s t i j = refl
color_input_alike k cin.K5 s t i j = refl
color_input_alike k cin.Noise s t i j = refl

pub alpha_input_alike : (k : Combiner) (x : AlphaIn) (s t : Rgba) → is_none (alpha_input k x s) ≡ is_none (alpha_input k x t)
unfolding alpha_input
alpha_input_alike k ain.Combined s t = refl
alpha_input_alike k ain.Texel0 s t = refl
alpha_input_alike k ain.Primitive s t = refl
alpha_input_alike k ain.Shade s t = refl
alpha_input_alike k ain.Environment s t = refl
alpha_input_alike k ain.Zero s t = refl
alpha_input_alike k ain.One s t = refl
alpha_input_alike k ain.Texel1 s t = refl
alpha_input_alike k ain.LodFraction s t = refl
alpha_input_alike k ain.PrimLodFrac s t = refl

-- ---- four inputs: something is made of them exactly if each is there. `no` tells an answer that is none
module _ {A : Type 0} (none : A) (make : Float → Float → Float → Float → A) (no : A → Bool) (is : no none ≡ true) (isnt : (a b c d : Float) → no (make a b c d) ≡ false) where
  with_all_lem : (a b c d : Option Float) → no (with_all none make a b c d) ≡ (is_none a || is_none b || is_none c || is_none d)
  with_all_lem None b c d = is
  with_all_lem (Some x) None c d = is
  with_all_lem (Some x) (Some y) None d = is
  with_all_lem (Some x) (Some y) (Some z) None = is
  with_all_lem (Some x) (Some y) (Some z) (Some w) = isnt x y z w

pub mixed_missing : (a b c d : Option Float) → is_none (mixed a b c d) ≡ (is_none a || is_none b || is_none c || is_none d)
unfolding mixed
mixed_missing a b c d = with_all_lem None (λ a b c d. Some (channel_of a b c d)) is_none refl (λ a b c d. refl) a b c d

pub joined_missing : (a b c d : Option Float) → is_none (joined a b c d) ≡ (is_none a || is_none b || is_none c || is_none d)
unfolding joined
joined_missing a b c d =
    with_all_lem None (λ r g b a. Some (record { r = r; g = g; b = b; a = a })) is_none refl (λ a b c d. refl) a b c d

pub channel_alike : (k : Combiner) (s t : Rgba) (i j : ℕ) → is_none (channel_at k s i) ≡ is_none (channel_at k t j)
unfolding channel_at
channel_alike k s t i j =
    let e : (x : ColorIn) → is_none (color_input k x s i) ≡ is_none (color_input k x t j) = λ x. color_input_alike k x s t i j in
    let l = k.selectors in
    mixed_missing _ _ _ _ ∙ (λ n. e l.ca n || e l.cb n || e l.cc n || e l.cd n) ∙ sym (mixed_missing _ _ _ _)

pub alpha_alike : (k : Combiner) (s t : Rgba) → is_none (alpha_at k s) ≡ is_none (alpha_at k t)
unfolding alpha_at
alpha_alike k s t =
    let e : (x : AlphaIn) → is_none (alpha_input k x s) ≡ is_none (alpha_input k x t) = λ x. alpha_input_alike k x s t in
    let l = k.selectors in
    mixed_missing _ _ _ _ ∙ (λ n. e l.aa n || e l.ab n || e l.ac n || e l.ad n) ∙ sym (mixed_missing _ _ _ _)

-- ---- the colour
pub color_alike : (k : Combiner) (s t : Rgba) → is_none (color_of k s) ≡ is_none (color_of k t)
unfolding color_of
color_alike k s t =
    joined_missing _ _ _ _ ∙ (λ n. channel_alike k s t 0 0 n || channel_alike k s t 1 1 n || channel_alike k s t 2 2 n || alpha_alike k s t n) ∙ sym (joined_missing _ _ _ _)

-- a colour that is there
pub record Valued (c : Option Rgba) : Type 0 where
  pub color : Rgba
  pub is : c ≡ Some color

pub valued : (c : Option Rgba) → is_none c ≡ false → Valued c
valued (Some x) h = record { color = x; is = refl }
valued None h = absurd (true≢false h)

-- ---- what `new` makes
made : (b : Bool) (j : Combiner) (c : Option Rgba) {k : Combiner} → cond b (if_colored j c) None ≡ Some k → (j ≡ k) × (is_none c ≡ false)
made false j c h = cc
made true j None h = cc
made true j (Some x) h = (cc, refl)

made_of : (u : CombinerUniform) (m : RenderMode) {k : Combiner} → new_of u m ≡ Some k → (combiner_of u ≡ k) × (is_none (color_of (combiner_of u) full_shade) ≡ false)
unfolding new_of
made_of u m h = made (eqb u.tex_enable 0 && plain m) (combiner_of u) (color_of (combiner_of u) full_shade) h

-- the uniform's
pub new_combiner : (u : CombinerUniform) (m : RenderMode) {k : Combiner} → new_of u m ≡ Some k → combiner_of u ≡ k
new_combiner u m h = (made_of u m h).0

-- A combiner that `new` makes gives a colour for every shade.
pub new_colors : (u : CombinerUniform) (m : RenderMode) {k : Combiner} → new_of u m ≡ Some k → (s : Rgba) → Valued (color_of k s)
new_colors u m {k} h s =
    valued (color_of k s) (color_alike k s full_shade ∙ ap (λ (j : Combiner). is_none (color_of j full_shade)) (sym (new_combiner u m h)) ∙ (made_of u m h).1)
