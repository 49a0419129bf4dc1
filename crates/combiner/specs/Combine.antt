-- To be believed. The colour that a combiner gives for a shade: the number that each selector names, and (a - b) * c + d of four of them. Definitions only.
-- Source: the N64 Programming Manual's chapter on the color combiner, the N64brew wiki's RDP pages (Set Combine Mode), and Combiner::color of
-- writeback.rs, which decides what a draw without textures reads: LodFraction is 1.0, Combined and CombinedAlpha are 0.0.
use Rattle.std.specs.Prelude.{ℕ, Float, Option, Some, None, if◌then◌else◌, ◌==◌}
use Rattle.num_float.specs.Color.{f0, f1, channel_of}
use Rattle.state.specs.declared.Rgba.{Rgba}
use Rattle.combiner_inputs.specs.declared.ColorIn.{ColorIn}
use Rattle.combiner_inputs.specs.declared.ColorIn.TheVariants as cin
use Rattle.combiner_inputs.specs.declared.AlphaIn.{AlphaIn}
use Rattle.combiner_inputs.specs.declared.AlphaIn.TheVariants as ain
use Rattle.combiner.specs.declared.Combiner.{Combiner}

-- red, green and blue by 0, 1 and 2; alpha by 3, and by what is above it
unfoldable pub element : Rgba → ℕ → Float
element c i = if i == 0 then c.r else if i == 1 then c.g else if i == 2 then c.b else c.a

-- what a colour selector names, for a combiner and a shade, in channel i. Textures, keys, noise and the conversion constants have none
unfoldable pub color_input : Combiner → ColorIn → Rgba → ℕ → Option Float
color_input k cin.Zero s i = Some f0
color_input k cin.Combined s i = Some f0
color_input k cin.CombinedAlpha s i = Some f0
color_input k cin.One s i = Some f1
color_input k cin.LodFraction s i = Some f1
color_input k cin.Primitive s i = Some (element k.prim i)
color_input k cin.Environment s i = Some (element k.env i)
color_input k cin.Shade s i = Some (element s i)
color_input k cin.PrimitiveAlpha s i = Some k.prim.a
color_input k cin.EnvAlpha s i = Some k.env.a
color_input k cin.ShadeAlpha s i = Some s.a
color_input k cin.PrimLodFrac s i = Some k.lod
color_input k cin.Texel0 s i = None
color_input k cin.Texel1 s i = None
color_input k cin.KeyCenter s i = None
color_input k cin.K4 s i = None
color_input k cin.KeyScale s i = None
color_input k cin.Texel0Alpha s i = None
color_input k cin.Texel1Alpha s i = None
color_input k cin.K5 s i = None
color_input k cin.Noise s i = None

-- what an alpha selector names
unfoldable pub alpha_input : Combiner → AlphaIn → Rgba → Option Float
alpha_input k ain.Zero s = Some f0
alpha_input k ain.Combined s = Some f0
alpha_input k ain.One s = Some f1
alpha_input k ain.LodFraction s = Some f1
alpha_input k ain.Primitive s = Some k.prim.a
alpha_input k ain.Environment s = Some k.env.a
alpha_input k ain.Shade s = Some s.a
alpha_input k ain.PrimLodFrac s = Some k.lod
alpha_input k ain.Texel0 s = None
alpha_input k ain.Texel1 s = None

-- goes on with the number, if there is one, and answers `none` otherwise
abbrev pub given : {A : Type 0} → A → Option Float → (Float → A) → A
given none (Some x) go = go x
given none None go = none

-- what is made of four numbers, if each is there
abbrev pub with_all : {A : Type 0} → A → (Float → Float → Float → Float → A) → Option Float → Option Float → Option Float → Option Float → A
with_all none make a b c d = given none a (λ a. given none b (λ b. given none c (λ c. given none d (λ d. make a b c d))))

-- (a - b) * c + d, each operation rounded, and clamped
unfoldable pub mixed : Option Float → Option Float → Option Float → Option Float → Option Float
mixed a b c d = with_all None (λ a b c d. Some (channel_of a b c d)) a b c d

-- red, green or blue, of the four colour selectors
unfoldable pub channel_at : Combiner → Rgba → ℕ → Option Float
channel_at k s i =
    mixed (color_input k k.selectors.ca s i) (color_input k k.selectors.cb s i) (color_input k k.selectors.cc s i) (color_input k k.selectors.cd s i)

-- alpha, of the four alpha selectors
unfoldable pub alpha_at : Combiner → Rgba → Option Float
alpha_at k s =
    mixed (alpha_input k k.selectors.aa s) (alpha_input k k.selectors.ab s) (alpha_input k k.selectors.ac s) (alpha_input k k.selectors.ad s)

-- a colour of four channels
unfoldable pub joined : Option Float → Option Float → Option Float → Option Float → Option Rgba
joined r g b a = with_all None (λ r g b a. Some (record { r = r; g = g; b = b; a = a })) r g b a

-- the combiner's colour for a shade
unfoldable pub color_of : Combiner → Rgba → Option Rgba
color_of k s = joined (channel_at k s 0) (channel_at k s 1) (channel_at k s 2) (alpha_at k s)

-- the shade 1.0 in every channel: a rectangle's, and the one that a combiner is tried with
abbrev pub full_shade : Rgba
full_shade = record { r = f1; g = f1; b = f1; a = f1 }
