-- To be believed. The combiner's answers as numbers and values: for each answer, those of every case (`.._means`), and for each call its outcome on every input
-- (`.._call`). Definitions only. Source: docs/RULES.md, the numbers; an Option is a flag and a value.
use Rattle.std.specs.Prelude.{ℕ, Bool, true, false, ◌&&◌, Option, Some, None, if◌then◌else◌, ◌==◌}
use Rattle.num_float.specs.Color.{f0}
use Rattle.state.specs.declared.CombinerUniform.{CombinerUniform}
use Rattle.state.specs.declared.RenderMode.{RenderMode}
use Rattle.state.specs.declared.Rgba.{Rgba}
use Rattle.combiner_inputs.specs.declared.ColorIn.TheVariants as cin
use Rattle.combiner_inputs.specs.declared.AlphaIn.TheVariants as ain
use Rattle.combiner.specs.declared.Combiner.{Combiner}
use Rattle.combiner.specs.Combine.{with_all, channel_at, alpha_at, full_shade}
use Rattle.combiner.specs.New.{plain, combiner_of}
use Rattle.combiner.specs.Strict.{flat, is_strict, strict_word}

-- an answer that may be none: its number, whether there is a value, and the value, zeros where there is none
pub record Optional (A : Type 0) : Type 0 where
  pub number : ℕ
  pub some : Bool
  pub value : A

abbrev pub present : {A : Type 0} → A → Optional A
present value = record { number = 0; some = true; value = value }

abbrev pub absent : {A : Type 0} → ℕ → A → Optional A
absent number zeros = record { number = number; some = false; value = zeros }

-- ---- zeros: every number of a colour, and of a combiner the first input at every place
abbrev pub no_color : Rgba
no_color = record { r = f0; g = f0; b = f0; a = f0 }

abbrev pub no_combiner : Combiner
no_combiner =
    record {
      selectors =
          record {
            ca = cin.Combined;
            cb = cin.Combined;
            cc = cin.Combined;
            cd = cin.Combined;
            aa = ain.Combined;
            ab = ain.Combined;
            ac = ain.Combined;
            ad = ain.Combined;
          };
      prim = no_color;
      env = no_color;
      blend = no_color;
      fog = no_color;
      lod = f0;
    }

-- ---- Combiner::color: each channel of four inputs, if each of them is there. It turns nothing away: none has number 0 too
abbrev pub color_means : Option Rgba → Optional Rgba
color_means (Some c) = present c
color_means None = absent 0 no_color

unfoldable pub color_call : Combiner → Rgba → Optional Rgba
color_call k shade =
    with_all (absent 0 no_color) (λ r g b a. present (record { r = r; g = g; b = b; a = a })) (channel_at k shade 0) (channel_at k shade 1) (channel_at k shade 2) (alpha_at k shade)

-- ---- Combiner::strict_color: the word of a constant colour that has one. It turns nothing away
abbrev pub strict_means : Option ℕ → Optional ℕ
strict_means (Some word) = present word
strict_means None = absent 0 0

unfoldable pub strict_call : Combiner → Optional ℕ
strict_call k =
    let c = color_call k full_shade in
    if flat k.selectors && (c.some && is_strict c.value) then present (strict_word c.value) else absent 0 0

-- ---- Combiner::new: for a draw without textures, in a plain mode, whose colour there is. A draw without a combiner is turned away with number 6
abbrev pub made_means : Option Combiner → Optional Combiner
made_means (Some k) = present k
made_means None = absent 6 no_combiner

unfoldable pub new_call : CombinerUniform → RenderMode → Optional Combiner
new_call u m =
    let k = combiner_of u in
    if u.tex_enable == 0 && plain m && (color_call k full_shade).some then present k else absent 6 no_combiner
