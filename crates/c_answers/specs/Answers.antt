-- To be believed. The C interface's answers: the number (docs/RULES.md) with the value as one word, and what the combiner gives. Definitions only.
use Rattle.std.specs.Prelude.{ℕ, ◌+◌, ◌*◌, Bool, true, false}
use Rattle.state.specs.declared.Rgba.{Rgba}
use Rattle.combiner.specs.declared.Combiner.{Combiner}
use Rattle.combiner.specs.Means.{Optional}
use Rattle.state.specs.declared.Rgba8.{Rgba8}
use Rattle.words_pack.specs.declared.Bytes2.{Bytes2}
use Rattle.writeback_pixel.specs.Refusal.{Outcome}
use Rattle.c_answers.specs.declared.Answer.{Answer}
use Rattle.c_answers.specs.declared.ColorAnswer.{ColorAnswer}
use Rattle.c_answers.specs.declared.CombinerAnswer.{CombinerAnswer}
use Rattle.c_answers.specs.declared.StrictAnswer.{StrictAnswer}
use Rattle.c_types.specs.Convert.{parts_of}

-- ---- a value as a word

abbrev pub same : ℕ → ℕ
same n = n

-- yes is 1 and no 0
abbrev pub bit : Bool → ℕ
bit true = 1
bit false = 0

-- the first byte lowest
abbrev pub four_bytes : Rgba8 → ℕ
four_bytes c = c.r + c.g * 0x100 + c.b * 0x10000 + c.a * 0x1000000

abbrev pub two_bytes : Bytes2 → ℕ
two_bytes b = b.0 + b.1 * 0x100

-- ---- answers

-- a call's outcome, its value by one of these
abbrev pub answer_of : {A : Type 0} → (A → ℕ) → Outcome A → Answer
answer_of word o = record { number = o.number; value = word o.value }

-- ---- what may be none: whether it is there, and what it is, zeros where it is not
abbrev pub color_answer : Optional Rgba → ColorAnswer
color_answer o = record { some = o.some; rgba = o.value }

abbrev pub strict_answer : Optional ℕ → StrictAnswer
strict_answer o = record { some = o.some; word = o.value }

abbrev pub combiner_answer : Optional Combiner → CombinerAnswer
combiner_answer o = record { some = o.some; combiner = parts_of o.value }
