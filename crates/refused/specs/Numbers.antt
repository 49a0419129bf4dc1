-- To be believed. The numbers by which a call is turned away. Definitions only. Source: docs/RULES.md, The numbers.
use Rattle.std.specs.Prelude.{ℕ}
use Rattle.refused.specs.declared.Refusal.{Refusal}
use Rattle.refused.specs.declared.Refusal.TheVariants as refusal

abbrev pub number_of : Refusal → ℕ
number_of refusal.Size = 1
number_of refusal.Lengths = 2
number_of refusal.Marks = 3
number_of refusal.Scissor = 4
number_of refusal.Lists = 5
number_of refusal.Combiner = 6
number_of refusal.Geometry = 7
number_of refusal.Pixel = 8
number_of refusal.Writer = 9
number_of refusal.Unknown = 10
number_of refusal.Arguments = 11
number_of refusal.Words = 19
number_of refusal.Slots = 20
