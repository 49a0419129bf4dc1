-- To be believed. Number 11 (docs/RULES.md, The numbers): what a single-pixel call may be given, as far as it takes it. Definitions only.
use Rattle.std.specs.Prelude.{ℕ, Bool, true, ◌&&◌, Some, None, if◌then◌else◌, nat_lt, nat_le}
use Rattle.blender.specs.Coverage.{Coverage}
use Rattle.refused.specs.Numbers.{number_of}
use Rattle.refused.specs.declared.Refusal.{Refusal}
use Rattle.words_pack.specs.declared.Writer.{Writer}

-- the number for which a single-pixel call is turned away
abbrev pub eleven : ℕ
eleven = 11

-- a mask that is not 0
abbrev pub mask_ok : ℕ → Bool
mask_ok m = nat_lt 0 m

-- a coverage of at most 7
abbrev pub coverage_ok : ℕ → Bool
coverage_ok c = nat_le c 7

-- an absent coverage is not taken
abbrev pub known_ok : Coverage → Bool
known_ok None = true
known_ok (Some c) = coverage_ok c

-- a width from 1 to 1,024
abbrev pub width_ok : ℕ → Bool
width_ok w = nat_le 1 w && nat_le w 1024

-- a siz of at most 3
abbrev pub siz_ok : ℕ → Bool
siz_ok s = nat_le s 3

-- a pixel of at most 1,048,575
abbrev pub place_ok : ℕ → Bool
place_ok p = nat_lt p 1048576

-- what every call with a writer takes of these, also where it needs only one of the two
abbrev pub writer_ok : Writer → Bool
writer_ok w = width_ok w.layout.width && siz_ok w.layout.siz

-- what `encode` takes
abbrev pub encode_ok : Writer → ℕ → ℕ → Bool
encode_ok w coverage pixel = writer_ok w && (coverage_ok coverage && place_ok pixel)

-- a call's outcome in the terms of docs/RULES.md: its number, 0 where it is accepted, and its value
pub record Outcome (A : Type 0) : Type 0 where
  pub number : ℕ
  pub value : A

abbrev pub accepted : {A : Type 0} → A → Outcome A
accepted value = record { number = 0; value = value }

-- with number 11 the coverage, word and bytes are zero, and a yes or no is no
abbrev pub refused : {A : Type 0} → A → Outcome A
refused none = record { number = eleven; value = none }

-- the same with the number of a refusal
abbrev pub turned_away : {A : Type 0} → Refusal → A → Outcome A
turned_away why none = record { number = number_of why; value = none }

unfoldable pub checked : {A : Type 0} → Bool → A → A → Outcome A
checked ok value none = if ok then accepted value else refused none
