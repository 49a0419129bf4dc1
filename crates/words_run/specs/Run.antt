-- To be believed. A run of words: the single word reads of the pixels first, first + 1, .. on one frame, one after the other, into lent slices for their bytes and numbers.
-- Definitions only.
use Rattle.std.specs.Prelude.{ℕ, zero, suc, ◌+◌, ◌*◌, ◌≤◌, List, [], ◌∷◌, length, Result, Ok, Err, if◌then◌else◌, ◌==◌, slice_index}
use Rattle.frame.specs.Frame.{Frame}
use Rattle.refused.specs.declared.Refusal.{Refusal}
use Rattle.refused.specs.Numbers.{number_of}
use Rattle.words_read.specs.Read.{ReadArgs, WordAnswer, read_answer}

-- the same read, i pixels further on
abbrev pub read_at : ReadArgs → ℕ → ReadArgs
read_at a i = record { pixel = a.pixel + i; fmt = a.fmt; siz = a.siz; dither = a.dither; encoding = a.encoding }

-- n answers, from number i on
abbrev pub answers_from : (ℕ → WordAnswer) → ℕ → ℕ → List WordAnswer
answers_from answer i zero = []
answers_from answer i (suc n) = answer i ∷ answers_from answer (suc i) n

-- the single answers to the n reads from a on
abbrev pub read_answers : ReadArgs → ℕ → ℕ → Frame → ℕ → List WordAnswer
read_answers a w h f n = answers_from (λ (i : ℕ). read_answer (read_at a i) w h f) 0 n

-- their numbers, and their bytes, two for each
abbrev pub numbers_of : List WordAnswer → List ℕ
numbers_of [] = []
numbers_of (x ∷ xs) = x.number ∷ numbers_of xs

abbrev pub words_of : List WordAnswer → List ℕ
words_of [] = []
words_of (x ∷ xs) = x.word.0 ∷ x.word.1 ∷ words_of xs

-- entry i of two such slices, as an answer
abbrev pub entry_of : List ℕ → List ℕ → ℕ → WordAnswer
entry_of words numbers i = record { number = slice_index numbers i; word = (slice_index words (2 * i), slice_index words (2 * i + 1)) }

-- how many of them are words
abbrev pub one_if : ℕ → ℕ
one_if zero = 1
one_if (suc k) = 0

abbrev pub count_of : List WordAnswer → ℕ
count_of [] = 0
count_of (x ∷ xs) = one_if x.number + count_of xs

-- the number, how many words were read, and the two slices afterwards
pub record RunAnswer : Type 0 where
  pub number : ℕ
  pub count : ℕ
  pub words : List ℕ
  pub numbers : List ℕ

abbrev pub run_means : Result ℕ Refusal → List ℕ → List ℕ → RunAnswer
run_means (Ok n) ws ns = record { number = 0; count = n; words = ws; numbers = ns }
run_means (Err e) ws ns = record { number = number_of e; count = 0; words = ws; numbers = ns }

-- a run that is turned away has a number
abbrev pub NumberedRun : Result ℕ Refusal → Type 0
NumberedRun (Ok n) = Unit
NumberedRun (Err e) = 1 ≤ number_of e

abbrev pub run_by : List WordAnswer → RunAnswer
run_by answers = record { number = 0; count = count_of answers; words = words_of answers; numbers = numbers_of answers }

-- the run's own refusal: there are not exactly two bytes for each number. It changes nothing
abbrev pub unmatched : ℕ
unmatched = 19

-- as many pixels as there are numbers
unfoldable pub run_answer : ReadArgs → ℕ → ℕ → Frame → List ℕ → List ℕ → RunAnswer
run_answer a w h f ws ns =
    if length ws == 2 * length ns then run_by (read_answers a w h f (length ns))
    else record { number = unmatched; count = 0; words = ws; numbers = ns }
