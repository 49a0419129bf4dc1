-- To be believed. What is known is true: one list of calls on two frames, of which g knows at least what f knows, and what its answers on g tell of those on f.
-- Definitions only. Source: docs/RULES.md, What is known is true.
use Rattle.std.specs.Prelude.{ℕ, ◌≤◌, ◌≡◌, List, [], ◌∷◌, length}
use Rattle.frame.specs.Frame.{Frame}
use Rattle.frame.specs.Knows.{KnowsAtLeast}
use Rattle.frame_draw.specs.Draw.{DrawAnswer}
use Rattle.words_read.specs.Read.{WordAnswer, no_word, word_or}
use Rattle.words_run.specs.Run.{RunAnswer, entry_of}
use Rattle.frame_emitted.specs.Emitted.{PixelAnswer}
use Rattle.frame_emitted.specs.Run.{PixelsAnswer}
use Rattle.theorem_calls.specs.Calls.{Call, Answer, answers, frame_after_all}

-- ---- an answer b, on g, tells at least what the answer a, on f, tells

-- a word read: the same, or a is number 10, not known, with no word, and b is a word
pub data TellsWord : WordAnswer → WordAnswer → Type 0 where
  same : {a : WordAnswer} → TellsWord a a
  more : {b a : WordAnswer} → a ≡ word_or 10 no_word → b.number ≡ 0 → TellsWord b a

-- a run that was read: as long, no fewer words, and so for each entry of its two slices
pub record TellsEntries (b a : RunAnswer) : Type 0 where
  pub number : b.number ≡ a.number
  pub count : a.count ≤ b.count
  pub words : length b.words ≡ length a.words
  pub numbers : length b.numbers ≡ length a.numbers
  pub entries : (i : ℕ) → TellsWord (entry_of b.words b.numbers i) (entry_of a.words a.numbers i)

-- a run: turned away on both alike, or read on both
pub data TellsRun : RunAnswer → RunAnswer → Type 0 where
  same : {a : RunAnswer} → TellsRun a a
  read : {b a : RunAnswer} → TellsEntries b a → TellsRun b a

-- a draw: the same number and the same count; emitted pixels: the same
pub data TellsAnswer : Answer → Answer → Type 0 where
  drawn : {a : DrawAnswer} → TellsAnswer (Answer.drawn a) (Answer.drawn a)
  word : {b a : WordAnswer} → TellsWord b a → TellsAnswer (Answer.word b) (Answer.word a)
  run : {b a : RunAnswer} → TellsRun b a → TellsAnswer (Answer.run b) (Answer.run a)
  masked : {a : PixelAnswer} → TellsAnswer (Answer.masked a) (Answer.masked a)
  listed : {a : PixelsAnswer} → TellsAnswer (Answer.listed a) (Answer.listed a)

-- so for each call of a list
pub data Tells : List Answer → List Answer → Type 0 where
  none : Tells [] []
  each : {b a : Answer} {ys xs : List Answer} → TellsAnswer b a → Tells ys xs → Tells (b ∷ ys) (a ∷ xs)

-- ---- the claim on a whole list: each answer on g tells at least what the one on f tells, and after the list g still knows at least what f knows
pub record Truth (w h : ℕ) (os : List Call) (g f : Frame) : Type 0 where
  pub tells : Tells (answers w h os g) (answers w h os f)
  pub knows : KnowsAtLeast w h (frame_after_all w h os g) (frame_after_all w h os f)
