-- To be believed. Any list of draws, word reads, questions for emitted pixels and runs of the latter two on one frame: its answers, and the frame after it. Definitions only.
-- Source: docs/RULES.md, What is not known does not show. The sizes w and h are fixed with the frame; a list starts from any sizes and slices, also ones that numbers 1 to 3 refuse.
use Rattle.std.specs.Prelude.{ℕ, List, [], ◌∷◌}
use Rattle.frame.specs.Frame.{Frame}
use Rattle.frame_draw.specs.declared.Engine.{Engine}
use Rattle.frame_draw.specs.Draw.{DrawArgs, DrawAnswer, draw_answer, draw_frame}
use Rattle.words_read.specs.Read.{ReadArgs, WordAnswer, read_answer}
use Rattle.words_run.specs.Run.{RunAnswer, run_answer}
use Rattle.frame_emitted.specs.Emitted.{PixelAnswer, emitted_answer}
use Rattle.frame_emitted.specs.Run.{PixelsAnswer, emitted_run}

-- a call, with all its arguments but the frame. A draw and a question for emitted pixels choose an engine; no clause below looks at it
pub data Call : Type 0 where
  draw : Engine → DrawArgs → Call
  read : ReadArgs → Call
  -- a run, with the lent slices for words and numbers as they are before it
  reads : ReadArgs → List ℕ → List ℕ → Call
  -- the k-th pixel of a draw that is not carried out
  pixel : Engine → DrawArgs → ℕ → Call
  -- a run of them, with the lent slices for pixels and masks as they are before it
  pixels : Engine → DrawArgs → ℕ → List ℕ → List ℕ → Call

-- number and pixel count, number and word bytes, a run's number and count with the two slices after it, number with a pixel and its mask, or a run's number and counts with the
-- two slices after it
pub data Answer : Type 0 where
  drawn : DrawAnswer → Answer
  word : WordAnswer → Answer
  run : RunAnswer → Answer
  masked : PixelAnswer → Answer
  listed : PixelsAnswer → Answer

module _ (w h : ℕ) where
  abbrev pub answer_to : Call → Frame → Answer
  answer_to (Call.draw engine d) f = Answer.drawn (draw_answer d w h f)
  answer_to (Call.read a) f = Answer.word (read_answer a w h f)
  answer_to (Call.reads a ws ns) f = Answer.run (run_answer a w h f ws ns)
  answer_to (Call.pixel engine d k) f = Answer.masked (emitted_answer d w h f k)
  answer_to (Call.pixels engine d first ps ms) f = Answer.listed (emitted_run d w h f first ps ms)

  -- only an accepted draw writes the frame; the slices that a run writes are a part of its answer
  abbrev pub frame_after : Call → Frame → Frame
  frame_after (Call.draw engine d) f = draw_frame d w h f
  frame_after (Call.read a) f = f
  frame_after (Call.reads a ws ns) f = f
  frame_after (Call.pixel engine d k) f = f
  frame_after (Call.pixels engine d first ps ms) f = f

  -- the answers to a list, each call on the frame that the call before left
  abbrev pub answers : List Call → Frame → List Answer
  answers [] f = []
  answers (o ∷ os) f = answer_to o f ∷ answers os (frame_after o f)

  -- the frame after a list
  abbrev pub frame_after_all : List Call → Frame → Frame
  frame_after_all [] f = f
  frame_after_all (o ∷ os) f = frame_after_all os (frame_after o f)
