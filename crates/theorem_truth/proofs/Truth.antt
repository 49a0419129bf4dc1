-- What is known is true. Of a call the theorem needs two facts, for frames of which g knows at least what f knows: its answer on g tells at least what the one on f
-- tells, and it leaves such frames. Parts 1 and 2 show them of a draw, proofs/Words of a word read and of a run of them, part 3 carries them along a list. Emitted pixels turn
-- on the frame by numbers 1 to 3 alone (frame_emitted/proofs/Frames). Part 4 is the
-- case that matters most: a frame on which everything is known. A further kind of call is a further clause of `keeps` with its two facts, and one in part 4 and in
-- proofs/Console. Assumes nothing.
use Prim.Native.Nat.{ℕ, zero, suc, ◌*◌, ◌≤◌, ◌<◌}
use mathlib.Core.Path.{◌≡◌, refl, sym, ◌∙◌}
use mathlib.Core.Bool.{Bool, true, cond}
use mathlib.Core.List.{List, [], ◌∷◌}
use native.Mathlib.Omega.{arith}
use borrow.Author.Tests.{ltb-true}
use lib.Dec.{ltb}
use lib.ListN.{length}
use Rattle.state.specs.declared.RenderMode.{RenderMode}
use Rattle.combiner.specs.declared.Combiner.{Combiner}
use Rattle.words_pack.specs.declared.Bytes2.{Bytes2}
use Rattle.words_pack.specs.Writer.{supported_of}
use Rattle.frame_pixel.specs.declared.Pixel.{Pixel}
use Rattle.frame_pixel.specs.Rules.{pixel_step}
use Rattle.frame_pixel.proofs.Knows.{pixel_knows, pixel_all_known}
use Rattle.raster_pixel.specs.Emitted.{Emit}
use Rattle.frame.specs.Frame.{Frame, pixel_at}
use Rattle.frame.specs.Checks.{or_else, frame_refusal}
use Rattle.frame.specs.Knows.{KnowsFrame, KnowsAtLeast, AllKnown}
use Rattle.frame.proofs.Fits.{accepted}
use Rattle.frame.proofs.Knows.{put_knows, put_all_known}
use Rattle.frame_paint.specs.Steps.{source_of, step_frame, draw_list}
use Rattle.frame_draw.specs.Draw.{DrawArgs, Plan, plan_of, frame_by, draw_frame}
use Rattle.frame_draw.proofs.Frames.{plan_same, draw_same, draw_refusal}
use Rattle.words_read.specs.Read.{ReadArgs, writer_of, readable, word_refusal, read_refusal, word_of, word_or, read_answer}
use Rattle.words_run.specs.Run.{entry_of, run_answer}
use Rattle.frame_emitted.proofs.Frames.{pixel_same, pixels_same}
use Rattle.theorem_calls.specs.Calls.{Call, answer_to, frame_after, answers, frame_after_all}
use Rattle.theorem_truth.specs.Truth.{TellsAnswer, Tells, Truth}
use Rattle.theorem_truth.proofs.Words.{read_tells, run_tells, word_again, entry_again}

-- ---- part 1: emitted pixels
module _ (mode : RenderMode) (k : Combiner) where
  step_knows : (g f : Frame) (e : Emit) → KnowsFrame g f → KnowsFrame (step_frame mode k g e) (step_frame mode k f e)
  unfolding step_frame
  step_knows g f e h =
      let y = pixel_at g e.pixel in
      let x = pixel_at f e.pixel in
      put_knows g f e.pixel (pixel_step mode k (source_of e) y) (pixel_step mode k (source_of e) x) h
      (pixel_knows mode k (source_of e) y x (h.pixels e.pixel))

  list_knows : (g f : Frame) (es : List Emit) → KnowsFrame g f → KnowsFrame (draw_list mode k g es) (draw_list mode k f es)
  list_knows g f [] h = h
  list_knows g f (e ∷ es) h = list_knows (step_frame mode k g e) (step_frame mode k f e) es (step_knows g f e h)

-- ---- part 2: a draw, which does not change what numbers 1 to 3 say
module _ (w h : ℕ) {g f : Frame} (a : KnowsAtLeast w h g f) (d : DrawArgs) where
  draw-frame : KnowsFrame (draw_frame d w h g) (draw_frame d w h f)
  unfolding draw_frame
  draw-frame = rw (plan_same d w h g f a.numbers) (go (plan_of d w h f))
    where
      go : (plan : Plan) → KnowsFrame (frame_by d.mode plan g) (frame_by d.mode plan f)
      go (Plan.refuse n) = a.frame
      go (Plan.accept k es) = list_knows d.mode k g f es a.frame

  draw_knows : KnowsAtLeast w h (draw_frame d w h g) (draw_frame d w h f)
  draw_knows = record { frame = draw-frame; numbers = draw_refusal d w h g ∙ a.numbers ∙ sym (draw_refusal d w h f) }

-- ---- part 3: any list
-- the two facts of a call
record Keeps (w h : ℕ) (o : Call) : Type 0 where
  tells : (g f : Frame) → KnowsAtLeast w h g f → TellsAnswer (answer_to w h o g) (answer_to w h o f)
  knows : (g f : Frame) → KnowsAtLeast w h g f → KnowsAtLeast w h (frame_after w h o g) (frame_after w h o f)

module _ (w h : ℕ) where
  keeps : (o : Call) → Keeps w h o
  keeps (Call.draw engine d) =
      record {
        tells = λ g f a. rw (draw_same d w h g f a.numbers) TellsAnswer.drawn;
        knows = λ g f a. draw_knows w h a d;
      }
  keeps (Call.read r) = record { tells = λ g f a. TellsAnswer.word (read_tells w h a r); knows = λ g f a. a }
  keeps (Call.reads r ws ns) = record { tells = λ g f a. TellsAnswer.run (run_tells w h a r ws ns); knows = λ g f a. a }
  keeps (Call.pixel engine d k) =
      record {
        tells = λ g f a. rw (pixel_same d w h g f a.numbers k) TellsAnswer.masked;
        knows = λ g f a. a;
      }
  keeps (Call.pixels engine d first ps ms) =
      record {
        tells = λ g f a. rw (pixels_same d w h g f a.numbers first ps ms) TellsAnswer.listed;
        knows = λ g f a. a;
      }

  list_tells : (os : List Call) (g f : Frame) → KnowsAtLeast w h g f → Tells (answers w h os g) (answers w h os f)
  list_tells [] g f a = Tells.none
  list_tells (o ∷ os) g f a = Tells.each ((keeps o).tells g f a) (list_tells os (frame_after w h o g) (frame_after w h o f) ((keeps o).knows g f a))

  knows_after : (os : List Call) (g f : Frame) → KnowsAtLeast w h g f → KnowsAtLeast w h (frame_after_all w h os g) (frame_after_all w h os f)
  knows_after [] g f a = a
  knows_after (o ∷ os) g f a = knows_after os (frame_after w h o g) (frame_after w h o f) ((keeps o).knows g f a)

-- If g knows at least what f knows, then for every list of draws, word reads, questions for emitted pixels and runs of the latter two, refused ones included, made in order on
-- both: each draw is answered alike, number and count, and so is each question for emitted pixels; each word that is handed out on f is handed out on g and is the same word, and a word that is turned away on f is turned away on g with the same
-- number, or with number 10 on f and handed out on g; and after the list g still knows at least what f knows.
pub truth : (w h : ℕ) (os : List Call) (g f : Frame) → KnowsAtLeast w h g f → Truth w h os g f
truth w h os g f a = record { tells = list_tells w h os g f a; knows = knows_after w h os g f a }

-- A word that is handed out on f, after any list, is handed out on g, and is the same word.
pub true_word :
    (w h : ℕ) (os : List Call) (g f : Frame) → KnowsAtLeast w h g f → (r : ReadArgs)
    → (read_answer r w h (frame_after_all w h os f)).number ≡ 0 → read_answer r w h (frame_after_all w h os g) ≡ read_answer r w h (frame_after_all w h os f)
true_word w h os g f a r t = word_again (read_tells w h (knows_after w h os g f a) r) t

-- So is each word of a run.
pub true_entry :
    (w h : ℕ) (os : List Call) (g f : Frame) → KnowsAtLeast w h g f → (r : ReadArgs) (ws ns : List ℕ) (i : ℕ)
    → let a = run_answer r w h (frame_after_all w h os f) ws ns in
    let b = run_answer r w h (frame_after_all w h os g) ws ns in
    (entry_of a.words a.numbers i).number ≡ 0 → entry_of b.words b.numbers i ≡ entry_of a.words a.numbers i
true_entry w h os g f a r ws ns i t = entry_again i (run_tells w h (knows_after w h os g f a) r ws ns) t

-- ---- part 4: a frame on which everything is known
module _ (mode : RenderMode) (k : Combiner) where
  pub step_all_known : (f : Frame) (e : Emit) → AllKnown f → AllKnown (step_frame mode k f e)
  unfolding step_frame
  step_all_known f e a =
      let p = e.pixel in
      put_all_known f p (pixel_step mode k (source_of e) (pixel_at f p)) (λ l. pixel_all_known mode k (source_of e) (pixel_at f p) (a.pixels p l)) a

  list_all_known : (f : Frame) (es : List Emit) → AllKnown f → AllKnown (draw_list mode k f es)
  list_all_known f [] a = a
  list_all_known f (e ∷ es) a = list_all_known (step_frame mode k f e) es (step_all_known f e a)

draw_all_known : (w h : ℕ) (d : DrawArgs) (f : Frame) → AllKnown f → AllKnown (draw_frame d w h f)
unfolding draw_frame
draw_all_known w h d f a = go (plan_of d w h f)
  where
    go : (plan : Plan) → AllKnown (frame_by d.mode plan f)
    go (Plan.refuse n) = a
    go (Plan.accept k es) = list_all_known d.mode k f es a

pub call_all_known : (w h : ℕ) (o : Call) (f : Frame) → AllKnown f → AllKnown (frame_after w h o f)
call_all_known w h (Call.draw engine d) f a = draw_all_known w h d f a
call_all_known w h (Call.read r) f a = a
call_all_known w h (Call.reads r ws ns) f a = a
call_all_known w h (Call.pixel engine d k) f a = a
call_all_known w h (Call.pixels engine d first ps ms) f a = a

-- Everything stays known along any list.
pub all_known_after : (w h : ℕ) (os : List Call) (f : Frame) → AllKnown f → AllKnown (frame_after_all w h os f)
all_known_after w h [] f a = a
all_known_after w h (o ∷ os) f a = all_known_after w h os (frame_after w h o f) (call_all_known w h o f a)

refusal_le : (f : Frame) (w h : ℕ) → frame_refusal f w h ≤ 3
unfolding frame_refusal
refusal_le f w h = grind arith

-- And no word read is then turned away as not known.
pub all_known_read : (w h : ℕ) (f : Frame) → AllKnown f → (r : ReadArgs) → (read_answer r w h f).number ≡ 10 → ⊥
unfolding read_answer read_refusal word_refusal
all_known_read w h f a r = refused (frame_refusal f w h) refl
  where
    x : Pixel
    x = pixel_at f r.pixel

    word : ℕ
    word = cond (ltb r.pixel (w * h)) (cond (supported_of (writer_of r w)) (cond (readable x.mark r.siz) 0 10) 9) 8

    go : (i s p : Bool) (u : Bytes2) → (i ≡ true → p ≡ true) → (word_or (cond i (cond s (cond p 0 10) 9) 8) u).number ≡ 10 → ⊥
    go i s p u m t = grind arith

    seen : length f.marks ≡ w * h → ltb r.pixel (w * h) ≡ true → readable x.mark r.siz ≡ true
    seen e t = let l : r.pixel < length f.marks = omega (arith, ltb-true r.pixel (w * h) t) in let c = a.pixels r.pixel l in grind (arith, c.mark1, c.mark2)

    refused : (n : ℕ) → frame_refusal f w h ≡ n → (word_or (or_else n word) (word_of r w x)).number ≡ 10 → ⊥
    refused zero e t =
        go (ltb r.pixel (w * h)) (supported_of (writer_of r w)) (readable x.mark r.siz) (word_of r w x) (seen (accepted f w h e).fit.marks) t
    refused (suc n) e t = omega (arith, refusal_le f w h)
