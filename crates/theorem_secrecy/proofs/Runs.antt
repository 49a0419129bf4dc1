-- Demand 3. Of a call the theorem needs three facts, for frames of any shape: on alike frames it answers the same, it leaves alike frames alike, and mark 1 is
-- after it as its last verdict said. Part 1 shows them of a word read and of a run of them, part 2 of a draw, part 3 carries them along a list. A question for emitted pixels
-- has them by the draw's plan alone (frame_emitted/proofs/Frames). A further kind of call is a
-- further constructor with its three facts. Assumes nothing.
use Prim.Native.Nat.{ℕ, ◌*◌, ◌<◌}
use mathlib.Core.Path.{◌≡◌, refl, sym, ap, ap₂, subst, ◌∙◌}
use mathlib.Core.Bool.{Bool, true, cond}
use mathlib.Core.List.{List, [], ◌∷◌, ◌++◌}
use native.Mathlib.Decide.{ℕ_discrete}
use native.Mathlib.Omega.{arith}
use lib.Dec.{eqb}
use lib.ListN.{length, get_or, set}
use lib.Seq.{get_or-set_same, get_or-set_other}
use Rattle.state.specs.declared.RenderMode.{RenderMode}
use Rattle.combiner.specs.declared.Combiner.{Combiner}
use Rattle.frame_pixel.specs.declared.Pixel.{Pixel}
use Rattle.frame_pixel.specs.Marks.{color_marked}
use Rattle.frame_pixel.specs.Rules.{pixel_step}
use Rattle.frame_pixel.specs.Alike.{AlikePixel}
use Rattle.frame_pixel.proofs.Alike.{same_coverage, color_after}
use Rattle.raster_pixel.specs.Emitted.{Emit}
use Rattle.raster_pixel.proofs.Placed.{Placed}
use Rattle.frame.specs.Frame.{Frame, pixel_at}
use Rattle.frame_paint.specs.Steps.{source_of, step_frame, draw_list}
use Rattle.frame_draw.specs.declared.Engine.{Engine}
use Rattle.frame_draw.specs.Draw.{DrawArgs, Plan, plan_of, frame_by, draw_frame}
use Rattle.frame_draw.proofs.Frames.{pixels_of, plan_same, draw_same, plan_marked}
use Rattle.frame_emitted.proofs.Frames.{pixel_same, pixels_same}
use Rattle.words_run.specs.Run.{read_at, RunAnswer, run_by, run_answer}
use Rattle.words_run.proofs.Answers.{answers_same}
use Rattle.words_read.specs.Read.{ReadArgs, word_refusal, read_refusal, word_of, read_answer}
use Rattle.theorem_calls.specs.Calls.{Call, Answer, answer_to, frame_after, answers, frame_after_all}
use Rattle.theorem_secrecy.specs.Runs.{Said, verdict_at, verdicts, said_by_plan, said_by, said, last_at, known_at, Secret}
use Rattle.frame.specs.Alike.{Alike}
use Rattle.theorem_secrecy.proofs.Alike.{list_alike}
use Rattle.frame.proofs.Alike.{refusal_same}
use Rattle.frame_paint.proofs.Fits.{step_marks}

-- ---- part 1: a word read
-- a word that is not refused has a known colour
word_marked : (r : ReadArgs) (w n : ℕ) (x : Pixel) → word_refusal r w n x ≡ 0 → color_marked x.mark ≡ true
unfolding word_refusal
word_marked r w n x p = grind arith

read_marked : (r : ReadArgs) (w h : ℕ) (f : Frame) → read_refusal r w h f ≡ 0 → color_marked (pixel_at f r.pixel).mark ≡ true
unfolding read_refusal
read_marked r w h f p = grind (arith, word_marked r w (w * h) (pixel_at f r.pixel))

word_same : (r : ReadArgs) (w : ℕ) (x y : Pixel) → AlikePixel x y → color_marked x.mark ≡ true → word_of r w x ≡ word_of r w y
unfolding word_of
word_same r w x y h t = rw (h.red t, h.green t, h.blue t, same_coverage h)

module _ (w h : ℕ) {f g : Frame} (a : Alike f g) (r : ReadArgs) where
  read_refusal_same : read_refusal r w h f ≡ read_refusal r w h g
  unfolding read_refusal word_refusal
  read_refusal_same = rw (refusal_same w h a, a.marks)

  read_same : read_answer r w h f ≡ read_answer r w h g
  unfolding read_answer
  read_same =
      grind (arith, read_refusal_same, λ (e : read_refusal r w h f ≡ 0). word_same r w (pixel_at f r.pixel) (pixel_at g r.pixel) (a.pixels r.pixel) (read_marked r w h f e))

-- a run is its single reads, one after the other
module _ (w h : ℕ) {f g : Frame} (a : Alike f g) (r : ReadArgs) (ws ns : List ℕ) where
  run_same : run_answer r w h f ws ns ≡ run_answer r w h g ws ns
  unfolding run_answer
  run_same =
      ap (λ (x : RunAnswer). cond (eqb (length ws) (2 * length ns)) x (record { number = 19; count = 0; words = ws; numbers = ns }))
      (ap run_by
      (answers_same (λ (i : ℕ). read_answer (read_at r i) w h f) (λ (i : ℕ). read_answer (read_at r i) w h g) 0 (length ns)
      (λ i p q. read_same w h a (read_at r i))))

-- ---- part 2: a draw
module _ (w h : ℕ) {f g : Frame} (a : Alike f g) (d : DrawArgs) where
  draw_alike : Alike (draw_frame d w h f) (draw_frame d w h g)
  unfolding draw_frame
  draw_alike = rw (plan_same d w h f g (refusal_same w h a)) (go (plan_of d w h g))
    where
      go : (plan : Plan) → Alike (frame_by d.mode plan f) (frame_by d.mode plan g)
      go (Plan.refuse n) = a
      go (Plan.accept k es) = list_alike d.mode k f g es a

-- mark 1 of pixel p after an emitted pixel, and after a list of them
module _ (mode : RenderMode) (k : Combiner) (p : ℕ) where
  step_mark :
      (f : Frame) (e : Emit) → e.pixel < length f.marks
      → known_at p (step_frame mode k f e) ≡ cond (eqb e.pixel p) (verdict_at mode f e) (known_at p f)
  unfolding step_frame
  step_mark f e l = go (ℕ_discrete e.pixel p)
    where
      q : ℕ
      q = e.pixel

      mark : ℕ
      mark = (pixel_step mode k (source_of e) (pixel_at f q)).mark

      go : Dec (q ≡ p) → color_marked (get_or (set f.marks q mark) p 0) ≡ cond (eqb q p) (verdict_at mode f e) (color_marked (get_or f.marks p 0))
      go (yes r) = grind (arith, get_or-set_same f.marks q mark 0 l, color_after mode k (source_of e) (pixel_at f q))
      go (no n) = grind (arith, get_or-set_other f.marks q p mark 0)

  list_mark :
      (f : Frame) (es : List Emit) → Placed (length f.marks) es → known_at p (draw_list mode k f es) ≡ last_at p (verdicts mode k f es) (known_at p f)
  list_mark f [] b = refl
  list_mark f (e ∷ es) (Placed.more l c b) =
      list_mark (step_frame mode k f e) es (subst (λ (n : ℕ). Placed n es) (sym (step_marks mode k f e)) b)
      ∙ ap (last_at p (verdicts mode k (step_frame mode k f e) es)) (step_mark f e l)

-- what a plan emits has mark bytes
module _ (w h : ℕ) (engine : Engine) (d : DrawArgs) (f : Frame) where
  draw_mark : (p : ℕ) → known_at p (draw_frame d w h f) ≡ last_at p (said_by w h (Call.draw engine d) f) (known_at p f)
  unfolding draw_frame said_by
  draw_mark p = go (plan_of d w h f) (plan_marked d w h f)
    where
      go : (plan : Plan) → Placed (length f.marks) (pixels_of plan) → known_at p (frame_by d.mode plan f) ≡ last_at p (said_by_plan d.mode f plan) (known_at p f)
      go (Plan.refuse k) b = refl
      go (Plan.accept k es) b = list_mark d.mode k p f es b

-- ---- part 3: any list
-- the three facts of a call
record Keeps (w h : ℕ) (o : Call) : Type 0 where
  same : (f g : Frame) → Alike f g → answer_to w h o f ≡ answer_to w h o g
  alike : (f g : Frame) → Alike f g → Alike (frame_after w h o f) (frame_after w h o g)
  marked : (f : Frame) (p : ℕ) → known_at p (frame_after w h o f) ≡ last_at p (said_by w h o f) (known_at p f)

last_append : (p : ℕ) (ss ts : List Said) (b : Bool) → last_at p (ss ++ ts) b ≡ last_at p ts (last_at p ss b)
last_append p [] ts b = refl
last_append p (s ∷ ss) ts b = last_append p ss ts (cond (eqb s.pixel p) s.verdict b)

module _ (w h : ℕ) where
  keeps : (o : Call) → Keeps w h o
  unfolding said_by
  keeps (Call.draw engine d) =
      record {
        same = λ f g a. ap Answer.drawn (draw_same d w h f g (refusal_same w h a));
        alike = λ f g a. draw_alike w h a d;
        marked = λ f p. draw_mark w h engine d f p;
      }
  keeps (Call.read r) =
      record {
        same = λ f g a. ap Answer.word (read_same w h a r);
        alike = λ f g a. a;
        marked = λ f p. refl;
      }
  keeps (Call.reads r ws ns) =
      record {
        same = λ f g a. ap Answer.run (run_same w h a r ws ns);
        alike = λ f g a. a;
        marked = λ f p. refl;
      }
  keeps (Call.pixel engine d k) =
      record {
        same = λ f g a. ap Answer.masked (pixel_same d w h f g (refusal_same w h a) k);
        alike = λ f g a. a;
        marked = λ f p. refl;
      }
  keeps (Call.pixels engine d first ps ms) =
      record {
        same = λ f g a. ap Answer.listed (pixels_same d w h f g (refusal_same w h a) first ps ms);
        alike = λ f g a. a;
        marked = λ f p. refl;
      }

  same_answers : (os : List Call) (f g : Frame) → Alike f g → answers w h os f ≡ answers w h os g
  same_answers [] f g a = refl
  same_answers (o ∷ os) f g a =
      ap₂ (λ (x : Answer) (xs : List Answer). x ∷ xs) ((keeps o).same f g a)
      (same_answers os (frame_after w h o f) (frame_after w h o g) ((keeps o).alike f g a))

  alike_after : (os : List Call) (f g : Frame) → Alike f g → Alike (frame_after_all w h os f) (frame_after_all w h os g)
  alike_after [] f g a = a
  alike_after (o ∷ os) f g a = alike_after os (frame_after w h o f) (frame_after w h o g) ((keeps o).alike f g a)

  marked_after : (os : List Call) (f : Frame) (p : ℕ) → known_at p (frame_after_all w h os f) ≡ last_at p (said w h os f) (known_at p f)
  marked_after [] f p = refl
  marked_after (o ∷ os) f p =
      marked_after os (frame_after w h o f) p
      ∙ ap (last_at p (said w h os (frame_after w h o f))) ((keeps o).marked f p)
      ∙ sym (last_append p (said_by w h o f) (said w h os (frame_after w h o f)) (known_at p f))

-- For every list of draws, word reads, questions for emitted pixels and runs of the latter two, refused ones included, made in order on two frames that are alike in sizes, slice lengths, marks, known colours and
-- known coverages: the answers are the same from first to last, the frames are alike after it, and on each a pixel's colour is then marked known exactly when F1
-- and F2 said yes to the last pixel that the list's accepted draws emitted there, or, if they emitted none there, when it was so marked at the start.
pub secret : (w h : ℕ) (os : List Call) (f g : Frame) → Alike f g → Secret w h os f g
secret w h os f g a =
    record {
      same = same_answers w h os f g a;
      alike = alike_after w h os f g a;
      marked = marked_after w h os f;
      marked' = marked_after w h os g;
    }
