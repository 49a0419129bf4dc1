-- What the true word is: along any list, a frame on which everything is known is the console's, of whose pixels `blend` and `destination` alone decide. So every word that
-- is handed out is the console's, whatever the bytes really were that were not known. Assumes nothing.
use Prim.Native.Nat.{ℕ, ◌≤◌, ◌<◌}
use mathlib.Core.Path.{◌≡◌, refl, sym, ap, subst, ◌∙◌}
use mathlib.Core.List.{List, [], ◌∷◌}
use lib.ListN.{length}
use Rattle.state.specs.declared.RenderMode.{RenderMode}
use Rattle.combiner.specs.declared.Combiner.{Combiner}
use Rattle.frame_pixel.specs.Knows.{console_step}
use Rattle.frame_pixel.proofs.Knows.{all_known_step}
use Rattle.raster_pixel.specs.Emitted.{Emit}
use Rattle.raster_pixel.proofs.Placed.{Placed}
use Rattle.frame.specs.Frame.{Frame, pixel_at, put_pixel}
use Rattle.frame.specs.Checks.{frame_refusal}
use Rattle.frame.specs.Knows.{KnowsAtLeast, AllKnown}
use Rattle.frame_paint.specs.Steps.{source_of, step_frame, draw_list}
use Rattle.frame_paint.proofs.Fits.{step_marks}
use Rattle.frame_draw.specs.Draw.{DrawArgs, Plan, plan_of, frame_by, draw_frame}
use Rattle.frame_draw.proofs.Frames.{pixels_of, plan_marked}
use Rattle.words_read.specs.Read.{ReadArgs, read_answer}
use Rattle.words_run.specs.Run.{entry_of, run_answer}
use Rattle.theorem_calls.specs.Calls.{Call, frame_after, frame_after_all}
use Rattle.theorem_truth.specs.Completed.{completed}
use Rattle.theorem_truth.specs.Console.{console_list, console_by, console_after, console_after_all}
use Rattle.theorem_truth.proofs.Truth.{true_word, true_entry, step_all_known, call_all_known}
use Rattle.theorem_truth.proofs.Completed.{completed_all_known, completed_knows, completed_truth}

-- ---- a draw
module _ (mode : RenderMode) (k : Combiner) where
  step_is : (f : Frame) (e : Emit) → e.pixel < length f.marks → AllKnown f
      → step_frame mode k f e ≡ put_pixel f e.pixel (console_step mode k (source_of e) (pixel_at f e.pixel))
  unfolding step_frame
  step_is f e l a = ap (put_pixel f e.pixel) (all_known_step mode k (source_of e) (pixel_at f e.pixel) (a.pixels e.pixel l))

  list_is : (f : Frame) (es : List Emit) → Placed (length f.marks) es → AllKnown f → draw_list mode k f es ≡ console_list mode k f es
  list_is f [] p a = refl
  list_is f (e ∷ es) (Placed.more l c p) a =
      list_is (step_frame mode k f e) es (subst (λ (n : ℕ). Placed n es) (sym (step_marks mode k f e)) p) (step_all_known mode k f e a)
      ∙ ap (λ (g : Frame). console_list mode k g es) (step_is f e l a)

draw_is : (w h : ℕ) (d : DrawArgs) (f : Frame) → AllKnown f → draw_frame d w h f ≡ console_by d.mode (plan_of d w h f) f
unfolding draw_frame
draw_is w h d f a = go (plan_of d w h f) (plan_marked d w h f)
  where
    go : (plan : Plan) → Placed (length f.marks) (pixels_of plan) → frame_by d.mode plan f ≡ console_by d.mode plan f
    go (Plan.refuse n) p = refl
    go (Plan.accept k es) p = list_is d.mode k f es p a

-- ---- any list
module _ (w h : ℕ) where
  -- Along any list, a frame on which everything is known is the console's.
  pub console-after : (os : List Call) (f : Frame) → AllKnown f → frame_after_all w h os f ≡ console_after_all w h os f
  console-after [] f a = refl
  console-after (o ∷ os) f a = console-after os (frame_after w h o f) (call_all_known w h o f a) ∙ ap (console_after_all w h os) (call o)
    where
      call : (o : Call) → frame_after w h o f ≡ console_after w h o f
      call (Call.draw engine d) = draw_is w h d f a
      call (Call.read r) = refl
      call (Call.reads r ws ns) = refl
      call (Call.pixel engine d k) = refl
      call (Call.pixels engine d first ps ms) = refl

-- ---- what is handed out
module _ (f : Frame) (colors coverages : ℕ → ℕ) (w h : ℕ) (low : (p : ℕ) → coverages p ≤ 7) (e : frame_refusal f w h ≡ 0) (os : List Call) where
  abbrev console : Frame
  console = console_after_all w h os (completed f colors coverages)

  is_console : frame_after_all w h os (completed f colors coverages) ≡ console
  is_console = console-after w h os (completed f colors coverages) (completed_all_known f colors coverages)

  -- What is marked known after a list is what the console has there.
  pub console_knows : KnowsAtLeast w h console (frame_after_all w h os f)
  console_knows = subst (λ (g : Frame). KnowsAtLeast w h g (frame_after_all w h os f)) is_console (completed_truth f colors coverages w h low e os).knows

  -- Every word that is handed out after a list is the word that the console would hand out, whatever the bytes really were that were not known.
  pub console_word :
      (r : ReadArgs) → (read_answer r w h (frame_after_all w h os f)).number ≡ 0 → read_answer r w h console ≡ read_answer r w h (frame_after_all w h os f)
  console_word r t =
      ap (read_answer r w h) (sym is_console) ∙ true_word w h os (completed f colors coverages) f (completed_knows f colors coverages w h low e) r t

  -- And so is every word of a run.
  pub console_entry :
      (r : ReadArgs) (ws ns : List ℕ) (i : ℕ)
      → let a = run_answer r w h (frame_after_all w h os f) ws ns in
      let b = run_answer r w h console ws ns in
      (entry_of a.words a.numbers i).number ≡ 0 → entry_of b.words b.numbers i ≡ entry_of a.words a.numbers i
  console_entry r ws ns i t =
      ap (λ (g : Frame). let b = run_answer r w h g ws ns in entry_of b.words b.numbers i) (sym is_console)
      ∙ true_entry w h os (completed f colors coverages) f (completed_knows f colors coverages w h low e) r ws ns i t
