-- Laws of a draw's plan: what the checks answer is the plan, what they let through can be drawn, and answer and frame follow from the plan. Assumes nothing.
use mathlib.Core.Path.{◌≡◌, refl, sym, ap, ap₂, ◌∙◌}
use mathlib.Core.Bool.{Bool, true, false, cond, ◌&&◌}
use mathlib.Core.List.{List}
use Prim.Native.Nat.{ℕ, zero, suc, ◌*◌, ◌%◌, ◌≤◌}
use native.Mathlib.Omega.{arith}
use borrow.Author.Tests.{leb-true}
use lib.Dec.{leb, eqb}
use lib.Ieee.{Float}
use lib.ListN.{length}
use Rattle.std.proofs.lemmas.Bool.{and_parts}
use Rattle.state.specs.declared.RenderMode.{RenderMode}
use Rattle.combiner.specs.declared.Combiner.{Combiner}
use Rattle.std.specs.Prelude.{Option, Some, None, Result, Ok, Err}
use Rattle.std.specs.Option.{ok_or}
use Rattle.std.specs.Result.{IsErrAnd}
use Rattle.refused.specs.declared.Refusal.{Refusal}
use Rattle.refused.specs.declared.Refusal.TheVariants as refusal
use Rattle.refused.specs.Numbers.{number_of}
use Rattle.refused.proofs.Numbers.{positive}
use Rattle.combiner.specs.New.{new_of}
use Rattle.raster_pixel.specs.declared.Scissor.{Scissor}
use Rattle.raster_pixel.specs.Admitted.{admitted_of}
use Rattle.raster_pixel.specs.Area.{Sized}
use Rattle.raster_pixel.specs.Draw.{emitted_as}
use Rattle.raster_pixel.specs.Ran.{Ran}
use Rattle.frame.specs.Frame.{Frame, frame_of}
use Rattle.frame.specs.Fits.{Fit}
use Rattle.frame_paint.specs.Steps.{step_frame}
use Rattle.frame.specs.Checks.{frame_refusal, or_else}
use Rattle.frame_draw.specs.declared.accepted.AcceptedDraw.{AcceptedDraw}
use Rattle.frame_draw.specs.Checks.{scissor_ok, flags_ok, inputs_ok, entry_refusal}
use Rattle.frame_draw.specs.Draw.{DrawArgs, Plan, emitted_by, admitted_plan, made_plan, refuse_or, plan_of, drawn_means, answer_by, frame_by, draw_answer, draw_frame}
use Rattle.frame_draw.specs.Answered.{Accepted, Planned}
use Rattle.frame.proofs.Fits.{accepted}

-- ---- the plan that the checks find
module _ (d : DrawArgs) (w h : ℕ) (f : Frame) where
  -- an `Err` that is handed on
  pub refused : (e : Refusal) → Plan.refuse (number_of e) ≡ plan_of d w h f → (r : Result AcceptedDraw Refusal) → IsErrAnd r (λ (x : Refusal). x ≡ e) → Planned d w h f r
  refused e p (Ok a) q = absurd q
  refused e p (Err x) q = ap (λ (x : Refusal). Plan.refuse (number_of x)) q ∙ p

  pub early : (e : Refusal) → number_of e ≡ entry_refusal f w h d.scissor d.vertices d.present d.indices → Plan.refuse (number_of e) ≡ plan_of d w h f
  unfolding plan_of
  early e p = rw (← p) (go (number_of e) (positive e))
    where
      go : (j : ℕ) → 1 ≤ j → Plan.refuse j ≡ refuse_or j (made_plan d w h (new_of d.uniform d.mode))
      go zero n = absurd (omega arith)
      go (suc j) n = refl

  module _ (z : 0 ≡ entry_refusal f w h d.scissor d.vertices d.present d.indices) {md : Option Combiner} (em : md ≡ new_of d.uniform d.mode) where
    made_as : made_plan d w h md ≡ plan_of d w h f
    unfolding plan_of
    made_as = rw (← z, ← em)

    pub sixth : md ≡ None → Plan.refuse 6 ≡ plan_of d w h f
    sixth n = ap (made_plan d w h) (sym n) ∙ made_as

    module _ {x : Combiner} (ex : md ≡ Some x) where
      admitted_as : admitted_plan d w h x ≡ plan_of d w h f
      admitted_as = ap (made_plan d w h) (sym ex) ∙ made_as

      pub seventh : admitted_of x d.geometry d.vertices d.present d.indices ≡ false → Plan.refuse 7 ≡ plan_of d w h f
      seventh n = (λ i. cond (sym n i) (Plan.accept x (emitted_by d w h x)) (Plan.refuse 7)) ∙ admitted_as

      pub taken : admitted_of x d.geometry d.vertices d.present d.indices ≡ true → Plan.accept x (emitted_by d w h x) ≡ plan_of d w h f
      taken n = (λ i. cond (sym n i) (Plan.accept x (emitted_by d w h x)) (Plan.refuse 7)) ∙ admitted_as

-- what `ok_or` answers tells whether there is a combiner
pub some_combiner : (md : Option Combiner) {x : Combiner} {r : Result Combiner Refusal} → r ≡ ok_or md refusal.Combiner → r ≡ Ok x → md ≡ Some x
some_combiner None p q = cc
some_combiner (Some y) p q = cc

pub no_combiner : (md : Option Combiner) {e : Refusal} {r : Result Combiner Refusal} → r ≡ ok_or md refusal.Combiner → r ≡ Err e → (md ≡ None) × (e ≡ refusal.Combiner)
no_combiner None p q = (refl, cc)
no_combiner (Some y) p q = cc

-- ---- what the checks leave of a draw that they let through
module _ (f : Frame) (w h : ℕ) (s : Scissor) (vs : List Float) (ps is : List ℕ) where
  pub record Entered : Type 0 where
    pub few : length is ≤ 12288
    pub sized : Sized s w h
    pub fit : Fit (w * h) f

  few_by : inputs_ok vs ps is ≡ true → length is ≤ 12288
  unfolding inputs_ok
  few_by p =
      let last = leb (length is) 12288 in
      let four = eqb (length is % 3) 0 && last in
      let three = flags_ok ps && four in
      let two = eqb (length vs) (6 * length ps) && three in
      leb-true (length is) 12288
      (and_parts (eqb (length is % 3) 0) last (and_parts (flags_ok ps) four (and_parts (eqb (length vs) (6 * length ps)) three (and_parts (leb (length ps) 4096) two p).1).1).1).1

  sized_by : w ≤ 1024 → h ≤ 1024 → scissor_ok s ≡ true → Sized s w h
  unfolding scissor_ok
  sized_by a b p =
      let l = leb s.left 65535 in
      let t = leb s.top 65535 in
      let x = leb s.width 65535 in
      let y = leb s.height 65535 in
      let p₂ : (t && (x && y)) ≡ true = (and_parts l (t && (x && y)) p).1 in
      let p₃ : (x && y) ≡ true = (and_parts t (x && y) p₂).1 in
      record {
        width_small = a;
        height_small = b;
        left_small = leb-true s.left 65535 (and_parts l (t && (x && y)) p).0;
        top_small = leb-true s.top 65535 (and_parts t (x && y) p₂).0;
        across_small = leb-true s.width 65535 (and_parts x y p₃).0;
        down_small = leb-true s.height 65535 (and_parts x y p₃).1;
      }

  entered_by : (k : ℕ) → k ≡ frame_refusal f w h → (b : Bool) → scissor_ok s ≡ b → (c : Bool) → inputs_ok vs ps is ≡ c → or_else k (cond b (cond c 0 5) 4) ≡ 0 → Entered
  entered_by (suc k) e b p c q z = absurd (omega arith)
  entered_by zero e false p c q z = absurd (omega arith)
  entered_by zero e true p false q z = absurd (omega arith)
  entered_by zero e true p true q z =
      let y = accepted f w h (sym e) in
      record { few = few_by q; sized = sized_by y.width.1 y.height.1 p; fit = y.fit }

  pub entered : entry_refusal f w h s vs ps is ≡ 0 → Entered
  unfolding entry_refusal
  entered z = entered_by (frame_refusal f w h) refl (scissor_ok s) refl (inputs_ok vs ps is) refl z

-- ---- the draw
module _ (d : DrawArgs) (w h : ℕ) (f : Frame) where
  -- turned away
  pub draw_refused : (e : Refusal) → Plan.refuse (number_of e) ≡ plan_of d w h f → (r : Result ℕ Refusal) → IsErrAnd r (λ (x : Refusal). x ≡ e)
      → (drawn_means r ≡ draw_answer d w h f) × (f ≡ draw_frame d w h f)
  unfolding draw_answer draw_frame
  draw_refused e p (Ok n) q = absurd q
  draw_refused e p (Err x) q =
      let plan : Plan.refuse (number_of x) ≡ plan_of d w h f = ap (λ (x : Refusal). Plan.refuse (number_of x)) q ∙ p in
      (ap answer_by plan, ap (λ (p : Plan). frame_by d.mode p f) plan)

  -- carried out
  pub draw_accepted :
      {a : AcceptedDraw} → Accepted d w h f a → {n : ℕ} {g : Frame} → Ran (step_frame a.shapes.mode a.shapes.combiner) (emitted_as a.view a.shapes) f g n
      → (drawn_means (Ok n) ≡ draw_answer d w h f) × (g ≡ draw_frame d w h f)
  unfolding draw_answer draw_frame
  draw_accepted x t =
      (ap (λ (n : ℕ). drawn_means (Ok n)) t.count ∙ ap answer_by x.plan, t.state ∙ ap₂ (λ (m : RenderMode) (p : Plan). frame_by m p f) x.mode x.plan)

-- a frame by its three slices
pub by_slices :
    {xs cs ms : List ℕ} {f g : Frame} → f ≡ g → xs ≡ f.colors → cs ≡ f.coverages → ms ≡ f.marks → frame_of xs cs ms ≡ g
by_slices p a b c = (λ i. frame_of (a i) (b i) (c i)) ∙ p
