-- A draw and numbers 1 to 3: it never changes what they say of the frame. A frame that they refuse stays as it is. One that they accept is drawn on only by the
-- rules, at pixels of the frame with 1 to 8 samples, which keeps its lengths, its marks and its known coverages in their ranges. Assumes nothing.
use Prim.Native.Nat.{ℕ, zero, suc, ◌*◌}
use mathlib.Core.Path.{◌≡◌, refl, sym, ap, subst, ◌∙◌}
use mathlib.Core.Bool.{Bool, true, false, cond}
use mathlib.Core.List.{List, []}
use native.Mathlib.Omega.{arith}
use lib.ListN.{length}
use Rattle.combiner.specs.declared.Combiner.{Combiner}
use Rattle.std.specs.Prelude.{Option, Some, None}
use Rattle.combiner.specs.New.{new_of}
use Rattle.raster_pixel.specs.Admitted.{admitted_of}
use Rattle.raster_pixel.specs.Emitted.{Emit}
use Rattle.raster_pixel.proofs.Placed.{Placed, geometry_placed}
use Rattle.frame.specs.Frame.{Frame}
use Rattle.frame.specs.Checks.{frame_refusal}
use Rattle.frame.proofs.Fits.{accepted, not_refused}
use Rattle.frame_paint.proofs.Fits.{fit_list}
use Rattle.frame_draw.specs.Checks.{entry_refusal}
use Rattle.frame_draw.specs.Draw.{DrawArgs, Plan, emitted_by, made_plan, refuse_or, plan_of, answer_by, frame_by, draw_answer, draw_frame}

-- ---- the pixels that a plan emits are pixels of the frame, with 1 to 8 samples each
abbrev pub pixels_of : Plan → List Emit
pixels_of (Plan.refuse k) = []
pixels_of (Plan.accept k es) = es

module _ (d : DrawArgs) (w h : ℕ) where
  emitted_placed : (k : Combiner) → Placed (w * h) (emitted_by d w h k)
  emitted_placed k = geometry_placed d.scissor w h d.mode k d.cull d.vertices d.present d.indices d.geometry

  made_placed : (m : Option Combiner) → Placed (w * h) (pixels_of (made_plan d w h m))
  made_placed None = Placed.none
  made_placed (Some k) = go (admitted_of k d.geometry d.vertices d.present d.indices)
    where
      go : (b : Bool) → Placed (w * h) (pixels_of (cond b (Plan.accept k (emitted_by d w h k)) (Plan.refuse 7)))
      go true = emitted_placed k
      go false = Placed.none

  pub plan_placed : (f : Frame) → Placed (w * h) (pixels_of (plan_of d w h f))
  unfolding plan_of
  plan_placed f = go (entry_refusal f w h d.scissor d.vertices d.present d.indices)
    where
      go : (r : ℕ) → Placed (w * h) (pixels_of (refuse_or r (made_plan d w h (new_of d.uniform d.mode))))
      go zero = made_placed (new_of d.uniform d.mode)
      go (suc r) = Placed.none

-- the frame enters a plan only by numbers 1 to 3
pub plan_same : (d : DrawArgs) (w h : ℕ) (f g : Frame) → frame_refusal f w h ≡ frame_refusal g w h → plan_of d w h f ≡ plan_of d w h g
unfolding plan_of entry_refusal
plan_same d w h f g e = rw e

pub draw_same : (d : DrawArgs) (w h : ℕ) (f g : Frame) → frame_refusal f w h ≡ frame_refusal g w h → draw_answer d w h f ≡ draw_answer d w h g
unfolding draw_answer
draw_same d w h f g e = ap answer_by (plan_same d w h f g e)

module _ (d : DrawArgs) (w h : ℕ) (f : Frame) where
  -- of a frame that numbers 1 to 3 refuse, the plan is their number
  refused_plan : {r : ℕ} → frame_refusal f w h ≡ suc r → plan_of d w h f ≡ Plan.refuse (suc r)
  unfolding plan_of entry_refusal
  refused_plan e = rw e

  -- so the pixels that a plan emits have mark bytes, also where the slices have other lengths
  pub plan_marked : Placed (length f.marks) (pixels_of (plan_of d w h f))
  plan_marked = go (frame_refusal f w h) refl
    where
      go : (r : ℕ) → frame_refusal f w h ≡ r → Placed (length f.marks) (pixels_of (plan_of d w h f))
      go zero e = subst (λ (n : ℕ). Placed n (pixels_of (plan_of d w h f))) (sym (accepted f w h e).fit.marks) (plan_placed d w h f)
      go (suc r) e = rw (refused_plan e) Placed.none

  -- ---- numbers 1 to 3 after it
  draw_accepted : frame_refusal f w h ≡ 0 → frame_refusal (draw_frame d w h f) w h ≡ 0
  unfolding draw_frame
  draw_accepted e = go (plan_of d w h f) (plan_placed d w h f)
    where
      go : (plan : Plan) → Placed (w * h) (pixels_of plan) → frame_refusal (frame_by d.mode plan f) w h ≡ 0
      go (Plan.refuse k) p = e
      go (Plan.accept k es) p =
          let a = accepted f w h e in
          not_refused _ w h (record { width = a.width; height = a.height; few = a.few; fit = fit_list d.mode k a.fit p })

  -- A draw does not change what numbers 1 to 3 say of the frame, whether it is accepted or not.
  pub draw_refusal : frame_refusal (draw_frame d w h f) w h ≡ frame_refusal f w h
  unfolding draw_frame
  draw_refusal = go (frame_refusal f w h) refl
    where
      go : (r : ℕ) → frame_refusal f w h ≡ r → frame_refusal (draw_frame d w h f) w h ≡ frame_refusal f w h
      go zero e = draw_accepted e ∙ sym e
      go (suc r) e = ap (λ (p : Plan). frame_refusal (frame_by d.mode p f) w h) (refused_plan e)

  -- So an accepted draw, one that answers number 0, leaves a frame that numbers 1 to 3 accept again.
  pub accepted_again : (draw_answer d w h f).number ≡ 0 → frame_refusal (draw_frame d w h f) w h ≡ 0
  unfolding draw_answer
  accepted_again z = draw_refusal ∙ go (frame_refusal f w h) refl
    where
      go : (r : ℕ) → frame_refusal f w h ≡ r → frame_refusal f w h ≡ 0
      go zero e = e
      go (suc r) e = absurd (omega (arith, z, ap (λ (p : Plan). (answer_by p).number) (refused_plan e)))
