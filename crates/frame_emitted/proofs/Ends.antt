-- What a question for an emitted pixel has of the draw: the same number; below the draw's count a pixel of the frame with a sample, so that its mask is not 0; and from the count
-- on nothing. So the mask tells pixel 0 from none. Assumes nothing.
use Prim.Native.Nat.{ℕ, zero, suc, ◌+◌, ◌*◌, ◌≤◌, ◌<◌}
use mathlib.Core.Path.{◌≡◌, refl, ap}
use mathlib.Core.List.{List, [], ◌∷◌, map}
use native.Mathlib.Omega.{arith}
use lib.ListN.{length, length-map, get_or-eq_default}
use Rattle.raster_pixel.specs.Emitted.{Emit}
use Rattle.raster_pixel.proofs.Placed.{Placed}
use Rattle.raster_emitted.specs.Masked.{masked_of, no_pixel, kth}
use Rattle.frame.specs.Frame.{Frame}
use Rattle.frame_draw.specs.Draw.{DrawArgs, Plan, plan_of, answer_by, draw_answer}
use Rattle.frame_draw.proofs.Frames.{pixels_of, plan_placed}
use Rattle.frame_emitted.specs.Emitted.{PixelAnswer, without_pixel, pixel_of, pixel_by, emitted_answer}
use Rattle.frame_emitted.specs.Run.{singles, pixels_refusal, pixels_by, emitted_run}

kth_placed : {n : ℕ} (es : List Emit) → Placed n es → (k : ℕ) → k < length es → ((kth es k).pixel < n) × (0 < (kth es k).mask)
kth_placed [] p k h = absurd (omega arith)
kth_placed (e ∷ es) (Placed.more l c p) zero h = (l, c.0)
kth_placed (e ∷ es) (Placed.more l c p) (suc k) h = kth_placed es p k (omega arith)

module _ (d : DrawArgs) (w h : ℕ) (f : Frame) (k : ℕ) where
  -- It is turned away exactly as the draw is.
  pub same_number : (emitted_answer d w h f k).number ≡ (draw_answer d w h f).number
  unfolding emitted_answer draw_answer
  same_number = go (plan_of d w h f)
    where
      go : (p : Plan) → (pixel_by p k).number ≡ (answer_by p).number
      go (Plan.refuse n) = refl
      go (Plan.accept c es) = refl

  -- Below the draw's count of pixels there is one, of the frame, and its mask is not 0.
  pub pixel_there : k < (draw_answer d w h f).pixels → ((emitted_answer d w h f k).pixel < w * h) × (0 < (emitted_answer d w h f k).mask)
  unfolding emitted_answer draw_answer
  pixel_there = go (plan_of d w h f) (plan_placed d w h f)
    where
      go : (p : Plan) → Placed (w * h) (pixels_of p) → k < (answer_by p).pixels → ((pixel_by p k).pixel < w * h) × (0 < (pixel_by p k).mask)
      go (Plan.refuse n) q l = absurd (omega arith)
      go (Plan.accept c es) q l = kth_placed es q k l

  -- From it on there is none: pixel and mask are 0.
  pub pixel_past : (draw_answer d w h f).pixels ≤ k → emitted_answer d w h f k ≡ without_pixel (draw_answer d w h f).number
  unfolding emitted_answer draw_answer
  pixel_past = go (plan_of d w h f)
    where
      go : (p : Plan) → (answer_by p).pixels ≤ k → pixel_by p k ≡ without_pixel (answer_by p).number
      go (Plan.refuse n) l = refl
      go (Plan.accept c es) l = ap pixel_of (get_or-eq_default (map masked_of es) no_pixel (omega (arith, length-map es masked_of)))

-- Of a run that is accepted, the slots that count as listed are those that have a pixel: slot i is the single answer to first + i.
module _ (d : DrawArgs) (w h : ℕ) (f : Frame) (first : ℕ) (ps ms : List ℕ) where
  pub listed_there :
      (i : ℕ) → i < (emitted_run d w h f first ps ms).listed → (i < length ms) × (0 < (emitted_answer d w h f (first + i)).mask)
  unfolding emitted_run
  listed_there i = go (pixels_refusal d w h f ps ms)
    where
      go :
          (n : ℕ) → i < (pixels_by n first (draw_answer d w h f).pixels (singles d w h f first (length ms)) ps ms).listed
          → (i < length ms) × (0 < (emitted_answer d w h f (first + i)).mask)
      go zero l = (omega arith, (pixel_there d w h f (first + i) (omega arith)).1)
      go (suc n) l = absurd (omega arith)

  pub listed_past :
      (emitted_run d w h f first ps ms).number ≡ 0 → (i : ℕ) → i < length ms → (emitted_run d w h f first ps ms).listed ≤ i
      → (emitted_answer d w h f (first + i)).mask ≡ 0
  unfolding emitted_run
  listed_past z i l = go (pixels_refusal d w h f ps ms) z
    where
      go :
          (n : ℕ) → (pixels_by n first (draw_answer d w h f).pixels (singles d w h f first (length ms)) ps ms).number ≡ 0
          → (pixels_by n first (draw_answer d w h f).pixels (singles d w h f first (length ms)) ps ms).listed ≤ i
          → (emitted_answer d w h f (first + i)).mask ≡ 0
      go zero y m = ap (λ (a : PixelAnswer). a.mask) (pixel_past d w h f (first + i) (omega arith))
      go (suc n) y m = absurd (omega arith)
