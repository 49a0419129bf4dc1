-- Emitted pixels turn on the frame by numbers 1 to 3 alone: where these say the same of two frames, the answers are the same. Assumes nothing.
use Prim.Native.Nat.{ℕ, ◌+◌}
use mathlib.Core.Path.{◌≡◌, ap}
use mathlib.Core.List.{List, [], ◌∷◌}
use lib.Dec.{eqb}
use lib.ListN.{length}
use mathlib.Core.Bool.{cond}
use Rattle.raster_pixel.proofs.Parts.{from_same}
use Rattle.frame.specs.Checks.{frame_refusal, or_else}
use Rattle.frame.specs.Frame.{Frame}
use Rattle.frame_draw.specs.Draw.{DrawArgs, Plan}
use Rattle.frame_draw.proofs.Frames.{plan_same, draw_same}
use Rattle.frame_emitted.specs.Emitted.{pixel_by, emitted_answer}
use Rattle.frame_emitted.specs.Run.{singles, pixels_by, emitted_run}

module _ (d : DrawArgs) (w h : ℕ) (f g : Frame) (e : frame_refusal f w h ≡ frame_refusal g w h) where
  pub pixel_same : (k : ℕ) → emitted_answer d w h f k ≡ emitted_answer d w h g k
  unfolding emitted_answer
  pixel_same k = ap (λ (p : Plan). pixel_by p k) (plan_same d w h f g e)

  pub pixels_same : (first : ℕ) (ps ms : List ℕ) → emitted_run d w h f first ps ms ≡ emitted_run d w h g first ps ms
  unfolding emitted_run
  pixels_same first ps ms =
      let drawn = draw_same d w h f g e in
      let all : singles d w h f first (length ms) ≡ singles d w h g first (length ms) =
      from_same (λ (k : ℕ). emitted_answer d w h f k ∷ []) (λ (k : ℕ). emitted_answer d w h g k ∷ []) first (first + length ms) (λ k p q i. pixel_same k i ∷ []) in
      (λ i. pixels_by (or_else (drawn i).number (cond (eqb (length ps) (length ms)) 0 20)) first (drawn i).pixels (all i) ps ms)
