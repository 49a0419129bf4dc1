-- To be believed. What the two questions leave, as the clauses of `emitted_pixel` and `emitted_pixels` say it, without the engine: laws on both engines speak of it. Definitions
-- only. Source: document 02, S-2.
use Rattle.std.specs.Prelude.{ℕ, ◌≡◌, List, Option, Result}
use Rattle.refused.specs.declared.Refusal.{Refusal}
use Rattle.frame.specs.Frame.{Frame}
use Rattle.frame_draw.specs.Draw.{DrawArgs}
use Rattle.frame_emitted.specs.declared.Emitted.{Emitted}
use Rattle.frame_emitted.specs.declared.Listed.{Listed}
use Rattle.frame_emitted.specs.Emitted.{pixel_means, NumberedPixel, emitted_answer}
use Rattle.frame_emitted.specs.Run.{pixels_means, NumberedPixels, emitted_run}

-- the answer r to a question for pixel k: what `emitted_pixel` ensures, clause by clause
pub record PixelOutcome (d : DrawArgs) (w h : ℕ) (f : Frame) (k : ℕ) (r : Result (Option Emitted) Refusal) : Type 0 where
  pub answer : pixel_means r ≡ emitted_answer d w h f k
  pub number : NumberedPixel r

-- the answer r to a run of questions from place first on, and its slices, ps and ms before and ps' and ms' afterwards: what `emitted_pixels` ensures, clause by clause
pub record PixelsOutcome (d : DrawArgs) (w h : ℕ) (f : Frame) (first : ℕ) (ps ms : List ℕ) (r : Result Listed Refusal) (ps' ms' : List ℕ) : Type 0 where
  pub answer : pixels_means r ps' ms' ≡ emitted_run d w h f first ps ms
  pub number : NumberedPixels r
