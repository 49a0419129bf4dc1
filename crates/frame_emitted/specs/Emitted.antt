-- To be believed. The k-th pixel that a draw emits, from 0, and its mask. Definitions only. Source: document 02, S-1; docs/RULES.md, Emitted pixels by themselves.
use Rattle.std.specs.Prelude.{ℕ, ◌≤◌, Option, Some, None, Result, Ok, Err}
use Rattle.refused.specs.declared.Refusal.{Refusal}
use Rattle.refused.specs.Numbers.{number_of}
use Rattle.raster_emitted.specs.Masked.{Masked, kth}
use Rattle.frame.specs.Frame.{Frame}
use Rattle.frame_draw.specs.Draw.{DrawArgs, Plan, plan_of}
use Rattle.frame_emitted.specs.declared.Emitted.{Emitted}

-- an answer in the terms of docs/RULES.md: its number, the pixel and its mask
pub record PixelAnswer : Type 0 where
  pub number : ℕ
  pub pixel : ℕ
  pub mask : ℕ

-- no pixel: past the last, with number 0, or turned away with a number, both are 0
abbrev pub without_pixel : ℕ → PixelAnswer
without_pixel n = record { number = n; pixel = 0; mask = 0 }

abbrev pub pixel_of : Masked → PixelAnswer
pixel_of e = record { number = 0; pixel = e.pixel; mask = e.mask }

abbrev pub pixel_means : Result (Option Emitted) Refusal → PixelAnswer
pixel_means (Ok (Some e)) = record { number = 0; pixel = e.pixel; mask = e.mask }
pixel_means (Ok None) = without_pixel 0
pixel_means (Err e) = without_pixel (number_of e)

-- a pixel has a sample, so that none is answered past the last; and a refusal's number is not 0
abbrev pub NumberedPixel : Result (Option Emitted) Refusal → Type 0
NumberedPixel (Ok (Some e)) = 1 ≤ e.mask
NumberedPixel (Ok None) = Unit
NumberedPixel (Err e) = 1 ≤ number_of e

-- numbers 1 to 7 as a draw has them, or the k-th of the list that it would carry out
abbrev pub pixel_by : Plan → ℕ → PixelAnswer
pixel_by (Plan.refuse n) k = without_pixel n
pixel_by (Plan.accept c es) k = pixel_of (kth es k)

unfoldable pub emitted_answer : DrawArgs → ℕ → ℕ → Frame → ℕ → PixelAnswer
emitted_answer d w h f k = pixel_by (plan_of d w h f) k
