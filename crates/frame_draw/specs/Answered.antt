-- Inner vocabulary. What the code's checks of a draw answer, as a plan. Definitions only.
use Rattle.std.specs.Prelude.{ℕ, ◌*◌, ◌≡◌, Result, Ok, Err}
use Rattle.frame.specs.Frame.{Frame}
use Rattle.frame.specs.Fits.{Fit}
use Rattle.refused.specs.declared.Refusal.{Refusal}
use Rattle.refused.specs.Numbers.{number_of}
use Rattle.raster_pixel.specs.Draw.{emitted_as}
use Rattle.frame_draw.specs.declared.accepted.AcceptedDraw.{AcceptedDraw}
use Rattle.frame_draw.specs.Draw.{DrawArgs, Plan, plan_of}

-- an accepted draw: its plan, the mode that was asked for, and a frame of the view's size
pub record Accepted (d : DrawArgs) (w h : ℕ) (f : Frame) (a : AcceptedDraw) : Type 0 where
  pub plan : Plan.accept a.shapes.combiner (emitted_as a.view a.shapes) ≡ plan_of d w h f
  pub mode : a.shapes.mode ≡ d.mode
  pub fit : Fit (a.view.width * a.view.height) f

-- what the code's checks answer is the draw's plan
abbrev pub Planned : DrawArgs → ℕ → ℕ → Frame → Result AcceptedDraw Refusal → Type 0
Planned d w h f (Ok a) = Accepted d w h f a
Planned d w h f (Err e) = Plan.refuse (number_of e) ≡ plan_of d w h f
