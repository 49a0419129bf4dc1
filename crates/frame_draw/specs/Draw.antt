-- To be believed. A draw: it is turned away with a number, or carried out on the pixels that it emits. Definitions only. Source: docs/RULES.md, A draw, Rules F1 to F5
-- and The numbers.
use Rattle.std.specs.Prelude.{ℕ, zero, suc, ◌≤◌, Bool, List, Float, length, Option, Some, None, Result, Ok, Err, if◌then◌else◌}
use Rattle.state.specs.declared.RenderMode.{RenderMode}
use Rattle.state.specs.declared.CombinerUniform.{CombinerUniform}
use Rattle.combiner.specs.declared.Combiner.{Combiner}
use Rattle.combiner.specs.New.{new_of}
use Rattle.raster_pixel.specs.declared.Scissor.{Scissor}
use Rattle.raster_pixel.specs.declared.Geometry.{Geometry}
use Rattle.raster_pixel.specs.Admitted.{admitted_of}
use Rattle.raster_pixel.specs.Emitted.{Emit, geometry_emits}
use Rattle.refused.specs.declared.Refusal.{Refusal}
use Rattle.refused.specs.Numbers.{number_of}
use Rattle.frame.specs.Frame.{Frame}
use Rattle.frame_paint.specs.Steps.{draw_list}
use Rattle.frame_draw.specs.declared.DrawCall.{DrawCall}
use Rattle.frame_draw.specs.Checks.{entry_refusal}

-- everything that a draw carries but the frame
pub record DrawArgs : Type 0 where
  pub mode : RenderMode
  pub uniform : CombinerUniform
  pub cull : Bool
  pub scissor : Scissor
  pub geometry : Geometry
  pub vertices : List Float
  pub present : List ℕ
  pub indices : List ℕ

abbrev pub draw_args : RenderMode → CombinerUniform → Bool → Scissor → Geometry → List Float → List ℕ → List ℕ → DrawArgs
draw_args mode uniform cull scissor geometry vertices present indices =
    record {
      mode = mode;
      uniform = uniform;
      cull = cull;
      scissor = scissor;
      geometry = geometry;
      vertices = vertices;
      present = present;
      indices = indices;
    }

-- the draw that a call is given, its three slices as they were lent
abbrev pub draw_of : DrawCall → DrawArgs
draw_of d = draw_args d.mode d.uniform d.cull d.scissor d.geometry d.lists.vertices.now d.lists.present.now d.lists.indices.now

-- turned away with a number, or a combiner and the pixels that it emits
pub data Plan : Type 0 where
  refuse : ℕ → Plan
  accept : Combiner → List Emit → Plan

-- the pixels that a draw emits in a frame of w by h
abbrev pub emitted_by : DrawArgs → ℕ → ℕ → Combiner → List Emit
emitted_by d w h k = geometry_emits d.mode k d.cull d.scissor w h d.vertices d.present d.indices d.geometry

-- 7: the geometry is nothing, or `admitted` answers false
abbrev pub admitted_plan : DrawArgs → ℕ → ℕ → Combiner → Plan
admitted_plan d w h k =
    if admitted_of k d.geometry d.vertices d.present d.indices then Plan.accept k (emitted_by d w h k) else Plan.refuse 7

-- 6: `Combiner::new` answers None
abbrev pub made_plan : DrawArgs → ℕ → ℕ → Option Combiner → Plan
made_plan d w h None = Plan.refuse 6
made_plan d w h (Some k) = admitted_plan d w h k

-- 1 to 5 come first
abbrev pub refuse_or : ℕ → Plan → Plan
refuse_or zero plan = plan
refuse_or (suc n) plan = Plan.refuse (suc n)

unfoldable pub plan_of : DrawArgs → ℕ → ℕ → Frame → Plan
plan_of d w h f =
    refuse_or (entry_refusal f w h d.scissor d.vertices d.present d.indices) (made_plan d w h (new_of d.uniform d.mode))

-- an answer in the terms of docs/RULES.md: its number, and the count of pixels emitted, with repeats
pub record DrawAnswer : Type 0 where
  pub number : ℕ
  pub pixels : ℕ

abbrev pub drawn_means : Result ℕ Refusal → DrawAnswer
drawn_means (Ok n) = record { number = 0; pixels = n }
drawn_means (Err e) = record { number = number_of e; pixels = 0 }

-- a draw that is turned away has a number of the list
abbrev pub Numbered : Result ℕ Refusal → Type 0
Numbered (Ok n) = Unit
Numbered (Err e) = 1 ≤ number_of e

abbrev pub answer_by : Plan → DrawAnswer
answer_by (Plan.refuse k) = record { number = k; pixels = 0 }
answer_by (Plan.accept k es) = record { number = 0; pixels = length es }

-- the frame after: unchanged where the draw is turned away
abbrev pub frame_by : RenderMode → Plan → Frame → Frame
frame_by mode (Plan.refuse k) f = f
frame_by mode (Plan.accept k es) f = draw_list mode k f es

unfoldable pub draw_answer : DrawArgs → ℕ → ℕ → Frame → DrawAnswer
draw_answer d w h f = answer_by (plan_of d w h f)

unfoldable pub draw_frame : DrawArgs → ℕ → ℕ → Frame → Frame
draw_frame d w h f = frame_by d.mode (plan_of d w h f) f
