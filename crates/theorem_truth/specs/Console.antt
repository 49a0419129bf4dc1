-- To be believed. A list of calls on the console, on which nothing is unknown: each emitted pixel of a draw stores `blend`'s bytes and `destination`'s coverage. Which draws
-- are accepted and what they emit are those of the port. Definitions only. Source: docs/RULES.md, What is known is true.
use Rattle.std.specs.Prelude.{ℕ, List, [], ◌∷◌}
use Rattle.state.specs.declared.RenderMode.{RenderMode}
use Rattle.combiner.specs.declared.Combiner.{Combiner}
use Rattle.frame_pixel.specs.Knows.{console_step}
use Rattle.raster_pixel.specs.Emitted.{Emit}
use Rattle.frame.specs.Frame.{Frame, pixel_at, put_pixel}
use Rattle.frame_paint.specs.Steps.{source_of}
use Rattle.frame_draw.specs.Draw.{Plan, plan_of}
use Rattle.theorem_calls.specs.Calls.{Call}

-- emitted pixels, one after the other
abbrev pub console_list : RenderMode → Combiner → Frame → List Emit → Frame
console_list mode k f [] = f
console_list mode k f (e ∷ es) = console_list mode k (put_pixel f e.pixel (console_step mode k (source_of e) (pixel_at f e.pixel))) es

abbrev pub console_by : RenderMode → Plan → Frame → Frame
console_by mode (Plan.refuse n) f = f
console_by mode (Plan.accept k es) f = console_list mode k f es

module _ (w h : ℕ) where
  -- after a call, and after a list of them
  abbrev pub console_after : Call → Frame → Frame
  console_after (Call.draw engine d) f = console_by d.mode (plan_of d w h f) f
  console_after (Call.read a) f = f
  console_after (Call.reads a ws ns) f = f
  console_after (Call.pixel engine d k) f = f
  console_after (Call.pixels engine d first ps ms) f = f

  abbrev pub console_after_all : List Call → Frame → Frame
  console_after_all [] f = f
  console_after_all (o ∷ os) f = console_after_all os (console_after o f)
