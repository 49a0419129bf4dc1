-- To be believed. Demand 3, over any list of calls on a frame: what is not known shows in no answer, and the marks are as the verdicts of F1 and F2 said. Definitions
-- only. Source: docs/RULES.md, What is not known does not show.
use Rattle.std.specs.Prelude.{ℕ, ◌≡◌, Bool, List, [], ◌∷◌, ◌++◌, if◌then◌else◌, ◌==◌, slice_index}
use Rattle.state.specs.declared.RenderMode.{RenderMode}
use Rattle.combiner.specs.declared.Combiner.{Combiner}
use Rattle.frame_pixel.specs.Marks.{color_marked}
use Rattle.frame_pixel.specs.Rules.{known_after}
use Rattle.raster_pixel.specs.Emitted.{Emit}
use Rattle.frame.specs.Frame.{Frame, pixel_at}
use Rattle.frame.specs.Alike.{Alike}
use Rattle.frame_paint.specs.Steps.{source_of, step_frame}
use Rattle.frame_draw.specs.Draw.{Plan, plan_of}
use Rattle.theorem_calls.specs.Calls.{Call, frame_after, answers, frame_after_all}

-- ---- what F1 and F2 said

-- a pixel and a verdict on it
pub record Said : Type 0 where
  pub pixel : ℕ
  pub verdict : Bool

-- the verdict on an emitted pixel, on the bytes just before it: that of the rules
abbrev pub verdict_at : RenderMode → Frame → Emit → Bool
verdict_at mode f e = known_after mode (source_of e) (pixel_at f e.pixel)

-- each emitted pixel of a list with its verdict, in order
abbrev pub verdicts : RenderMode → Combiner → Frame → List Emit → List Said
verdicts mode k f [] = []
verdicts mode k f (e ∷ es) = record { pixel = e.pixel; verdict = verdict_at mode f e } ∷ verdicts mode k (step_frame mode k f e) es

-- only accepted draws emit
abbrev pub said_by_plan : RenderMode → Frame → Plan → List Said
said_by_plan mode f (Plan.refuse n) = []
said_by_plan mode f (Plan.accept k es) = verdicts mode k f es

module _ (w h : ℕ) where
  unfoldable pub said_by : Call → Frame → List Said
  said_by (Call.draw engine d) f = said_by_plan d.mode f (plan_of d w h f)
  said_by (Call.read a) f = []
  said_by (Call.reads a ws ns) f = []
  said_by (Call.pixel engine d k) f = []
  said_by (Call.pixels engine d first ps ms) f = []

  abbrev pub said : List Call → Frame → List Said
  said [] f = []
  said (o ∷ os) f = said_by o f ++ said os (frame_after w h o f)

-- the last verdict at pixel p, or b where there is none
abbrev pub last_at : ℕ → List Said → Bool → Bool
last_at p [] b = b
last_at p (s ∷ ss) b = last_at p ss (if s.pixel == p then s.verdict else b)

-- pixel p's colour is marked known; without a mark byte it is not
abbrev pub known_at : ℕ → Frame → Bool
known_at p f = color_marked (slice_index f.marks p)

-- ---- the claim on a whole list: the answers are the same, the frames are alike again, and on each a pixel's colour is marked known exactly as the last verdict
-- on it said, or, where there is none, as at the start
pub record Secret (w h : ℕ) (os : List Call) (f g : Frame) : Type 0 where
  pub same : answers w h os f ≡ answers w h os g
  pub alike : Alike (frame_after_all w h os f) (frame_after_all w h os g)
  pub marked : (p : ℕ) → known_at p (frame_after_all w h os f) ≡ last_at p (said w h os f) (known_at p f)
  pub marked' : (p : ℕ) → known_at p (frame_after_all w h os g) ≡ last_at p (said w h os g) (known_at p g)
