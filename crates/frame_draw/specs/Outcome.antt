-- To be believed. What a draw leaves, as the three clauses of `draw` say it, without the engine: a law on both engines speaks of it. Definitions only. Source: document 02, S-2.
use Rattle.std.specs.Prelude.{ℕ, ◌≡◌, Result}
use Rattle.frame.specs.Frame.{Frame}
use Rattle.refused.specs.declared.Refusal.{Refusal}
use Rattle.frame_draw.specs.Draw.{DrawArgs, drawn_means, Numbered, draw_answer, draw_frame}

-- the answer r and the frame g that a draw leaves: what `draw` ensures, clause by clause
pub record Outcome (d : DrawArgs) (w h : ℕ) (f : Frame) (r : Result ℕ Refusal) (g : Frame) : Type 0 where
  pub answer : drawn_means r ≡ draw_answer d w h f
  pub frame : g ≡ draw_frame d w h f
  pub number : Numbered r
