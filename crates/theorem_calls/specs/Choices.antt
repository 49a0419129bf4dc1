-- To be believed. Lists of calls that differ only in the engines that their calls choose, and what such lists have in common. Definitions only. Source: document 02, S-2;
-- docs/RASTERISER.md.
use Rattle.std.specs.Prelude.{ℕ, suc, ◌≡◌, List, [], ◌∷◌, map}
use Rattle.frame.specs.Frame.{Frame}
use Rattle.frame_draw.specs.declared.Engine.{Engine}
use Rattle.frame_draw.specs.declared.Engine.TheVariants.{Fast}
use Rattle.theorem_calls.specs.Calls.{Call, answers, frame_after_all}

-- a call with this choice; a word read has none
abbrev pub chosen : Engine → Call → Call
chosen engine (Call.draw e d) = Call.draw engine d
chosen engine (Call.read a) = Call.read a
chosen engine (Call.reads a ws ns) = Call.reads a ws ns
chosen engine (Call.pixel e d k) = Call.pixel engine d k
chosen engine (Call.pixels e d first ps ms) = Call.pixels engine d first ps ms

-- two lists that differ only in choices: with one choice throughout they are the same
abbrev pub SameButChoices : List Call → List Call → Type 0
SameButChoices xs ys = map (chosen Fast) xs ≡ map (chosen Fast) ys

-- a list with its choices made anew, call by call in any way
abbrev pub rechosen : (ℕ → Engine) → List Call → List Call
rechosen engines [] = []
rechosen engines (o ∷ os) = chosen (engines 0) o ∷ rechosen (λ (i : ℕ). engines (suc i)) os

-- the claim on two lists on a frame: the same answers, and the same frame after them
pub record SameOutcome (w h : ℕ) (xs ys : List Call) (f : Frame) : Type 0 where
  pub same : answers w h xs f ≡ answers w h ys f
  pub frame : frame_after_all w h xs f ≡ frame_after_all w h ys f
