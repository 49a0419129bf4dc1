-- Inner vocabulary. A frame that is lent to be read, as what its slices hold. Definitions only.
use Rattle.std.specs.Prelude.{ℕ, ◌≡◌}
use Rattle.frame.specs.declared.Frame as lent
use Rattle.frame.specs.Frame.{Frame}
use Rattle.frame.specs.Slices.{held}

abbrev pub seen : lent.Frame → Frame
seen f = held f.slices

-- it has these sizes and holds this
pub record Shows (f : lent.Frame) (w h : ℕ) (shown : Frame) : Type 0 where
  pub width : f.width ≡ w
  pub height : f.height ≡ h
  pub holds : seen f ≡ shown
