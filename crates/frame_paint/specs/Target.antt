-- Inner vocabulary. What a contract sees of the frame that a draw is carried out on. Definitions only.
use Rattle.std.specs.Prelude.{◌≡◌}
use Rattle.frame.specs.Frame.{Frame, frame_of}
use Rattle.frame_paint.specs.declared.Target.{Target}

-- what its slices hold
abbrev pub seen : Target → Frame
seen t = frame_of t.colors.now t.coverages.now t.marks.now

-- the same view of the same lent slices
pub record SameLoans (before after : Target) : Type 0 where
  pub view : after.view ≡ before.view
  pub colors : after.colors.ghost_name ≡ before.colors.ghost_name
  pub coverages : after.coverages.ghost_name ≡ before.coverages.ghost_name
  pub marks : after.marks.ghost_name ≡ before.marks.ghost_name
