-- Inner vocabulary. What the slices of a frame to be read hold. Definitions only.
use Rattle.frame.specs.declared.load.Slices.{Slices}
use Rattle.frame.specs.Frame.{Frame, frame_of}

abbrev pub held : Slices → Frame
held s = frame_of s.colors.now s.coverages.now s.marks.now
