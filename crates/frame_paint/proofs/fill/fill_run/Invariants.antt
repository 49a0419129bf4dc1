-- Those of the run that are before this one are drawn, each as a step (`filled_drew`).
use Rattle.frame.specs.Frame.{frame_of}
use Rattle.frame_paint.proofs.Filled.{Filling}
use Rattle.frame_paint.proofs.fill.fill_run.Given as goal

abbrev pub invariant-loop-pixel : goal.invariant-loop-pixel
invariant-loop-pixel l = Filling l.paint l.first l.end (frame_of l.initial.colors l.initial.coverages l.initial.marks) l.pixel (frame_of l.colors l.coverages l.marks)
