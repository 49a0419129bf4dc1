-- What was found and the pixels from i on decide.
use Rattle.std.specs.Prelude.{◌≡◌, ◌&&◌, drop}
use Rattle.frame.specs.Checks.{marks_ok}
use Rattle.frame.proofs.refusal.Marked.mixed_ok.Given as goal

abbrev pub invariant-loop-i : goal.invariant-loop-i
invariant-loop-i l = (l.ok && marks_ok (drop l.i l.self.coverages.now) (drop l.i l.self.marks.now)) ≡ marks_ok l.self.coverages.now l.self.marks.now
