-- What was found and the coverages from i on decide.
use Rattle.frame.specs.Finding.{at_most}
use Rattle.frame.proofs.Refusals.{Decides}
use Rattle.frame.proofs.refusal.Marked.all_low.Given as goal

abbrev pub invariant-loop-i : goal.invariant-loop-i
invariant-loop-i l = Decides (at_most 7) l.self.coverages.now l.i l.ok
