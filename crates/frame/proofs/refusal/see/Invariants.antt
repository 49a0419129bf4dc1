-- The marks before this one, put together, and those from it on decide.
use Rattle.frame_pixel.specs.Marks.{highest_mark, coverage_marked}
use Rattle.frame.specs.Finding.{at_most, coverage_unmarked}
use Rattle.frame.proofs.Refusals.{Decides}
use Rattle.frame.proofs.refusal.see.Given as goal

abbrev pub invariant-loop-mark : goal.invariant-loop-mark
invariant-loop-mark l =
    Decides (at_most highest_mark) l.marks l.mark-index (at_most highest_mark l.any)
    × (Decides coverage_unmarked l.marks l.mark-index (coverage_unmarked l.any) × Decides coverage_marked l.marks l.mark-index (coverage_marked l.all))
