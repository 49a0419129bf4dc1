use mathlib.Core.Path.{ap, ◌∙◌}
use mathlib.Core.Bool.{not}
use Rattle.frame_pixel.specs.Marks.{highest_mark, coverage_marked}
use Rattle.frame.specs.Finding.{at_most, coverage_unmarked}
use Rattle.frame.proofs.Refusals.{decides_next, decides_done, or_low, or_unmarked, and_marked}
use Rattle.frame.proofs.refusal.see.Goals as goal

pub loop-mark-preserved : goal.loop-mark-preserved
loop-mark-preserved c =
    let l = c.loop-mark in
    let h = c.loop-mark-test.true in (
      decides_next (at_most highest_mark) _ (at_most highest_mark l.any) (or_low l.any _) h l.invariant.0,
      (
        decides_next coverage_unmarked _ (coverage_unmarked l.any) (or_unmarked l.any _) h l.invariant.1.0,
        decides_next coverage_marked _ (coverage_marked l.all) (and_marked l.all _) h l.invariant.1.1,
      ),
    )

pub returns : goal.returns
returns c =
    let l = c.loop-mark in
    let h = c.loop-mark-test.false in
    record {
      low = decides_done (at_most highest_mark) _ _ h l.invariant.0;
      unmarked = ap not c.coverage_marked.ensures ∙ decides_done coverage_unmarked _ _ h l.invariant.1.0;
      marked = c.coverage_marked-2.ensures ∙ decides_done coverage_marked _ _ h l.invariant.1.1;
    }
