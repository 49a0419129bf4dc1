use mathlib.Core.Bool.{◌&&◌}
use native.Mathlib.Omega.{arith}
use Rattle.frame_pixel.specs.Marks.{coverage_marked}
use Rattle.frame.specs.Finding.{at_most}
use Rattle.frame.proofs.Refusals.{decides_next, decides_done, every_at}
use Rattle.frame.proofs.refusal.Marked.all_low.Goals as goal

pub coverage-requires-clause-coverage_known : goal.coverage-requires-clause-coverage_known
coverage-requires-clause-coverage_known c = every_at coverage_marked _ _ c.requires (omega arith)

pub loop-i-preserved : goal.loop-i-preserved
loop-i-preserved c =
    let l = c.loop-i in
    decides_next (at_most 7) _ l.ok (λ j. l.ok && at_most 7 (c.coverage.ensures j)) c.loop-i-test.true l.invariant

pub returns : goal.returns
returns c = decides_done (at_most 7) _ c.loop-i.ok c.loop-i-test.false c.loop-i.invariant
