use native.Mathlib.Omega.{arith}
use borrow.Author.Tests.{leb-true}
use Rattle.frame_pixel.specs.Marks.{highest_mark}
use Rattle.frame.specs.Finding.{at_most}
use Rattle.frame.proofs.Refusals.{found_next, found_done, every_at, marks_more, marks_none}
use Rattle.frame.proofs.refusal.Marked.mixed_ok.Goals as goal

pub mark_ok-ok-requires-clause-marked : goal.mark_ok-ok-requires-clause-marked
mark_ok-ok-requires-clause-marked c = (omega arith, leb-true _ _ (every_at (at_most highest_mark) _ _ c.requires c.loop-i-test.true))

pub loop-i-preserved : goal.loop-i-preserved
loop-i-preserved c =
    let l = c.loop-i in
    found_next l.ok _ c.mark_ok-ok.ensures (marks_more _ _ c.args.self.now.alike c.loop-i-test.true) l.invariant

pub returns : goal.returns
returns c = found_done c.loop-i.ok (marks_none _ _ c.loop-i-test.false) c.loop-i.invariant
