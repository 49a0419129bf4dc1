use Rattle.std.proofs.Common.{refl, rules}
use Rattle.frame_draw.specs.Draw.{draw_of}
use Rattle.frame_emitted.proofs.Answers.{run_refused, run_unequal, run_accepted}
use Rattle.frame_emitted.proofs.emitted_pixels.Goals as goal

pub returns-in_err-accepted-clause-answer : goal.returns-in_err-accepted-clause-answer
returns-in_err-accepted-clause-answer c = let a = c.args in (run_refused (draw_of a.draw.now) _ _ _ _ c.in_err-accepted.ensures.plan _ _ _ _ c.from_residual.ensures.1).0

pub returns-then-pixels-masks-clause-answer : goal.returns-then-pixels-masks-clause-answer
returns-then-pixels-masks-clause-answer c = let a = c.args in (run_unequal (draw_of a.draw.now) _ _ _ c.in_ok-accepted.ensures.plan _ _ _ c.if-pixels-masks.true).0

pub returns-clause-answer : goal.returns-clause-answer
returns-clause-answer c =
    let a = c.args in
    (run_accepted (draw_of a.draw.now) _ _ _ c.in_ok-accepted.ensures.plan _ refl refl c.if-pixels-masks.false c.list_by.ensures c.clear.ensures (search rules) (search rules) c.reached.ensures).0
