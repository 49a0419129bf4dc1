use Rattle.std.proofs.Common.{arith, rules}
use Rattle.frame_paint.proofs.Fits.{fit_own}
use Rattle.frame_draw.specs.Draw.{draw_of}
use Rattle.frame_draw.proofs.Plans.{draw_refused, draw_accepted, by_slices}
use Rattle.frame_draw.proofs.draw.Goals as goal

pub returns-in_err-accepted-clause-answer : goal.returns-in_err-accepted-clause-answer
returns-in_err-accepted-clause-answer c = (draw_refused (draw_of c.args.draw.now) _ _ _ _ c.in_err-accepted.ensures.plan _ c.from_residual.ensures.1).0

pub returns-in_err-accepted-clause-frame : goal.returns-in_err-accepted-clause-frame
returns-in_err-accepted-clause-frame c = (draw_refused (draw_of c.args.draw.now) _ _ _ _ c.in_err-accepted.ensures.plan _ c.from_residual.ensures.1).1

pub invariant_of-target : goal.invariant_of-target
invariant_of-target c =
    let fit = c.in_ok-accepted.ensures.plan.fit in
    record { fit = fit_own fit; room = omega (arith, fit.marks) }

pub returns-clause-answer : goal.returns-clause-answer
returns-clause-answer c = (draw_accepted (draw_of c.args.draw.now) _ _ _ c.in_ok-accepted.ensures.plan c.rasterize_by.ensures.drew.ran).0

pub returns-clause-frame : goal.returns-clause-frame
returns-clause-frame c =
    by_slices (draw_accepted (draw_of c.args.draw.now) _ _ _ c.in_ok-accepted.ensures.plan c.rasterize_by.ensures.drew.ran).1 (search rules) (search rules) (search rules)
