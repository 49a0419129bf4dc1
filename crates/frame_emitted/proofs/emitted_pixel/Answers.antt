use Rattle.frame_draw.specs.Draw.{draw_of}
use Rattle.frame_emitted.proofs.Answers.{pixel_refused, pixel_accepted}
use Rattle.frame_emitted.proofs.emitted_pixel.Goals as goal

pub returns-in_err-accepted-clause-answer : goal.returns-in_err-accepted-clause-answer
returns-in_err-accepted-clause-answer c = let a = c.args in (pixel_refused (draw_of a.draw.now) _ _ _ _ c.in_err-accepted.ensures.plan _ _ c.from_residual.ensures.1).0

pub returns-clause-answer : goal.returns-clause-answer
returns-clause-answer c =
    let a = c.args in (pixel_accepted (draw_of a.draw.now) _ _ _ c.in_ok-accepted.ensures.plan c.pixel_at.result _ c.pixel_at.ensures.result_value c.pixel_at.ensures.found_at).0

pub returns-clause-number : goal.returns-clause-number
returns-clause-number c =
    let a = c.args in (pixel_accepted (draw_of a.draw.now) _ _ _ c.in_ok-accepted.ensures.plan c.pixel_at.result _ c.pixel_at.ensures.result_value c.pixel_at.ensures.found_at).1
