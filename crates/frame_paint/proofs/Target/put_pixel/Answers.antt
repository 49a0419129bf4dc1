use mathlib.Core.Path.{sym, subst}
use native.Mathlib.Omega.{arith}
use lib.ListN.{length}
use Rattle.frame.specs.Fits.{Fit}
use Rattle.frame_paint.proofs.Fits.{fit_own}
use Rattle.frame_paint.proofs.Steps.{put_known_fit}
use Rattle.frame_paint.proofs.Target.put_pixel.Goals as goal

pub invariant_of-self : goal.invariant_of-self
invariant_of-self c =
    let t = c.args.self.now in
    let fit = subst (Fit (length t.marks.now)) (sym c.put_pixel.ensures) (put_known_fit _ c.args.pixel c.args.bytes t.fit c.requires.mark_ok) in
    record { fit = fit_own fit; room = omega (arith, t.room, fit.marks) }
