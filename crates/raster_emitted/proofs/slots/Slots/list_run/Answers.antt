-- The slots of the run, if it has any.
use mathlib.Core.Path.{refl}
use native.Mathlib.Omega.{arith}
use Rattle.raster_emitted.proofs.Runs.{run_listed, run_unlisted}
use Rattle.raster_emitted.proofs.slots.Slots.list_run.Goals as goal

pub returns-then-end-self : goal.returns-then-end-self
returns-then-end-self c =
    let part = run_unlisted _ _ _ _ c.args.self.now.within c.counted-end.ensures (omega (arith, c.counted-end.ensures, c.args.self.now.within, c.if-end-self.true)) in
    record { view = refl; first = refl; limit = refl; pixels = refl; masks = refl; part = part }

pub returns-then-start-stop : goal.returns-then-start-stop
returns-then-start-stop c =
    let part = run_unlisted _ _ _ _ c.args.self.now.within c.counted-end.ensures (omega (arith, c.slots_before-start.ensures, c.slots_before-stop.ensures, c.if-start-stop.true)) in
    record { view = refl; first = refl; limit = refl; pixels = refl; masks = refl; part = part }

pub returns : goal.returns
returns c =
    record {
      view = refl;
      first = refl;
      limit = refl;
      pixels = refl;
      masks = refl;
      part = run_listed _ _ _ c.args.self.now.within c.counted-end.ensures c.slots_before-start.ensures c.slots_before-stop.ensures c.saturating_sub-passed.ensures c.fill.ensures;
    }
