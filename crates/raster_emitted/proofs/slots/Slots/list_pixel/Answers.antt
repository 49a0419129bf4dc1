-- It has a slot, or is counted only.
use Rattle.std.proofs.Common.{refl, arith}
use Rattle.raster_emitted.proofs.Runs.{one_listed, run_unlisted}
use Rattle.raster_emitted.proofs.slots.Slots.list_pixel.Goals as goal

pub returns-then-before-self-2 : goal.returns-then-before-self-2
returns-then-before-self-2 c =
    record {
      view = refl;
      first = refl;
      limit = refl;
      pixels = refl;
      masks = refl;
      part = run_unlisted _ _ _ 1 c.args.self.now.within (omega (arith, c.args.self.now.within, c.if-before-self.false)) (omega (arith, c.if-before-self-2.true));
    }

pub returns-then-slot-self : goal.returns-then-slot-self
returns-then-slot-self c =
    let s = c.args.self.now in
    record {
      view = refl;
      first = refl;
      limit = refl;
      pixels = refl;
      masks = refl;
      part = one_listed _ _ _ (omega (arith, s.within, c.if-before-self.false)) (omega (arith, c.if-before-self-2.false)) (omega (arith, c.if-slot-self.true)) s.matched;
    }

pub returns-else-slot-self : goal.returns-else-slot-self
returns-else-slot-self c =
    record {
      view = refl;
      first = refl;
      limit = refl;
      pixels = refl;
      masks = refl;
      part = run_unlisted _ _ _ 1 c.args.self.now.within (omega (arith, c.args.self.now.within, c.if-before-self.false)) (omega (arith, c.if-slot-self.false));
    }
