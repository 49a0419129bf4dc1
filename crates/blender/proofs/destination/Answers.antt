use Rattle.std.specs.Prelude.{◌≡◌}
use Rattle.blender.specs.Coverage.{destination_of}
use Rattle.blender.proofs.Range.{destination_le}
use Rattle.blender.proofs.destination.Goals as goal

pub returns-in-0 : goal.returns-in-0
unfolding destination_of
returns-in-0 c =
    let e : c.clamp.result ≡ destination_of c.args.mode c.args.count c.args.memory = simp (c.clamp.ensures, c.blending.ensures, c.in-0.is) in
    (e, rw e (destination_le c.args.mode c.args.count c.args.memory c.requires))
