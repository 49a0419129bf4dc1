use Rattle.std.proofs.Common.{refl, arith}
use Rattle.frame_paint.proofs.Drawing.{drew_as, drew_count}
use Rattle.rasterize_slow.specs.Shape.{walk_of}
use Rattle.rasterize_slow.proofs.Emitted.{walk-emits}
use Rattle.rasterize_slow.proofs.Sending.{walk_most}
use Rattle.rasterize_slow.proofs.rasterize.Goals as goal

pub returns : goal.returns
returns c =
    let d = c.args.shapes.now in
    let l = d.lists in
    let v = c.args.target.now.view in
    let sent = c.visit.ensures.sent in
    let most = walk_most v d d.cull l.vertices.now l.present.now l.indices.now d.geometry c.requires.few in
    record { drew = drew_as (walk-emits (walk_of v d) v.scissor v.height refl d.cull l.vertices.now l.present.now l.indices.now d.geometry) (drew_count (omega (arith, sent.count, most)) sent.taken) }
