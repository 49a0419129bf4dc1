use Rattle.std.proofs.Common.{refl, ap, map, ◌∙◌}
use Rattle.combiner_resolved.specs.Resolved.{resolved_of, mixed_by}
use Rattle.raster_emitted.specs.Masked.{masked_of}
use Rattle.raster_emitted.proofs.Colorless.{geometry-masks}
use Rattle.raster_emitted.proofs.Listing.{listed_as}
use Rattle.rasterize_slow.specs.Shape.{walk_of}
use Rattle.rasterize_slow.proofs.Emitted.{walk-emits}
use Rattle.rasterize_slow.proofs.list_pixels.Goals as goal

pub returns : goal.returns
returns c =
    let d = c.args.shapes.now in
    let l = d.lists in
    let v = c.args.slots.now.view in
    let emitted = walk-emits (walk_of v d) v.scissor v.height refl d.cull l.vertices.now l.present.now l.indices.now d.geometry in
    let masks = geometry-masks d.combiner (mixed_by (resolved_of d.combiner)) c.requires d.mode d.cull v.scissor v.width v.height l.vertices.now l.present.now l.indices.now d.geometry in
    listed_as (ap (map masked_of) emitted ∙ masks) c.visit.ensures.sent.taken
