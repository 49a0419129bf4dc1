-- Field by field: the callees give the slopes and the two edges from the top corner.
use mathlib.Core.Path.{◌≡◌, ap, ◌∙◌}
use lib.Signed.{le_z}
use mir.Syntax.{w64}
use mir.Val.{to_z, of_z}
use Rattle.raster_edges.specs.Edge.{corner_at, slope_of, edge_from}
use Rattle.raster_edges.specs.Span.{tri_by}
use Rattle.raster_edge.proofs.Held.{small, back, shl}
use Rattle.raster_edges.proofs.Size.{size_slope}
use Rattle.raster_edges.proofs.setup.Goals as goal

pub edge_from-requires : goal.edge_from-requires
edge_from-requires k =
    let a = corner_at k.args.v 0 in
    let c = corner_at k.args.v 2 in
    let is : to_z w64 (of_z w64 k.slope-s.result) ≡ slope_of a c = back k.slope-s.result k.slope-s.type_inv ∙ k.slope-s.ensures in
    (k.requires.a_near, rw is (size_slope a c k.requires.a_near k.requires.c_near))

pub edge_from-requires-2 : goal.edge_from-requires-2
edge_from-requires-2 k =
    let a = corner_at k.args.v 0 in
    let b = corner_at k.args.v 1 in
    let is : to_z w64 (of_z w64 k.slope-u.result) ≡ slope_of a b = back k.slope-u.result k.slope-u.type_inv ∙ k.slope-u.ensures in
    (k.requires.a_near, rw is (size_slope a b k.requires.a_near k.requires.b_near))

pub returns : goal.returns
unfolding tri_by
returns k =
    let a = corner_at k.args.v 0 in
    let b = corner_at k.args.v 1 in
    let c = corner_at k.args.v 2 in
    let near = k.requires in
    let major_is : to_z w64 (of_z w64 k.slope-s.result) ≡ slope_of a c = back k.slope-s.result k.slope-s.type_inv ∙ k.slope-s.ensures in
    let upper_is : to_z w64 (of_z w64 k.slope-u.result) ≡ slope_of a b = back k.slope-u.result k.slope-u.type_inv ∙ k.slope-u.ensures in
    let lower_is : to_z w64 (of_z w64 k.slope-w.result) ≡ slope_of b c = back k.slope-w.result k.slope-w.type_inv ∙ k.slope-w.ensures in
    let m = k.edge_from.ensures ∙ ap (edge_from a) major_is in
    let u = k.edge_from-2.ensures ∙ ap (edge_from a) upper_is in
    λ i. record {
      major = m i;
      upper = u i;
      lower = record { start = (shl (small b.x near.b_near.x_near tt) 14 tt).read i; step = lower_is i; base = (small b.y near.b_near.y_near tt).read i };
      top = (small a.y near.a_near.y_near tt).read i;
      mid = (small b.y near.b_near.y_near tt).read i;
      end = (small c.y near.c_near.y_near tt).read i;
      rightward = le_z (major_is i) (upper_is i);
    }
