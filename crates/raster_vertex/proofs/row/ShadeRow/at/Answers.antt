-- The three weights that the calls answer, put into the definition. x is small enough that an f32 holds it.
use Prim.Native.Nat.{◌^◌}
use native.Mathlib.Omega.{arith}
use lib.Dec.{le→leb}
use lib.Ieee.{in_float}
use Rattle.raster_vertex.specs.Row.{weighed_by}
use Rattle.raster_vertex.proofs.row.ShadeRow.at.Goals as goal

pub int_to_float-px : goal.int_to_float-px
unfolding in_float
int_to_float-px c = le→leb c.args.x (2 ^ 24) (omega arith)

pub returns : goal.returns
unfolding weighed_by
returns c =
    let row = c.args.self in
    λ i. weighed_by row.a row.b row.c (c.weight-wa.ensures i) (c.weight-wb.ensures i) (c.weight-wc.ensures i) row.den
