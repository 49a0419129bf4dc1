-- y is small enough that an f32 holds it.
use Prim.Native.Nat.{◌^◌}
use native.Mathlib.Omega.{arith}
use lib.Dec.{le→leb}
use lib.Ieee.{in_float}
use Rattle.raster_vertex.proofs.row.shade_row.Goals as goal

pub int_to_float-py : goal.int_to_float-py
unfolding in_float
int_to_float-py c = le→leb c.args.y (2 ^ 24) (omega arith)
