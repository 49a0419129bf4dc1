-- The code's sum is the exact place of the quarter (`quarter_at`).
use mathlib.Core.Path.{◌∙◌}
use Prim.Native.Nat.{ℕ, ◌^◌, ◌<◌}
use native.Mathlib.Omega.{arith}
use lib.Dec.{T, le→leb}
use lib.IntN.{pos}
use lib.Ieee.{binary32, in_float, of_bits}
use Rattle.raster_rectangle.proofs.Exact.{quarter_at}
use Rattle.raster_rectangle.proofs.quarter_within.Goals as goal

-- a small number is an f32
small : (n : ℕ) → n < 1024 → T (in_float binary32 (pos n))
unfolding in_float
small n h = le→leb n (2 ^ 24) (omega arith)

pub int_to_float-n : goal.int_to_float-n
int_to_float-n c = small c.args.n (omega arith)

pub int_to_float-q : goal.int_to_float-q
int_to_float-q c = small c.args.q (omega arith)

pub returns : goal.returns
unfolding of_bits
returns c = c.within.ensures ∙ quarter_at c.args.low c.args.high c.args.n c.args.q c.requires.0 c.requires.1
