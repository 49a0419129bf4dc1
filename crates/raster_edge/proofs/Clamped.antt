-- A number within a range. Assumes nothing.
use Prim.Native.Nat.{ℕ, ◌≤◌, ◌<◌}
use mathlib.Core.Path.{◌≡◌, refl}
use mathlib.Core.Bool.{Bool, true}
use mathlib.Core.List.{List}
use native.Mathlib.Omega.{arith}
use lib.ListN.{get_or}
use lib.IntN.{ℤ, pos, negsuc}
use lib.Signed.{lt_z, le_z}
use borrow.Author.Tests.{lt-ltb, le-leb}
use Rattle.raster_edge.specs.Bound.{outer_of, clamp_of, edge_of_rows}

pub clamp_in : (z : ℤ) (lo hi : ℕ) → lo ≤ hi → (lo ≤ clamp_of z lo hi) × (clamp_of z lo hi ≤ hi)
clamp_in (pos a) lo hi h = omega arith
clamp_in (negsuc a) lo hi h = omega arith

pub below_clamp : (z : ℤ) (lo hi i : ℕ) → lo ≤ i → i < clamp_of z lo hi → lt_z (pos i) z ≡ true
below_clamp (pos a) lo hi i h k = lt-ltb i a (omega arith)
below_clamp (negsuc a) lo hi i h k = absurd (omega arith)

pub above_clamp : (z : ℤ) (lo hi i : ℕ) → clamp_of z lo hi ≤ i → i < hi → le_z z (pos i) ≡ true
above_clamp (pos a) lo hi i h k = le-leb a i (omega arith)
above_clamp (negsuc a) lo hi i h k = refl

-- the edges of two rows
pub rows_le : (e : List ℤ) (i j : ℕ) (low : Bool) → edge_of_rows low e i j ≤ 8192
unfolding edge_of_rows
rows_le e i j low = (clamp_in (outer_of low (get_or e i (pos 0)) (get_or e j (pos 0))) 0 8192 (omega arith)).1
