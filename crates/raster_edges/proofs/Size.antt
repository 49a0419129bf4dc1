-- How large a slope can be. Assumes nothing.
use Prim.Native.Nat.{◌≤◌}
use native.Mathlib.Omega.{arith}
use lib.IntN.{pos, ◌-ℤ◌, ◌*ℤ◌, nat_abs}
use Rattle.raster_edge.specs.Edge.{away_div, at_least_one}
use Rattle.raster_edge.proofs.Size.{size_sub, size_mul, size_floor, size_away, size_one}
use Rattle.raster_edges.specs.declared.Corner.{Corner}
use Rattle.raster_edges.specs.Limits.{Near}
use Rattle.raster_edges.specs.Edge.{slope_of}

-- a slope of corners in range
pub size_slope : (a b : Corner) → Near a → Near b → nat_abs (slope_of a b) ≤ 2147483648
unfolding slope_of
size_slope a b p q =
    let x = (b.x -ℤ a.x) *ℤ pos 65536 in
    let y = at_least_one (b.y -ℤ a.y) in
    omega (
      arith,
      size_floor (away_div x y) 8,
      size_away x y,
      size_mul (b.x -ℤ a.x) (pos 65536),
      size_sub b.x a.x,
      size_one (b.y -ℤ a.y),
      size_sub b.y a.y,
      p.x_near,
      p.y_near,
      q.x_near,
      q.y_near,
    )
