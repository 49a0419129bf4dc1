-- A triangle whose corners are in range has edges that do not overflow. Assumes nothing.
use Prim.Native.Nat.{◌*◌, ◌≤◌}
use mathlib.Core.List.{List}
use native.Mathlib.Nat.{mul-le-mul}
use native.Mathlib.Omega.{arith}
use lib.Dec.{lit<}
use lib.IntN.{ℤ, pos, nat_abs, ◌*ℤ◌}
use lib.Signed.{shr_z}
use Rattle.raster_edges.specs.declared.Corner.{Corner}
use Rattle.raster_edge.specs.Edge.{mod_z}
use Rattle.raster_edges.specs.Edge.{corner_at, slope_of, edge_start, edge_from}
use Rattle.raster_edges.specs.Span.{tri_of, tri_by}
use Rattle.raster_edge.specs.Limits.{Tame}
use Rattle.raster_edges.specs.Limits.{Near, AllNear, TameTri}
use Rattle.raster_edge.proofs.Size.{size_sub, size_mul, size_shr, size_floor, mod_z_le}
use Rattle.raster_edges.proofs.Size.{size_slope}

tame_from : (a : Corner) (step : ℤ) → Near a → nat_abs step ≤ 2147483648 → Tame (edge_from a step)
unfolding edge_from edge_start
tame_from a step p h =
    let s = shr_z step 4 in
    let k = mod_z a.y 4 in
    let m : nat_abs s * k ≤ 2147483648 * 4 = mul-le-mul {n₂ = 2147483648} (omega (arith, size_shr step 4)) (mod_z_le a.y 4 (lit< tt)) in
    record {
      start_small = omega (arith, size_sub (a.x *ℤ pos 16384) (s *ℤ pos k), size_mul a.x (pos 16384), size_mul s (pos k), p.x_near);
      step_small = h;
      base_small = omega (arith, size_floor a.y 4, p.y_near);
    }

tame_by : (a b c : Corner) → Near a → Near b → Near c → TameTri (tri_by a b c)
unfolding tri_by
tame_by a b c p q r = record {
  major_tame = tame_from a (slope_of a c) p (size_slope a c p r);
  upper_tame = tame_from a (slope_of a b) p (size_slope a b p q);
  lower_tame = record {
    start_small = omega (arith, size_mul b.x (pos 16384), q.x_near);
    step_small = size_slope b c q r;
    base_small = omega (arith, q.y_near);
  };
  top_small = p.y_near;
  mid_small = q.y_near;
  end_small = r.y_near;
}

pub tame : (v : List Corner) → AllNear v → TameTri (tri_of v)
tame v h = tame_by (corner_at v 0) (corner_at v 1) (corner_at v 2) h.a_near h.b_near h.c_near
