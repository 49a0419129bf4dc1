-- The difference of two products of differences.
use lib.IntN.{ℤ, ◌-ℤ◌, ◌*ℤ◌}
use mathlib.Core.List.{List}
use mir.Syntax.{w64}
use mir.Val.{of_z, to_z}
use Prim.Native.Nat.{ℕ}
use Rattle.raster_edges.specs.declared.Corner.{Corner}
use Rattle.raster_edges.specs.Limits.{AllNear}
use Rattle.raster_edges.specs.Edge.{corner_at, area_by}
use Rattle.raster_edge.proofs.Held.{Held, diff, mul, fit_mul, sub, fit_sub}
use Rattle.raster_edges.proofs.quarter_area.Goals as goal

-- the bits of x - y
abbrev less : ℤ → ℤ → ℕ
less x y = of_z w64 (to_z w64 (of_z w64 x) -ℤ to_z w64 (of_z w64 y))

module _ (v : List Corner) (near : AllNear v) where
  abbrev a : Corner
  a = corner_at v 0

  abbrev b : Corner
  b = corner_at v 1

  abbrev c : Corner
  c = corner_at v 2

  -- the two products
  one : Held (of_z w64 (to_z w64 (less b.x a.x) *ℤ to_z w64 (less c.y a.y))) ((b.x -ℤ a.x) *ℤ (c.y -ℤ a.y)) 268435456
  one = mul (diff b.x a.x near.b_near.x_near near.a_near.x_near) (diff c.y a.y near.c_near.y_near near.a_near.y_near) tt

  two : Held (of_z w64 (to_z w64 (less b.y a.y) *ℤ to_z w64 (less c.x a.x))) ((b.y -ℤ a.y) *ℤ (c.x -ℤ a.x)) 268435456
  two = mul (diff b.y a.y near.b_near.y_near near.a_near.y_near) (diff c.x a.x near.c_near.x_near near.a_near.x_near) tt

pub overflow_mul-result : goal.overflow_mul-result
overflow_mul-result k =
    let v = k.args.v in
    let near = k.requires in
    fit_mul (diff (corner_at v 1).x (corner_at v 0).x near.b_near.x_near near.a_near.x_near)
    (diff (corner_at v 2).y (corner_at v 0).y near.c_near.y_near near.a_near.y_near) tt

pub overflow_mul-result-2 : goal.overflow_mul-result-2
overflow_mul-result-2 k =
    let v = k.args.v in
    let near = k.requires in
    fit_mul (diff (corner_at v 1).y (corner_at v 0).y near.b_near.y_near near.a_near.y_near)
    (diff (corner_at v 2).x (corner_at v 0).x near.c_near.x_near near.a_near.x_near) tt

pub overflow_sub-result-5 : goal.overflow_sub-result-5
overflow_sub-result-5 k = fit_sub (one k.args.v k.requires) (two k.args.v k.requires) tt

pub returns : goal.returns
unfolding area_by
returns k = (sub (one k.args.v k.requires) (two k.args.v k.requires) tt).read
