-- Inner vocabulary. How large an edge may be, so that nothing overflows. Definitions only.
use Rattle.std.specs.Prelude.{◌≤◌, nat_abs}
use Rattle.raster_edge.specs.declared.Edge.{Edge}

pub record Tame (e : Edge) : Type 0 where
  pub start_small : nat_abs e.start ≤ 17179869184
  pub step_small : nat_abs e.step ≤ 2147483648
  pub base_small : nat_abs e.base ≤ 8196
