-- Inner vocabulary. How large corners and edges may be, so that nothing overflows: coordinates of at most 2,048 pixels either way, which holds what the Rust's
-- in_range lets through. Definitions only.
use Rattle.std.specs.Prelude.{◌≤◌, List, nat_abs}
use Rattle.raster_edges.specs.declared.Corner.{Corner}
use Rattle.raster_edge.specs.Limits.{Tame}
use Rattle.raster_edges.specs.declared.Tri.{Tri}
use Rattle.raster_edges.specs.Edge.{corner_at}

pub record Near (a : Corner) : Type 0 where
  pub x_near : nat_abs a.x ≤ 8192
  pub y_near : nat_abs a.y ≤ 8192

pub record AllNear (v : List Corner) : Type 0 where
  pub a_near : Near (corner_at v 0)
  pub b_near : Near (corner_at v 1)
  pub c_near : Near (corner_at v 2)

-- every triangle that `setup` makes is tame (proofs/Tame.antt), and every outline of a rectangle (crate raster_rectangle)
pub record TameTri (t : Tri) : Type 0 where
  pub major_tame : Tame t.major
  pub upper_tame : Tame t.upper
  pub lower_tame : Tame t.lower
  pub top_small : nat_abs t.top ≤ 8192
  pub mid_small : nat_abs t.mid ≤ 8192
  pub end_small : nat_abs t.end ≤ 8192
