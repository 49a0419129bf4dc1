-- Inner vocabulary. A rectangle by edges, as a triangle has them: upright edges at the first quarters that do not lie before its sides. Definitions only.
use Rattle.std.specs.Prelude.{ℕ, ◌*◌, ◌≤◌, ◌<◌, ◌≡◌, pos, Float, nat_lt, nat_le}
use Rattle.std.specs.Float.Ieee.{le, lt}
use Rattle.raster_edge.specs.declared.Edge.{Edge}
use Rattle.raster_edges.specs.declared.Tri.{Tri}
use Rattle.raster_edges.specs.Limits.{TameTri}
use Rattle.raster_edges.specs.Span.{edges_of}
use Rattle.raster_edges.specs.Sample.{mask_of}
use Rattle.raster_rectangle.specs.declared.Sides.{Sides}
use Rattle.raster_rectangle.specs.Rectangle.{quarters, rect_mask}

-- of an axis's quarters, 0 to 4,095, those below n are the ones before the side: none, if it is a NaN
pub record Before (high : Float) (n : ℕ) : Type 0 where
  pub most : n ≤ 4096
  pub is : (q : ℕ) → q < 4096 → lt (quarters q) high ≡ nat_lt q n

-- those from n on are the ones at the side or after it: none, if it is a NaN
pub record From (low : Float) (n : ℕ) : Type 0 where
  pub most : n ≤ 4096
  pub is : (q : ℕ) → q < 4096 → le low (quarters q) ≡ nat_le n q

-- an upright edge at quarter q
abbrev pub upright_of : ℕ → Edge
upright_of q = record { start = pos (q * 16384); step = pos 0; base = pos 0 }

-- between the edges lie the samples that the rectangle holds
pub record Outlines (s : Sides) (t : Tri) : Type 0 where
  pub tame : TameTri t
  pub same : (x y : ℕ) → x < 1024 → y < 1024 → mask_of (edges_of t y) x ≡ rect_mask s x y
