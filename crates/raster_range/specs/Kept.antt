-- Inner vocabulary. A part of lo..hi that leaves nothing out: the Rust looks only between a triangle's outermost edges, and only between a rectangle's sides; `Kept` says that
-- nothing is lost by that. Definitions only.
use Rattle.std.specs.Prelude.{ℕ, ◌≤◌, ◌<◌}
use Rattle.raster_range.specs.declared.Range.{Range}

-- start..end is a part of lo..hi, and what it leaves out is empty
pub record Kept (empty : ℕ → Type 0) (lo hi : ℕ) (r : Range) : Type 0 where
  pub from : lo ≤ r.start
  pub order : r.start ≤ r.end
  pub to : r.end ≤ hi
  pub before : (i : ℕ) → lo ≤ i → i < r.start → empty i
  pub after : (i : ℕ) → r.end ≤ i → i < hi → empty i
