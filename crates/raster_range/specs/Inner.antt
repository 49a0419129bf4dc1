-- Inner vocabulary. A part of lo..hi all of which has a property: every pixel has all its samples, so that none of them has to be looked at, or lies between the edges of
-- lines that cover something. `Inner` says that. Definitions only.
use Rattle.std.specs.Prelude.{ℕ, ◌≤◌, ◌<◌}
use Rattle.raster_range.specs.declared.Range.{Range}

-- start..end is a part of lo..hi, and all of it has the property
pub record Inner (has : ℕ → Type 0) (lo hi : ℕ) (r : Range) : Type 0 where
  pub from : lo ≤ r.start
  pub order : r.start ≤ r.end
  pub to : r.end ≤ hi
  pub all : (i : ℕ) → r.start ≤ i → i < r.end → has i
