-- Inner vocabulary. A part of a row with all its samples. Definitions only.
use Rattle.std.specs.Prelude.{ℕ, ◌≤◌, ◌<◌, ◌≡◌}
use Rattle.raster_range.specs.declared.Range.{Range}
use Rattle.raster_edges.specs.declared.Edges.{Edges}
use Rattle.raster_edges.specs.Sample.{mask_of}

-- every pixel of it has all eight
abbrev pub Fulls : Edges → Range → Type 0
Fulls e r = (x : ℕ) → r.start ≤ x → x < r.end → mask_of e x ≡ 255
