-- The slots up to i are written.
use Rattle.std.proofs.Common.{ℕ, ◌+◌, ◌-◌, ◌≤◌}
use Rattle.raster_emitted.specs.Filled.{places_of, Filled}
use Rattle.raster_emitted.proofs.slots.fill.Given as goal

abbrev pub invariant-loop-i : goal.invariant-loop-i
invariant-loop-i l =
    (l.start ≤ l.i) × (l.i ≤ l.stop)
    × Filled (λ (i : ℕ). l.number + (i - l.start)) l.mask l.start l.i (places_of l.fn.pixels l.fn.masks) (places_of l.pixels l.masks)
