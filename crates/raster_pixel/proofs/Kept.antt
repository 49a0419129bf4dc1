-- The parts that a kept range leaves out are empty, so those that it keeps are all. Assumes nothing.
use mathlib.Core.Path.{◌≡◌}
use mathlib.Core.List.{List, []}
use Prim.Native.Nat.{ℕ}
use Rattle.raster_range.specs.declared.Range.{Range}
use Rattle.raster_range.specs.Kept.{Kept}
use Rattle.raster_pixel.specs.Parts.{from}
use Rattle.raster_pixel.proofs.Parts.{window}

pub kept_all :
    {A : Type 0} (c : ℕ → List A) (empty : ℕ → Type 0) {lo hi : ℕ} {k : Range}
    → ((j : ℕ) → empty j → c j ≡ []) → Kept empty lo hi k → from c lo hi ≡ from c k.start k.end
kept_all c empty {lo} {hi} {k} z h =
    window c lo hi k.start k.end h.from h.order h.to (λ j p q. z j (h.before j p q)) (λ j p q. z j (h.after j p q))
