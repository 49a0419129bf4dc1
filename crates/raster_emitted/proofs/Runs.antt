-- A run of pixels of one mask: its length and its j-th pixel; and the slots that a loop over it fills. Assumes nothing.
use Prim.Native.Nat.{ℕ, ◌+◌, ◌-◌, ◌≤◌, ◌<◌, min}
use mathlib.Core.Path.{◌≡◌, refl, sym, ap, ◌∙◌}
use mathlib.Core.List.{List}
use native.Mathlib.Omega.{arith}
use lib.ListN.{length, get_or, set, length-set}
use Rattle.std.proofs.lemmas.Grind.{get_or-set_at}
use Rattle.std.proofs.lemmas.List.{get_or-set_other}
use Rattle.raster_pixel.proofs.Parts.{each_length, each_at}
use Rattle.raster_emitted.specs.Filled.{Places, places_of, Filled}
use Rattle.raster_emitted.specs.Masked.{Masked, no_pixel}
use Rattle.raster_emitted.specs.Shapes.{run_masks}
use Rattle.raster_emitted.specs.Listed.{Window, ListedPart}

-- ---- the pixels of a run
abbrev spot : ℕ → ℕ → Masked
spot mask p = record { pixel = p; mask = mask }

pub run_length : (mask p count : ℕ) → length (run_masks mask p (p + count)) ≡ count
run_length mask p count = each_length (spot mask) p count

pub run_at : (mask p count j : ℕ) → j < count → get_or (run_masks mask p (p + count)) j no_pixel ≡ spot mask (p + j)
run_at mask p count j h = each_at (spot mask) no_pixel p count j h

module _ (number : ℕ → ℕ) (mask : ℕ) {before : Places} where
  filled_none : (lo : ℕ) → Filled number mask lo lo before before
  filled_none lo =
      record { pixels = refl; masks = refl; written = λ i p q. absurd (omega arith); below = λ i p. refl; above = λ i p. refl }

  filled_one :
      {lo q : ℕ} → q ≡ number lo → lo < length before.pixels → lo < length before.masks
      → Filled number mask lo (lo + 1) before (places_of (set before.pixels lo q) (set before.masks lo mask))
  filled_one {lo} {q} e a b =
      record {
        pixels = length-set before.pixels lo q;
        masks = length-set before.masks lo mask;
        written = λ i c d. grind (arith, get_or-set_at);
        below = λ i c. grind (arith, get_or-set_other);
        above = λ i c. grind (arith, get_or-set_other);
      }

-- the slots of a run: the first is that of the run's first pixel, or slot 0, where the run's first pixels have none
module _ (v : Window) (p count : ℕ) {n mask : ℕ} {before after : Places} where
  pub run_listed :
      {m lo hi passed : ℕ} → n ≤ v.limit → m ≡ min v.limit (n + count) → lo ≡ min (length before.masks) (n - v.first)
      → hi ≡ min (length before.masks) (m - v.first) → passed ≡ v.first - n
      → Filled (λ (i : ℕ). p + passed + (i - lo)) mask lo hi before after → ListedPart v (run_masks mask p (p + count)) n m before after
  run_listed {m} {lo} {hi} {passed} h em el eh ep d =
      record {
        within = h;
        count = em ∙ ap (λ (k : ℕ). min v.limit (n + k)) (sym (run_length mask p count));
        pixels = d.pixels;
        masks = d.masks;
        there = λ i l a b.
            let e : p + passed + (i - lo) ≡ p + (v.first + i - n) = omega arith in
            d.written i (omega arith) (omega arith) ∙ ap (spot mask) e ∙ sym (run_at mask p count (v.first + i - n) (omega arith));
        earlier = λ i l a. d.below i (omega arith);
        later = λ i l a. d.above i (omega arith);
      }

-- one pixel in its slot
module _ (v : Window) (p mask : ℕ) {n : ℕ} {before : Places} where
  pub one_listed :
      n < v.limit → v.first ≤ n → n - v.first < length before.masks → length before.pixels ≡ length before.masks
      → ListedPart v (run_masks mask p (p + 1)) n (n + 1) before (places_of (set before.pixels (n - v.first) p) (set before.masks (n - v.first) mask))
  one_listed l f s e =
      run_listed v p 1 {passed = v.first - n} (omega arith) (omega arith) (omega arith) (omega arith) refl
      (filled_one (λ (i : ℕ). p + (v.first - n) + (i - (n - v.first))) mask (omega arith) (omega arith) s)

-- a run that has no slots
module _ (v : Window) (mask p count : ℕ) {n : ℕ} {before : Places} where
  pub run_unlisted :
      {m : ℕ} → n ≤ v.limit → m ≡ min v.limit (n + count) → min (length before.masks) (n - v.first) ≡ min (length before.masks) (m - v.first)
      → ListedPart v (run_masks mask p (p + count)) n m before before
  run_unlisted h em e = run_listed v p count h em refl e refl (filled_none _ mask _)
