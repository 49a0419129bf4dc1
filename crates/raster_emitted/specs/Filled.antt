-- Inner vocabulary. Emitted pixels in two lent slices, one for their numbers and one for their masks: what a run writes there. Definitions only.
use Rattle.std.specs.Prelude.{ℕ, ◌≤◌, ◌<◌, ◌≡◌, List, length, slice_index}
use Rattle.std.specs.Borrow.{MutBor}
use denote.Triple.Both.{Both}
use Rattle.raster_emitted.specs.Masked.{Masked}

-- the two slices
pub record Places : Type 0 where
  pub pixels : List ℕ
  pub masks : List ℕ

abbrev pub places_of : List ℕ → List ℕ → Places
places_of pixels masks = record { pixels = pixels; masks = masks }

abbrev pub slot_at : Places → ℕ → Masked
slot_at s i = record { pixel = slice_index s.pixels i; mask = slice_index s.masks i }

-- slots lo to hi - 1 hold pixels of this mask, slot i that of its number, and the other slots are as before
pub record Filled (number : ℕ → ℕ) (mask lo hi : ℕ) (before after : Places) : Type 0 where
  pub pixels : length after.pixels ≡ length before.pixels
  pub masks : length after.masks ≡ length before.masks
  pub written : (i : ℕ) → lo ≤ i → i < hi → slot_at after i ≡ record { pixel = number i; mask = mask }
  pub below : (i : ℕ) → i < lo → slot_at after i ≡ slot_at before i
  pub above : (i : ℕ) → hi ≤ i → slot_at after i ≡ slot_at before i

-- the same of the slices that a call is lent
abbrev pub FilledIn : (ℕ → ℕ) → ℕ → ℕ → ℕ → Both (MutBor (List ℕ)) (MutBor (List ℕ)) → Both (MutBor (List ℕ)) (MutBor (List ℕ)) → Type 0
FilledIn number mask lo hi pixels masks = Filled number mask lo hi (places_of pixels.entry.now masks.entry.now) (places_of pixels.exit.now masks.exit.now)
