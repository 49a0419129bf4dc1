-- Inner vocabulary. The pixels of a draw in their slots, as the code finds them. Definitions only.
use Rattle.std.specs.Prelude.{ℕ, ◌+◌, ◌<◌, ◌≡◌, List, length, Option, Some, None, slice_index_or}
use Rattle.raster_emitted.specs.Masked.{Masked, no_pixel}
use Rattle.raster_emitted.specs.Filled.{places_of, slot_at}
use Rattle.frame_emitted.specs.declared.Emitted.{Emitted}

-- the largest count of 64 bits
abbrev pub largest_count : ℕ
largest_count = 18446744073709551615

-- a pixel is answered only where the list has a k-th
abbrev pub FoundAt : List Masked → ℕ → Option Emitted → Type 0
FoundAt es k (Some e) = k < length es
FoundAt es k None = Unit

-- slot i has pixel first + i of the list, and zeros past the last; n is how many there are
pub record ListedAll (es : List Masked) (first n : ℕ) (before pixels masks : List ℕ) : Type 0 where
  pub count : n ≡ length es
  pub pixels_long : length pixels ≡ length before
  pub masks_long : length masks ≡ length before
  pub slots : (i : ℕ) → i < length before → slot_at (places_of pixels masks) i ≡ slice_index_or es (first + i) no_pixel
