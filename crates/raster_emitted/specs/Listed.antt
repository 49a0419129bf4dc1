-- Inner vocabulary. What a part of a draw writes to the slots that are asked for, and how far it counts. Definitions only.
use Rattle.std.specs.Prelude.{ℕ, ◌+◌, ◌-◌, ◌≤◌, ◌<◌, min, ◌≡◌, List, length, slice_index_or}
use Rattle.raster_emitted.specs.declared.slots.Slots.{Slots}
use Rattle.raster_emitted.specs.Masked.{Masked, no_pixel}
use Rattle.raster_emitted.specs.Filled.{Places, places_of, slot_at, Filled}

-- which pixels are asked for: pixel first + i goes to slot i, and none is counted from limit on
pub record Window : Type 0 where
  pub first : ℕ
  pub limit : ℕ

abbrev pub window_of : Slots → Window
window_of s = record { first = s.first; limit = s.limit }

abbrev pub held : Slots → Places
held s = places_of s.pixels.now s.masks.now

-- what the pixels es do, of which the first is the draw's n-th: they are counted, up to the window's end, and pixel first + i goes to slot i
pub record ListedPart (v : Window) (es : List Masked) (n m : ℕ) (before after : Places) : Type 0 where
  pub within : n ≤ v.limit
  pub count : m ≡ min v.limit (n + length es)
  pub pixels : length after.pixels ≡ length before.pixels
  pub masks : length after.masks ≡ length before.masks
  pub there : (i : ℕ) → i < length before.masks → n ≤ v.first + i → v.first + i < m → slot_at after i ≡ slice_index_or es (v.first + i - n) no_pixel
  pub earlier : (i : ℕ) → i < length before.masks → v.first + i < n → slot_at after i ≡ slot_at before i
  pub later : (i : ℕ) → i < length before.masks → m ≤ v.first + i → slot_at after i ≡ slot_at before i

-- the same of slots that are lent: the view and what they ask for stay, and so do the two slices
pub record ListedIn (es : List Masked) (before after : Slots) : Type 0 where
  pub view : after.view ≡ before.view
  pub first : after.first ≡ before.first
  pub limit : after.limit ≡ before.limit
  pub pixels : after.pixels.ghost_name ≡ before.pixels.ghost_name
  pub masks : after.masks.ghost_name ≡ before.masks.ghost_name
  pub part : ListedPart (window_of before) es before.count after.count (held before) (held after)

-- zeros in the slots that no pixel has reached, and the rest as it was
pub record Cleared (before after : Slots) : Type 0 where
  pub view : after.view ≡ before.view
  pub limit : after.limit ≡ before.limit
  pub first : after.first ≡ before.first
  pub count : after.count ≡ before.count
  pub pixels : after.pixels.ghost_name ≡ before.pixels.ghost_name
  pub masks : after.masks.ghost_name ≡ before.masks.ghost_name
  pub zeros : Filled (λ (i : ℕ). 0) 0 (min (length before.masks.now) (before.count - before.first)) (length before.masks.now) (held before) (held after)
