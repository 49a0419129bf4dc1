-- What is listed of a draw, read off its slots: one pixel in a slot of its own, and a run of them with zeros past the last. Assumes nothing.
use Prim.Native.Nat.{ℕ, ◌+◌, ◌-◌, ◌≤◌, ◌<◌, min}
use mathlib.Core.Path.{◌≡◌, sym, ap, ◌∙◌}
use mathlib.Core.List.{List}
use native.Mathlib.Decide.{dec_lt}
use native.Mathlib.Omega.{arith}
use lib.ListN.{length, get_or, get_or-eq_default}
use Rattle.raster_emitted.specs.Masked.{Masked, no_pixel}
use Rattle.raster_emitted.specs.declared.slots.Slots.{Slots}
use Rattle.raster_emitted.specs.Filled.{Places, places_of, slot_at}
use Rattle.raster_emitted.specs.Listed.{Window, window_of, held, ListedPart, ListedIn, Cleared}
use Rattle.frame_emitted.specs.Emitted.{pixel_of}
use Rattle.frame_emitted.specs.Places.{largest_count, ListedAll}

-- ---- pixel k in slot 0
module _ {es : List Masked} (v : Window) {n : ℕ} {s t : Places} (limit : v.limit ≡ min largest_count (v.first + 1)) (few : length es ≤ largest_count) (d : ListedPart v es 0 n s t) where
  pub found : 0 < length s.masks → v.first < n → pixel_of (slot_at t 0) ≡ pixel_of (get_or es v.first no_pixel)
  found l h =
      let e : v.first + 0 - 0 ≡ v.first = omega arith in
      ap pixel_of (d.there 0 l (omega arith) (omega arith) ∙ ap (λ (j : ℕ). get_or es j no_pixel) e)

  -- the count has come past k only where there is a k-th
  pub there : v.first < n → v.first < length es
  there h = omega (arith, d.count)

  pub past : n ≤ v.first → pixel_of no_pixel ≡ pixel_of (get_or es v.first no_pixel)
  past h = ap pixel_of (sym (get_or-eq_default es no_pixel (omega (arith, d.count))))

-- ---- a run: ps and ms are the two slices at the end
pub run_listed :
    {es : List Masked} {before after cleared : Slots} {ps ms : List ℕ} → before.count ≡ 0 → before.limit ≡ largest_count → length es ≤ largest_count
    → ListedIn es before after → Cleared after cleared → ps ≡ cleared.pixels.now → ms ≡ cleared.masks.now
    → ListedAll es before.first cleared.count before.masks.now ps ms
run_listed {es} {before} {after} {cleared} {ps} {ms} none limit few d c ep em =
    record {
      count = omega (arith, part.count, none, limit, c.count);
      pixels_long = ap length ep ∙ c.zeros.pixels ∙ part.pixels ∙ before.matched;
      masks_long = ap length em ∙ c.zeros.masks ∙ part.masks;
      slots = λ i l. (λ j. slot_at (places_of (ep j) (em j)) i) ∙ go i l (dec_lt i reached);
    }
  where
    part : ListedPart (window_of before) es before.count after.count (held before) (held after)
    part = d.part

    reached : ℕ
    reached = min (length after.masks.now) (after.count - after.first)

    go : (i : ℕ) → i < length before.masks.now → Dec (i < reached) → slot_at (held cleared) i ≡ get_or es (before.first + i) no_pixel
    go i l (yes h) =
        let e : before.first + i - before.count ≡ before.first + i = omega (arith, none) in
        c.zeros.below i h
        ∙ part.there i l (omega (arith, none)) (omega (arith, d.first, h))
        ∙ ap (λ (j : ℕ). get_or es j no_pixel) e
    go i l (no h) =
        c.zeros.written i (omega arith) (omega (arith, part.masks))
        ∙ sym (get_or-eq_default es no_pixel (omega (arith, part.count, part.masks, none, limit, d.first)))
