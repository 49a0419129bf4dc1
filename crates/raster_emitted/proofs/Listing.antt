-- One law for every loop that lists emitted pixels: what two parts of a draw do, one after the other; and that parts after the window's end do nothing. Assumes nothing.
use Prim.Native.Nat.{ℕ, ◌+◌, ◌-◌, ◌≤◌, ◌<◌}
use mathlib.Core.Path.{◌≡◌, refl, sym, ap, subst, ◌∙◌}
use mathlib.Core.List.{List, [], ◌++◌}
use native.Mathlib.Decide.{dec_lt}
use native.Mathlib.Omega.{arith}
use lib.ListN.{length, get_or, length-append, get_or-append}
use lib.Seq.{get_or-append-add}
use Rattle.raster_pixel.specs.Parts.{from}
use Rattle.raster_pixel.proofs.Parts.{from_none, from_join, from_one}
use Rattle.raster_emitted.specs.declared.slots.Slots.{Slots}
use Rattle.raster_emitted.specs.Filled.{Places, slot_at}
use Rattle.raster_emitted.specs.Masked.{Masked, no_pixel}
use Rattle.raster_emitted.specs.Listed.{Window, window_of, held, ListedPart, ListedIn}

-- ---- of the slices, in a window
module _ {v : Window} where
  part_none : {n : ℕ} {s : Places} → n ≤ v.limit → ListedPart v [] n n s s
  part_none h =
      record {
        within = h;
        count = omega arith;
        pixels = refl;
        masks = refl;
        there = λ i l a b. absurd (omega arith);
        earlier = λ i l a. refl;
        later = λ i l a. refl;
      }

  module _ {es fs : List Masked} {n m k : ℕ} {s t u : Places} (d : ListedPart v es n m s t) (e : ListedPart v fs m k t u) where
    pub part_then : ListedPart v (es ++ fs) n k s u
    part_then =
        record {
          within = d.within;
          count = omega (arith, d.count, e.count, length-append es fs);
          pixels = e.pixels ∙ d.pixels;
          masks = e.masks ∙ d.masks;
          there = λ i l a b. go i l a b (dec_lt (v.first + i) m);
          earlier = λ i l a. e.earlier i (omega (arith, d.masks)) (omega (arith, d.within, d.count)) ∙ d.earlier i l a;
          later = λ i l a. e.later i (omega (arith, d.masks)) a ∙ d.later i l (omega (arith, d.count, e.count));
        }
      where
        go :
            (i : ℕ) → i < length s.masks → n ≤ v.first + i → v.first + i < k → Dec (v.first + i < m)
            → slot_at u i ≡ get_or (es ++ fs) (v.first + i - n) no_pixel
        go i l a b (yes q) =
            e.earlier i (omega (arith, d.masks)) q
            ∙ d.there i l a q
            ∙ sym (get_or-append es fs no_pixel (v.first + i - n) (omega (arith, d.count)))
        go i l a b (no q) =
            let past : length es + (v.first + i - m) ≡ v.first + i - n = omega (arith, d.count, e.count) in
            e.there i (omega (arith, d.masks)) (omega arith) b
            ∙ sym (get_or-append-add es fs (v.first + i - m) no_pixel)
            ∙ ap (λ (j : ℕ). get_or (es ++ fs) j no_pixel) past

  pub part_stop : (fs : List Masked) {es : List Masked} {n m : ℕ} {s t : Places} → m ≡ v.limit → ListedPart v es n m s t → ListedPart v (es ++ fs) n m s t
  part_stop fs {es} {n} h d =
      record {
        within = d.within;
        count = omega (arith, d.count, length-append es fs);
        pixels = d.pixels;
        masks = d.masks;
        there = λ i l a b. d.there i l a b ∙ sym (get_or-append es fs no_pixel (v.first + i - n) (omega (arith, d.count)));
        earlier = d.earlier;
        later = d.later;
      }

-- ---- of slots
-- nothing
pub listed_none : (s : Slots) → ListedIn [] s s
listed_none s = record { view = refl; first = refl; limit = refl; pixels = refl; masks = refl; part = part_none s.within }

-- the same pixels, said otherwise
pub listed_as : {ds es : List Masked} {s t : Slots} → ds ≡ es → ListedIn ds s t → ListedIn es s t
listed_as {s = s} {t} e d = subst (λ (l : List Masked). ListedIn l s t) e d

-- one part and then another
pub listed_then : {es fs : List Masked} {s t u : Slots} → ListedIn es s t → ListedIn fs t u → ListedIn (es ++ fs) s u
listed_then {es} {fs} {s} {t} {u} d e =
    let same : window_of t ≡ window_of s = λ i. record { first = d.first i; limit = d.limit i } in
    record {
      view = e.view ∙ d.view;
      first = e.first ∙ d.first;
      limit = e.limit ∙ d.limit;
      pixels = e.pixels ∙ d.pixels;
      masks = e.masks ∙ d.masks;
      part = part_then d.part (subst (λ (v : Window). ListedPart v fs t.count u.count (held t) (held u)) same e.part);
    }

-- past the window's end nothing is counted
pub listed_stop : (fs : List Masked) {es : List Masked} {s t : Slots} → t.count ≡ t.limit → ListedIn es s t → ListedIn (es ++ fs) s t
listed_stop fs h d =
    record { view = d.view; first = d.first; limit = d.limit; pixels = d.pixels; masks = d.masks; part = part_stop fs (h ∙ d.limit) d.part }

-- ---- a loop over the parts from a on: those up to i are listed
module _ (c : ℕ → List Masked) (a : ℕ) where
  pub listing_start : (s : Slots) → ListedIn (from c a a) s s
  listing_start s = listed_as (sym (from_none c a a (omega arith))) (listed_none s)

  module _ {s t : Slots} {i : ℕ} (h : a ≤ i) (l : ListedIn (from c a i) s t) where
    -- the parts from i up to e
    pub listing_by : {e : ℕ} {u : Slots} → i ≤ e → ListedIn (from c i e) t u → ListedIn (from c a e) s u
    listing_by {e} o d = listed_as (from_join c a i e h o) (listed_then l d)

    -- part i
    pub listing_more : {u : Slots} → ListedIn (c i) t u → ListedIn (from c a (i + 1)) s u
    listing_more d = listing_by (omega arith) (listed_as (sym (from_one c i)) d)

    -- the count has come to the window's end
    pub listing_stop : {b : ℕ} → i ≤ b → t.count ≡ t.limit → ListedIn (from c a b) s t
    listing_stop {b} o e = listed_as (from_join c a i b h o) (listed_stop (from c i b) e l)

    pub listing_done : {b : ℕ} → b ≤ i → i ≤ b → ListedIn (from c a b) s t
    listing_done {b} p o = let e : i ≡ b = omega arith in listed_as (ap (from c a) e) l
