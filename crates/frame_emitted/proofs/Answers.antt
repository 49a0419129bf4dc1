-- The answers follow from the draw's plan: its number where it is turned away, and else the list that the draw would carry out, of which the masks alone are listed. Assumes
-- nothing.
use Prim.Native.Nat.{ℕ, zero, suc, ◌+◌, ◌-◌, ◌≤◌, ◌<◌, min}
use mathlib.Core.Path.{◌≡◌, refl, sym, ap, ◌∙◌}
use mathlib.Core.Bool.{cond}
use mathlib.Core.List.{List, map}
use native.Mathlib.Omega.{arith}
use borrow.Author.Tests.{eq-eqb, ne_eqb}
use lib.Dec.{eqb}
use lib.ListN.{length, get_or, length-map, get_or-map}
use lib.Seq.{ext_get_or}
use Rattle.std.specs.Prelude.{Option, Some, None, Result, Ok, Err}
use Rattle.std.specs.Result.{IsErrAnd}
use Rattle.refused.specs.declared.Refusal.{Refusal}
use Rattle.refused.specs.declared.Refusal.TheVariants as refusal
use Rattle.refused.specs.Numbers.{number_of}
use Rattle.refused.proofs.Numbers.{positive}
use Rattle.combiner_resolved.specs.Resolved.{mixed_by, resolved_of}
use Rattle.raster_pixel.specs.Draw.{emitted_as}
use Rattle.raster_pixel.proofs.Counts.{geometry_most}
use Rattle.raster_pixel.proofs.Parts.{each_length, each_at}
use Rattle.raster_emitted.specs.declared.slots.Slots.{Slots}
use Rattle.raster_emitted.specs.Listed.{ListedIn, Cleared}
use Rattle.raster_emitted.specs.Masked.{Masked, masked_of, no_pixel}
use Rattle.raster_emitted.proofs.Colorless.{geometry-masks}
use Rattle.frame.specs.Checks.{or_else}
use Rattle.frame.specs.Frame.{Frame}
use Rattle.frame_draw.specs.Draw.{DrawArgs, Plan, plan_of, answer_by, draw_answer}
use Rattle.frame_draw.specs.declared.accepted.AcceptedDraw.{AcceptedDraw}
use Rattle.frame_draw.specs.Answered.{Accepted}
use Rattle.frame_emitted.specs.declared.Emitted.{Emitted}
use Rattle.frame_emitted.specs.declared.Listed.{Listed}
use Rattle.frame_emitted.specs.Emitted.{PixelAnswer, without_pixel, pixel_of, pixel_means, NumberedPixel, pixel_by, emitted_answer}
use Rattle.frame_emitted.specs.Run.{pixels_means, NumberedPixels, singles, pixels_by, emitted_run}
use Rattle.raster_emitted.specs.Shapes.{masks_as}
use Rattle.frame_emitted.specs.Places.{largest_count, FoundAt, ListedAll}
use Rattle.frame_emitted.proofs.Ends.{pixel_there}
use Rattle.frame_emitted.proofs.Slots.{run_listed}

-- ---- what an accepted draw emits
module _ (a : AcceptedDraw) where
  -- it is listed without its colours
  masks_are : map masked_of (emitted_as a.view a.shapes) ≡ masks_as a.view a.shapes
  masks_are =
      let v = a.view in
      let s = a.shapes in
      geometry-masks s.combiner (mixed_by (resolved_of s.combiner)) a.mixed s.mode s.cull v.scissor v.width v.height s.lists.vertices.now s.lists.present.now s.lists.indices.now s.geometry

  -- and counts as many pixels
  masks_count : length (masks_as a.view a.shapes) ≡ length (emitted_as a.view a.shapes)
  masks_count = ap length (sym masks_are) ∙ length-map (emitted_as a.view a.shapes) masked_of

  -- so few that no count overflows
  pub masks_few : length (masks_as a.view a.shapes) ≤ largest_count
  masks_few =
      let v = a.view in
      let s = a.shapes in
      omega (arith, masks_count, a.few, geometry_most v.scissor v.sized.width_small v.sized.height_small s.mode s.combiner s.cull s.lists.vertices.now s.lists.present.now s.lists.indices.now s.geometry)

module _ (d : DrawArgs) (w h : ℕ) (f : Frame) where
  -- ---- turned away
  module _ (e : Refusal) (refused_plan : Plan.refuse (number_of e) ≡ plan_of d w h f) where
    pub pixel_refused :
        (k : ℕ) (r : Result (Option Emitted) Refusal) → IsErrAnd r (λ (x : Refusal). x ≡ e) → (pixel_means r ≡ emitted_answer d w h f k) × NumberedPixel r
    unfolding emitted_answer
    pixel_refused k (Ok o) q = absurd q
    pixel_refused k (Err x) q = (ap (λ (x : Refusal). without_pixel (number_of x)) q ∙ ap (λ (p : Plan). pixel_by p k) refused_plan, positive x)

    pub run_refused :
        (first : ℕ) (ps ms : List ℕ) (r : Result Listed Refusal) → IsErrAnd r (λ (x : Refusal). x ≡ e)
        → (pixels_means r ps ms ≡ emitted_run d w h f first ps ms) × NumberedPixels r
    unfolding emitted_run draw_answer
    run_refused first ps ms (Ok l) q = absurd q
    run_refused first ps ms (Err x) q = (
      ap (λ (x : Refusal). pixels_means (Err x) ps ms) q
          ∙ go (number_of e) (positive e) (cond (eqb (length ps) (length ms)) 0 20) _
          ∙ (λ i. pixels_by (or_else (answer_by (refused_plan i)).number (cond (eqb (length ps) (length ms)) 0 20)) first (answer_by (refused_plan i)).pixels (singles d w h f first (length ms)) ps ms),
      positive x,
    )
      where
        go :
            (n : ℕ) → 1 ≤ n → (next : ℕ) (answers : List PixelAnswer)
            → record { number = n; listed = 0; emitted = 0; pixels = ps; masks = ms } ≡ pixels_by (or_else n next) first 0 answers ps ms
        go zero l next answers = absurd (omega arith)
        go (suc n) l next answers = refl

  -- ---- accepted
  module _ {a : AcceptedDraw} (accepted : Accepted d w h f a) where
    answer_at_lem : (k : ℕ) → pixel_of (get_or (masks_as a.view a.shapes) k no_pixel) ≡ emitted_answer d w h f k
    unfolding emitted_answer
    answer_at_lem k = ap (λ (l : List Masked). pixel_of (get_or l k no_pixel)) (sym (masks_are a)) ∙ ap (λ (p : Plan). pixel_by p k) accepted.plan

    -- the count that `draw` would answer
    count_is : length (masks_as a.view a.shapes) ≡ (draw_answer d w h f).pixels
    unfolding draw_answer
    count_is = masks_count a ∙ ap (λ (p : Plan). (answer_by p).pixels) accepted.plan

    pub pixel_accepted :
        (o : Option Emitted) (k : ℕ) → pixel_means (Ok o) ≡ pixel_of (get_or (masks_as a.view a.shapes) k no_pixel) → FoundAt (masks_as a.view a.shapes) k o
        → (pixel_means (Ok o) ≡ emitted_answer d w h f k) × NumberedPixel (Ok o)
    pixel_accepted o k p q = let e = p ∙ answer_at_lem k in (e, right o e q)
      where
        right : (o : Option Emitted) → pixel_means (Ok o) ≡ emitted_answer d w h f k → FoundAt (masks_as a.view a.shapes) k o → NumberedPixel (Ok o)
        right (Some p) e q =
            let t = pixel_there d w h f k (omega (arith, count_is)) in
            omega (arith, t.1, ap (λ (x : PixelAnswer). x.mask) e)
        right None e q = tt

    -- slices of two lengths
    pub run_unequal :
        (first : ℕ) (ps ms : List ℕ) → (length ps ≡ length ms → ⊥)
        → (pixels_means (Err refusal.Slots) ps ms ≡ emitted_run d w h f first ps ms) × NumberedPixels (Err refusal.Slots)
    unfolding emitted_run draw_answer
    run_unequal first ps ms n = (
      (λ i. pixels_by (cond (sym (ne_eqb (length ps) (length ms) n) i) 0 20) first (length (emitted_as a.view a.shapes)) (singles d w h f first (length ms)) ps ms)
          ∙ (λ i. pixels_by (or_else (answer_by (accepted.plan i)).number (cond (eqb (length ps) (length ms)) 0 20)) first (answer_by (accepted.plan i)).pixels (singles d w h f first (length ms)) ps ms),
      omega arith,
    )

    -- a slot for each single answer
    module _ {first n : ℕ} {ms ps' ms' : List ℕ} (l : ListedAll (masks_as a.view a.shapes) first n ms ps' ms') where
      column :
          (of : PixelAnswer → ℕ) (xs : List ℕ) → length xs ≡ length ms
          → ((i : ℕ) → i < length ms → get_or xs i 0 ≡ of (emitted_answer d w h f (first + i))) → of (without_pixel 0) ≡ 0
          → xs ≡ map of (singles d w h f first (length ms))
      column of xs long at zero_of =
          let answer = emitted_answer d w h f in
          let all = singles d w h f first (length ms) in
          let short : length (map of all) ≡ length ms = length-map all of ∙ each_length answer first (length ms) in
          ext_get_or 0 xs (map of all) (long ∙ sym short) (λ i p.
          let q : i < length ms = omega arith in
          at i q
          ∙ sym (ap of (each_at answer (without_pixel 0) first (length ms) i q))
          ∙ sym (get_or-map of all i (without_pixel 0))
          ∙ ap (λ (z : ℕ). get_or (map of all) i z) zero_of)

      slot_at : (i : ℕ) → i < length ms → record { number = 0; pixel = get_or ps' i 0; mask = get_or ms' i 0 } ≡ emitted_answer d w h f (first + i)
      slot_at i p = ap pixel_of (l.slots i p) ∙ answer_at_lem (first + i)

      run_means :
          (ps : List ℕ) {m : ℕ} → length ps ≡ length ms → m ≡ min (length ms') (n - first)
          → (pixels_means (Ok (record { listed = m; emitted = n })) ps' ms' ≡ emitted_run d w h f first ps ms) × NumberedPixels (Ok (record { listed = m; emitted = n }))
      unfolding emitted_run draw_answer
      run_means ps {m} equal em =
          let count : n ≡ length (emitted_as a.view a.shapes) = l.count ∙ masks_count a in
          let slots : m ≡ min (length ms) (length (emitted_as a.view a.shapes) - first) = omega (arith, em, l.masks_long, count) in
          let pixels = column (λ (a : PixelAnswer). a.pixel) ps' l.pixels_long (λ i p. ap (λ (a : PixelAnswer). a.pixel) (slot_at i p)) refl in
          let masks = column (λ (a : PixelAnswer). a.mask) ms' l.masks_long (λ i p. ap (λ (a : PixelAnswer). a.mask) (slot_at i p)) refl in (
            (λ i. record { number = 0; listed = slots i; emitted = count i; pixels = pixels i; masks = masks i })
                ∙ (λ i. pixels_by (cond (sym (eq-eqb (length ps) (length ms) equal) i) 0 20) first (length (emitted_as a.view a.shapes)) (singles d w h f first (length ms)) ps ms)
                ∙ (λ i. pixels_by (or_else (answer_by (accepted.plan i)).number (cond (eqb (length ps) (length ms)) 0 20)) first (answer_by (accepted.plan i)).pixels (singles d w h f first (length ms)) ps ms),
            tt,
          )

    -- where they were counted from none on to the largest count
    pub run_accepted :
        (ps : List ℕ) {ps' ms' : List ℕ} {before after cleared : Slots} {m : ℕ} → before.count ≡ 0 → before.limit ≡ largest_count
        → length ps ≡ length before.masks.now → ListedIn (masks_as a.view a.shapes) before after → Cleared after cleared
        → ps' ≡ cleared.pixels.now → ms' ≡ cleared.masks.now → m ≡ min (length cleared.masks.now) (cleared.count - cleared.first)
        → (pixels_means (Ok (record { listed = m; emitted = cleared.count })) ps' ms' ≡ emitted_run d w h f before.first ps before.masks.now)
        × NumberedPixels (Ok (record { listed = m; emitted = cleared.count }))
    run_accepted ps none limit equal listed cleared ep em reached =
        run_means (run_listed none limit (masks_few a) listed cleared ep em) ps equal (omega (arith, reached, ap length em, cleared.first, listed.first))
