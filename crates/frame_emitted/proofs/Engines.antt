-- The engine does not show. The contracts of `emitted_pixel` and `emitted_pixels` do not mention it, so what either engine leaves meets the same clauses, and these settle the answer
-- and the two slices: a refusal's number is not 0 and tells the refusal, and a pixel's mask is not 0 either. Assumes nothing.
use Prim.Native.Nat.{ℕ, zero, suc, ◌≤◌}
use mathlib.Core.Path.{◌≡◌, refl, sym, ap, ◌∙◌}
use mathlib.Core.List.{List}
use native.Mathlib.Omega.{arith}
use Rattle.std.specs.Prelude.{Option, Some, None, Result, Ok, Err}
use Rattle.refused.specs.declared.Refusal.{Refusal}
use Rattle.refused.specs.Numbers.{number_of}
use Rattle.refused.proofs.Numbers.{refusal_at, refusal_back}
use Rattle.frame.specs.Frame.{Frame}
use Rattle.frame_draw.specs.Draw.{DrawArgs}
use Rattle.frame_emitted.specs.declared.Emitted.{Emitted}
use Rattle.frame_emitted.specs.declared.Listed.{Listed}
use Rattle.frame_emitted.specs.Emitted.{PixelAnswer, pixel_means, NumberedPixel}
use Rattle.frame_emitted.specs.Run.{PixelsAnswer, pixels_means, NumberedPixels}
use Rattle.frame_emitted.specs.Outcomes.{PixelOutcome, PixelsOutcome}

-- ---- one pixel
-- an answer from what it means
abbrev pixel_told_by : ℕ → ℕ → ℕ → Result (Option Emitted) Refusal
pixel_told_by zero pixel zero = Ok None
pixel_told_by zero pixel (suc m) = Ok (Some (record { pixel = pixel; mask = suc m }))
pixel_told_by (suc n) pixel mask = Err (refusal_at (suc n))

abbrev pixel_told : PixelAnswer → Result (Option Emitted) Refusal
pixel_told a = pixel_told_by a.number a.pixel a.mask

pixel-told : (r : Result (Option Emitted) Refusal) → NumberedPixel r → pixel_told (pixel_means r) ≡ r
pixel-told (Ok (Some e)) l = go e.mask l
  where
    go : (m : ℕ) → 1 ≤ m → pixel_told_by 0 e.pixel m ≡ Ok (Some (record { pixel = e.pixel; mask = m }))
    go zero l = absurd (omega arith)
    go (suc m) l = refl
pixel-told (Ok None) l = refl
pixel-told (Err e) l = go (number_of e) l ∙ ap Err (refusal_back e)
  where
    go : (n : ℕ) → 1 ≤ n → pixel_told_by n 0 0 ≡ Err (refusal_at n)
    go zero l = absurd (omega arith)
    go (suc n) l = refl

-- To one question on one frame there is one answer, so whichever engine is chosen, it is the same.
pub either_engine_pixel :
    {d : DrawArgs} {w h : ℕ} {f : Frame} {k : ℕ} {r s : Result (Option Emitted) Refusal} → PixelOutcome d w h f k r → PixelOutcome d w h f k s → r ≡ s
either_engine_pixel {r = r} {s = s} a b = sym (pixel-told r a.number) ∙ ap pixel_told (a.answer ∙ sym b.answer) ∙ pixel-told s b.number

-- ---- a run of them
abbrev listed_told_by : ℕ → ℕ → ℕ → Result Listed Refusal
listed_told_by zero n m = Ok (record { listed = n; emitted = m })
listed_told_by (suc k) n m = Err (refusal_at (suc k))

abbrev listed_told : PixelsAnswer → Result Listed Refusal
listed_told a = listed_told_by a.number a.listed a.emitted

listed-told : (r : Result Listed Refusal) (ps ms : List ℕ) → NumberedPixels r → listed_told (pixels_means r ps ms) ≡ r
listed-told (Ok l) ps ms p = refl
listed-told (Err e) ps ms p = go (number_of e) p ∙ ap Err (refusal_back e)
  where
    go : (n : ℕ) → 1 ≤ n → listed_told_by n 0 0 ≡ Err (refusal_at n)
    go zero p = absurd (omega arith)
    go (suc n) p = refl

-- what a run means has its two slices as they are afterwards
pub slices : (r : Result Listed Refusal) (ps ms : List ℕ) → (ps ≡ (pixels_means r ps ms).pixels) × (ms ≡ (pixels_means r ps ms).masks)
slices (Ok l) ps ms = (refl, refl)
slices (Err e) ps ms = (refl, refl)

-- Of one run on one frame there is one answer, and one content of the two slices afterwards.
pub either_engine_pixels :
    {d : DrawArgs} {w h : ℕ} {f : Frame} {first : ℕ} {ps ms : List ℕ} {r s : Result Listed Refusal} {ps₁ ps₂ ms₁ ms₂ : List ℕ}
    → PixelsOutcome d w h f first ps ms r ps₁ ms₁ → PixelsOutcome d w h f first ps ms s ps₂ ms₂ → (r ≡ s) × ((ps₁ ≡ ps₂) × (ms₁ ≡ ms₂))
either_engine_pixels {r = r} {s = s} {ps₁ = ps₁} {ps₂ = ps₂} {ms₁ = ms₁} {ms₂ = ms₂} a b =
    let e : pixels_means r ps₁ ms₁ ≡ pixels_means s ps₂ ms₂ = a.answer ∙ sym b.answer in
    let p = slices r ps₁ ms₁ in
    let q = slices s ps₂ ms₂ in (
      sym (listed-told r ps₁ ms₁ a.number) ∙ ap listed_told e ∙ listed-told s ps₂ ms₂ b.number,
      (p.0 ∙ ap (λ (x : PixelsAnswer). x.pixels) e ∙ sym q.0, p.1 ∙ ap (λ (x : PixelsAnswer). x.masks) e ∙ sym q.1),
    )
