-- To be believed. A run of emitted pixels: the single answers to k = first, first + 1, .. one after the other, into lent slices for their pixels and their masks. Definitions
-- only. Source: docs/RULES.md, Emitted pixels by themselves.
use Rattle.std.specs.Prelude.{ℕ, zero, suc, ◌+◌, ◌-◌, ◌≤◌, min, List, [], ◌∷◌, map, length, Result, Ok, Err, if◌then◌else◌, ◌==◌}
use Rattle.refused.specs.declared.Refusal.{Refusal}
use Rattle.refused.specs.Numbers.{number_of}
use Rattle.raster_pixel.specs.Parts.{from}
use Rattle.frame.specs.Checks.{or_else}
use Rattle.frame.specs.Frame.{Frame}
use Rattle.frame_draw.specs.Draw.{DrawArgs, draw_answer}
use Rattle.frame_emitted.specs.declared.Listed.{Listed}
use Rattle.frame_emitted.specs.Emitted.{PixelAnswer, emitted_answer}

-- the number, how many slots have a pixel, how many pixels the draw emits, and the two slices afterwards
pub record PixelsAnswer : Type 0 where
  pub number : ℕ
  pub listed : ℕ
  pub emitted : ℕ
  pub pixels : List ℕ
  pub masks : List ℕ

abbrev pub pixels_means : Result Listed Refusal → List ℕ → List ℕ → PixelsAnswer
pixels_means (Ok l) ps ms = record { number = 0; listed = l.listed; emitted = l.emitted; pixels = ps; masks = ms }
pixels_means (Err e) ps ms = record { number = number_of e; listed = 0; emitted = 0; pixels = ps; masks = ms }

-- a refusal's number is not 0
abbrev pub NumberedPixels : Result Listed Refusal → Type 0
NumberedPixels (Ok l) = Unit
NumberedPixels (Err e) = 1 ≤ number_of e

-- the single answers to k = first up to first + n
abbrev pub singles : DrawArgs → ℕ → ℕ → Frame → ℕ → ℕ → List PixelAnswer
singles d w h f first n = from (λ (k : ℕ). emitted_answer d w h f k ∷ []) first (first + n)

-- the run's own refusal, after numbers 1 to 7: the two slices have not one length. It changes nothing
abbrev pub unequal : ℕ
unequal = 20

abbrev pub pixels_refusal : DrawArgs → ℕ → ℕ → Frame → List ℕ → List ℕ → ℕ
pixels_refusal d w h f ps ms = or_else (draw_answer d w h f).number (if length ps == length ms then 0 else unequal)

-- accepted, a slot for each single answer. The draw's count is what `draw` would answer; the slots that have a pixel are the first ones, as many as the draw has from place
-- first on (none where first is past its count), and no more than there are
abbrev pub pixels_by : ℕ → ℕ → ℕ → List PixelAnswer → List ℕ → List ℕ → PixelsAnswer
pixels_by zero first emitted answers ps ms =
    record {
      number = 0;
      listed = min (length ms) (emitted - first);
      emitted = emitted;
      pixels = map (λ (a : PixelAnswer). a.pixel) answers;
      masks = map (λ (a : PixelAnswer). a.mask) answers;
    }
pixels_by (suc k) first emitted answers ps ms = record { number = suc k; listed = 0; emitted = 0; pixels = ps; masks = ms }

unfoldable pub emitted_run : DrawArgs → ℕ → ℕ → Frame → ℕ → List ℕ → List ℕ → PixelsAnswer
emitted_run d w h f first ps ms = pixels_by (pixels_refusal d w h f ps ms) first (draw_answer d w h f).pixels (singles d w h f first (length ms)) ps ms
