-- The engine does not show. The contract of `draw` does not mention it, so what either engine leaves meets the same three clauses, and these settle answer and frame: a refusal's
-- number is not 0, which tells it from a count of pixels, and it tells the refusal. Assumes nothing.
use Prim.Native.Nat.{ℕ, zero, suc, ◌≤◌}
use mathlib.Core.Path.{◌≡◌, refl, sym, ap, ◌∙◌}
use native.Mathlib.Omega.{arith}
use Rattle.std.specs.Prelude.{Result, Ok, Err}
use Rattle.refused.specs.declared.Refusal.{Refusal}
use Rattle.refused.specs.Numbers.{number_of}
use Rattle.refused.proofs.Numbers.{refusal_at, refusal_back}
use Rattle.frame.specs.Frame.{Frame}
use Rattle.frame_draw.specs.Draw.{DrawArgs, DrawAnswer, drawn_means, Numbered}
use Rattle.frame_draw.specs.Outcome.{Outcome}

-- an answer from what it means
abbrev told_by : ℕ → ℕ → Result ℕ Refusal
told_by zero pixels = Ok pixels
told_by (suc n) pixels = Err (refusal_at (suc n))

abbrev told : DrawAnswer → Result ℕ Refusal
told a = told_by a.number a.pixels

told_means : (r : Result ℕ Refusal) → Numbered r → told (drawn_means r) ≡ r
told_means (Ok n) p = refl
told_means (Err e) p = go (number_of e) p ∙ ap Err (refusal_back e)
  where
    go : (n : ℕ) → 1 ≤ n → told_by n 0 ≡ Err (refusal_at n)
    go zero p = absurd (omega arith)
    go (suc n) p = refl

-- Of one draw on one frame there is one outcome, so whichever engine is chosen, answer and frame are the same.
pub either_engine :
    {d : DrawArgs} {w h : ℕ} {f : Frame} {r s : Result ℕ Refusal} {g g' : Frame} → Outcome d w h f r g → Outcome d w h f s g' → (r ≡ s) × (g ≡ g')
either_engine {r = r} {s = s} a b =
    (sym (told_means r a.number) ∙ ap told (a.answer ∙ sym b.answer) ∙ told_means s b.number, a.frame ∙ sym b.frame)
