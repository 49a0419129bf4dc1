-- Whatever the bytes really were that a frame does not know: the frame with these bytes knows at least what it knows, and everything is known on it. Assumes nothing.
use Prim.Native.Nat.{ℕ, zero, suc, ◌+◌, ◌*◌, ◌/◌, ◌≤◌, ◌<◌}
use mathlib.Core.Path.{◌≡◌, refl, sym, ap, subst, ◌∙◌}
use mathlib.Core.Bool.{Bool, true, false, cond}
use mathlib.Core.List.{List, [], ◌∷◌}
use native.Mathlib.Omega.{arith}
use lib.ListN.{length, get_or}
use Rattle.std.proofs.lemmas.List.{get_or_past}
use Rattle.std.specs.Prelude.{Some, None}
use Rattle.blender.specs.Blend.{or_zero}
use Rattle.frame_pixel.specs.Marks.{highest_mark, color_marked, coverage_marked, mark_of}
use Rattle.frame_pixel.specs.Knows.{KnowsPixel, AllKnownPixel}
use Rattle.std.proofs.lemmas.Bool.{false≢true}
use Rattle.frame.specs.Frame.{Frame, pixel_at}
use Rattle.frame.specs.Checks.{frame_refusal}
use Rattle.frame.specs.Fits.{Fit}
use Rattle.frame.specs.Knows.{KnowsAtLeast, AllKnown}
use Rattle.frame.proofs.Fits.{accepted, not_refused}
use Rattle.theorem_calls.specs.Calls.{Call}
use Rattle.theorem_truth.specs.Completed.{filled, completed}
use Rattle.theorem_truth.specs.Truth.{Truth}
use Rattle.theorem_truth.proofs.Truth.{truth}

-- ---- one slice
module _ (known : ℕ → Bool) (really : ℕ → ℕ) where
  length_filled : (i : ℕ) (l : List ℕ) → length (filled known really i l) ≡ length l
  length_filled i [] = refl
  length_filled i (x ∷ xs) = ap suc (length_filled (suc i) xs)

  -- a byte that is known stays, also past the end
  filled_known : (i : ℕ) (l : List ℕ) (j k : ℕ) → k ≡ i + j → known k ≡ true → get_or (filled known really i l) j 0 ≡ get_or l j 0
  filled_known i [] j k e t = refl
  filled_known i (x ∷ xs) zero k e t = grind arith
  filled_known i (x ∷ xs) (suc j) k e t = filled_known (suc i) xs j k (omega arith) t

  -- every other one is the one that it really was
  filled_really : (i : ℕ) (l : List ℕ) (j k : ℕ) → k ≡ i + j → known k ≡ false → j < length l → get_or (filled known really i l) j 0 ≡ really k
  filled_really i [] j k e t h = absurd (omega arith)
  filled_really i (x ∷ xs) zero k e t h = grind arith
  filled_really i (x ∷ xs) (suc j) k e t h = filled_really (suc i) xs j k (omega arith) t (omega arith)

  -- a bound of both is a bound of all
  filled_le : (b i : ℕ) (l : List ℕ) (j k : ℕ) → k ≡ i + j → (known k ≡ true → get_or l j 0 ≤ b) → really k ≤ b → get_or (filled known really i l) j 0 ≤ b
  filled_le b i [] j k e h r = omega arith
  filled_le b i (x ∷ xs) zero k e h r = grind arith
  filled_le b i (x ∷ xs) (suc j) k e h r = filled_le b (suc i) xs j k (omega arith) h r

-- past the end of a slice nothing is known
inside : (t : ℕ → Bool) → t 0 ≡ false → (l : List ℕ) (p : ℕ) → t (get_or l p 0) ≡ true → p < length l
inside t z l p h = grind (arith, get_or_past l p 0)

module _ (f : Frame) (colors coverages : ℕ → ℕ) where
  abbrev whole : Frame
  whole = completed f colors coverages

  -- its slices are as long as f's
  as_colors : length whole.colors ≡ length f.colors
  as_colors = simp length_filled

  as_coverages : length whole.coverages ≡ length f.coverages
  as_coverages = simp length_filled

  as_marks : length whole.marks ≡ length f.marks
  as_marks = simp length_filled

  -- both marks
  marked : (p : ℕ) → p < length f.marks → get_or whole.marks p 0 ≡ 3
  unfolding mark_of
  marked p l = filled_really (λ (p : ℕ). false) (λ (p : ℕ). mark_of true true) 0 f.marks p p (omega arith) refl l

  color_stays : (p c : ℕ) → c / 3 ≡ p → color_marked (get_or f.marks p 0) ≡ true → get_or whole.colors c 0 ≡ get_or f.colors c 0
  color_stays p c e t =
      filled_known (λ (i : ℕ). color_marked (get_or f.marks (i / 3) 0)) colors 0 f.colors c c (omega arith)
      (subst (λ (q : ℕ). color_marked (get_or f.marks q 0) ≡ true) (sym e) t)

  pixel_completed : (p : ℕ) → KnowsPixel (pixel_at whole p) (pixel_at f p)
  pixel_completed p =
      record {
        mark1 = λ t. ap color_marked (marked p (inside color_marked refl f.marks p t));
        red = λ t. color_stays p (3 * p) (omega arith) t;
        green = λ t. color_stays p (3 * p + 1) (omega arith) t;
        blue = λ t. color_stays p (3 * p + 2) (omega arith) t;
        mark2 = λ t. ap coverage_marked (marked p (inside coverage_marked refl f.marks p t));
        coverage = λ t. filled_known (λ (p : ℕ). coverage_marked (get_or f.marks p 0)) coverages 0 f.coverages p p (omega arith) t;
      }

  pub completed_all_known : AllKnown whole
  completed_all_known = record { pixels = λ p l. pixel p (subst (λ (n : ℕ). p < n) as_marks l) }
    where
      pixel : (p : ℕ) → p < length f.marks → AllKnownPixel (pixel_at whole p)
      pixel p l = record { mark1 = ap color_marked (marked p l); mark2 = ap coverage_marked (marked p l) }

  module _ (w h : ℕ) (low : (p : ℕ) → coverages p ≤ 7) (e : frame_refusal f w h ≡ 0) where
    completed_fits : Fit (w * h) whole
    unfolding mark_of
    completed_fits =
        record {
          colors = as_colors ∙ (accepted f w h e).fit.colors;
          coverages = as_coverages ∙ (accepted f w h e).fit.coverages;
          marks = as_marks ∙ (accepted f w h e).fit.marks;
          low = λ p. filled_le (λ (p : ℕ). false) (λ (p : ℕ). mark_of true true) highest_mark 0 f.marks p p (omega arith) (λ t. absurd (false≢true t)) (omega arith);
          sound = λ p. grind (arith, byte p);
        }
      where
        of_sound : (b : Bool) (c : ℕ) → or_zero (cond b (Some c) None) ≤ 7 → b ≡ true → c ≤ 7
        of_sound b c l t = grind arith

        byte : (p : ℕ) → get_or whole.coverages p 0 ≤ 7
        byte p =
            filled_le (λ (p : ℕ). coverage_marked (get_or f.marks p 0)) coverages 7 0 f.coverages p p (omega arith)
            (of_sound (coverage_marked (get_or f.marks p 0)) (get_or f.coverages p 0) ((accepted f w h e).fit.sound p)) (low p)

    -- It knows at least what f knows.
    pub completed_knows : KnowsAtLeast w h whole f
    completed_knows =
        let a = accepted f w h e in
        record {
          frame =
              record {
                colors = as_colors;
                coverages = as_coverages;
                marks = as_marks;
                pixels = pixel_completed;
              };
          numbers = not_refused whole w h (record { width = a.width; height = a.height; few = a.few; fit = completed_fits }) ∙ sym e;
        }

    -- So the theorem holds of it: for every list of calls, on f and on f completed by whatever its unknown bytes really were.
    pub completed_truth : (os : List Call) → Truth w h os whole f
    completed_truth os = truth w h os whole f completed_knows
