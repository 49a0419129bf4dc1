-- A list of calls does not turn on the engines that its calls choose: a call answers the same and leaves the same frame with any choice, and so does a list with one choice
-- throughout, of which two lists that differ only in choices have the same. Assumes nothing.
use Prim.Native.Nat.{ℕ, suc}
use mathlib.Core.Path.{◌≡◌, refl, sym, ap, ap₂, ◌∙◌}
use mathlib.Core.List.{List, [], ◌∷◌, map}
use Rattle.frame.specs.Frame.{Frame}
use Rattle.frame_draw.specs.declared.Engine.{Engine}
use Rattle.frame_draw.specs.declared.Engine.TheVariants.{Fast, Slow}
use Rattle.theorem_calls.specs.Calls.{Call, Answer, answer_to, frame_after, answers, frame_after_all}
use Rattle.theorem_calls.specs.Choices.{chosen, SameButChoices, rechosen, SameOutcome}

-- what is the same for the two engines is the same for any two choices
either : {A : Type 0} (of : Engine → A) → of Fast ≡ of Slow → (a b : Engine) → of a ≡ of b
either of e Fast Fast = refl
either of e Fast Slow = e
either of e Slow Fast = sym e
either of e Slow Slow = refl

module _ (w h : ℕ) (engine : Engine) where
  -- ---- a call
  answer_same : (o : Call) (f : Frame) → answer_to w h (chosen engine o) f ≡ answer_to w h o f
  answer_same (Call.draw e d) f = either (λ (x : Engine). answer_to w h (Call.draw x d) f) refl engine e
  answer_same (Call.read a) f = refl
  answer_same (Call.reads a ws ns) f = refl
  answer_same (Call.pixel e d k) f = either (λ (x : Engine). answer_to w h (Call.pixel x d k) f) refl engine e
  answer_same (Call.pixels e d first ps ms) f = either (λ (x : Engine). answer_to w h (Call.pixels x d first ps ms) f) refl engine e

  frame_same : (o : Call) (f : Frame) → frame_after w h (chosen engine o) f ≡ frame_after w h o f
  frame_same (Call.draw e d) f = either (λ (x : Engine). frame_after w h (Call.draw x d) f) refl engine e
  frame_same (Call.read a) f = refl
  frame_same (Call.reads a ws ns) f = refl
  frame_same (Call.pixel e d k) f = refl
  frame_same (Call.pixels e d first ps ms) f = refl

  -- ---- one choice throughout
  answers_same : (os : List Call) (f : Frame) → answers w h (map (chosen engine) os) f ≡ answers w h os f
  answers_same [] f = refl
  answers_same (o ∷ os) f =
      ap₂ (λ (x : Answer) (xs : List Answer). x ∷ xs) (answer_same o f)
      (ap (answers w h (map (chosen engine) os)) (frame_same o f) ∙ answers_same os (frame_after w h o f))

  frames_same : (os : List Call) (f : Frame) → frame_after_all w h (map (chosen engine) os) f ≡ frame_after_all w h os f
  frames_same [] f = refl
  frames_same (o ∷ os) f = ap (frame_after_all w h (map (chosen engine) os)) (frame_same o f) ∙ frames_same os (frame_after w h o f)

-- ---- any choices
-- Lists that differ only in the engines that their calls choose have the same answers, from first to last, and leave the same frame, whatever the frame before.
pub choices : (w h : ℕ) (xs ys : List Call) (f : Frame) → SameButChoices xs ys → SameOutcome w h xs ys f
choices w h xs ys f e =
    record {
      same = sym (answers_same w h Fast xs f) ∙ ap (λ (os : List Call). answers w h os f) e ∙ answers_same w h Fast ys f;
      frame = sym (frames_same w h Fast xs f) ∙ ap (λ (os : List Call). frame_after_all w h os f) e ∙ frames_same w h Fast ys f;
    }

twice : (a b : Engine) (o : Call) → chosen a (chosen b o) ≡ chosen a o
twice a b (Call.draw e d) = refl
twice a b (Call.read r) = refl
twice a b (Call.reads r ws ns) = refl
twice a b (Call.pixel e d k) = refl
twice a b (Call.pixels e d first ps ms) = refl

rechosen_same : (engines : ℕ → Engine) (os : List Call) → SameButChoices (rechosen engines os) os
rechosen_same engines [] = refl
rechosen_same engines (o ∷ os) =
    ap₂ (λ (x : Call) (xs : List Call). x ∷ xs) (twice Fast (engines 0) o) (rechosen_same (λ (i : ℕ). engines (suc i)) os)

-- So the choices of a list may be made anew, call by call in any way.
pub any_choices : (w h : ℕ) (engines : ℕ → Engine) (os : List Call) (f : Frame) → SameOutcome w h (rechosen engines os) os f
any_choices w h engines os f = choices w h (rechosen engines os) os f (rechosen_same engines os)
