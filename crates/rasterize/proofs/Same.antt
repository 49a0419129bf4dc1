-- Lists of which each does the same to every state, and which are as long as each other, may stand for each other in a draw: for two whose parts do so, one after the
-- other, it holds of the whole. Assumes nothing.
use mathlib.Core.Path.{◌≡◌, refl, ap, ◌∙◌}
use mathlib.Core.List.{List, ◌++◌, foldl, foldl-append}
use Prim.Native.Nat.{ℕ, zero, suc, ◌+◌, ◌-◌, ◌≤◌, ◌<◌}
use native.Mathlib.Omega.{arith}
use lib.ListN.{length, length-append}
use Rattle.state.specs.declared.RenderMode.{RenderMode}
use Rattle.combiner.specs.declared.Combiner.{Combiner}
use Rattle.raster_pixel.specs.Parts.{parts, from}
use Rattle.raster_pixel.specs.Emitted.{Emit}
use Rattle.frame.specs.Frame.{Frame}
use Rattle.frame_paint.specs.Steps.{step_frame}
use Rattle.frame_paint.specs.declared.Target.{Target}
use Rattle.frame_paint.specs.Target.{seen}
use Rattle.frame_paint.specs.Pixel.{Drew, DrewOn}

pub record Same {S E : Type 0} (step : S → E → S) (ds es : List E) : Type 0 where
  pub state : (s : S) → foldl step s ds ≡ foldl step s es
  pub count : length ds ≡ length es

module _ {S E : Type 0} {step : S → E → S} where
  pub same_as : {ds es : List E} → ds ≡ es → Same step ds es
  same_as e = record { state = λ s. ap (foldl step s) e; count = ap length e }

  same_then : {xs ys ds es : List E} → Same step xs ys → Same step ds es → Same step (xs ++ ds) (ys ++ es)
  same_then {xs} {ys} p q =
      record {
        state = λ s. simp (foldl-append, p.state s) (q.state (foldl step s ys));
        count = simp length-append (omega (arith, p.count, q.count));
      }

  same_from : {c d : ℕ → List E} (n i : ℕ) → ((j : ℕ) → i ≤ j → j < i + n → Same step (c j) (d j)) → Same step (parts c n i) (parts d n i)
  unfolding parts
  same_from zero i h = same_as refl
  same_from (suc n) i h = same_then (h i (omega arith) (omega arith)) (same_from n (i + 1) (λ j p q. h j (omega arith) (omega arith)))

  pub same_parts : {c d : ℕ → List E} (a b : ℕ) → ((i : ℕ) → a ≤ i → i < b → Same step (c i) (d i)) → Same step (from c a b) (from d a b)
  same_parts a b h = same_from (b - a) a (λ i p q. h i p (omega arith))

-- in a draw of a frame, and of the frame that a draw is carried out on
module _ {mode : RenderMode} {k : Combiner} {ds es : List Emit} where
  pub drew_same : {m n : ℕ} {f g : Frame} → Same (step_frame mode k) ds es → Drew mode k m ds f g n → Drew mode k m es f g n
  drew_same {f = f} s d = record { ran = record { state = d.ran.state ∙ s.state f; count = d.ran.count ∙ s.count }; fit = d.fit }

  pub drew_same_on : {before after : Target} {n : ℕ} → Same (step_frame mode k) ds es → DrewOn mode k ds before after n → DrewOn mode k es before after n
  drew_same_on {before = before} s d =
      record { ran = record { state = d.ran.state ∙ s.state (seen before); count = d.ran.count ∙ s.count }; same = d.same }
