-- A full pixel of one colour: what is stored of it, and that this is a step of the rules. Assumes nothing.
use mathlib.Core.Path.{◌≡◌, refl, sym, ap, subst, ◌∙◌}
use mathlib.Core.Bool.{Bool, true, false, cond, ◌||◌, not}
use mathlib.Core.List.{List}
use Prim.Native.Nat.{ℕ, ◌+◌, ◌-◌, ◌*◌, ◌≤◌, ◌<◌}
use native.Mathlib.Omega.{arith}
use Rattle.std.proofs.lemmas.Grind.{common_steps}
use lib.Bits.{bit_or}
use lib.ListN.{length, get_or, set}
use Rattle.std.proofs.lemmas.List.{set-get_or}
use Rattle.num_bits.proofs.Masks.{ones_full}
use Rattle.num_float.specs.Color.{f1}
use Rattle.state.specs.declared.RenderMode.{RenderMode}
use Rattle.state.specs.declared.Rgba.{Rgba}
use Rattle.combiner.specs.declared.Combiner.{Combiner}
use Rattle.std.specs.Prelude.{None, Some}
use Rattle.std.specs.Bool.{then_some}
use Rattle.frame_pixel.specs.declared.Colors.{Colors}
use Rattle.frame_pixel.specs.declared.full.Full.{Full}
use Rattle.frame_pixel.specs.Marks.{color_marked, coverage_marked, unknown, mark_of}
use Rattle.frame_pixel.specs.Rules.{coverage_byte, assembled}
use Rattle.frame_pixel.specs.Coloring.{over_colors}
use Rattle.frame_pixel.specs.Full.{FullOf, Enough, full_coverage, full_with, full_step}
use Rattle.frame_pixel.proofs.Fulls.{full-step}
use Rattle.raster_pixel.specs.Parts.{from}
use Rattle.raster_pixel.proofs.Loops.{Going, going_start, going_more, going_done}
use Rattle.frame.specs.Frame.{Frame, pixel_at, put_pixel}
use Rattle.frame.specs.Fits.{Fit, with_colors, with_coverage, colors_at, colors_if, stored_at}
use Rattle.frame_paint.specs.declared.paint.Paint.{Paint}
use Rattle.frame_paint.specs.Steps.{source_of, step_frame}
use Rattle.frame_paint.specs.Pixel.{Drew, emit_of}
use Rattle.frame_paint.specs.Row.{full_pixel, filled_at}
use Rattle.frame_paint.proofs.Fits.{fit_step}
use Rattle.frame_paint.proofs.Steps.{three_back}

-- ---- what is stored
full-coverage :
    (fills m : Bool) (cs : List ℕ) (p : ℕ)
    → with_coverage cs p (then_some fills 7) ≡ set cs p (coverage_byte (full_coverage fills (cond m (Some (get_or cs p 0)) None)) (get_or cs p 0))
full-coverage fills m cs p = grind (arith, common_steps, set-get_or)

full-colors :
    (l marked o : Bool) (cs : List ℕ) (p : ℕ) (over : Colors → Colors) (own : Colors)
    → with_colors cs p (then_some (cond l marked o) (cond l (over (colors_if marked (colors_at cs p))) own))
    ≡ (let c = cond (cond l marked o) (cond l (over (colors_at cs p)) own) (colors_at cs p) in set (set (set cs (3 * p) c.red) (3 * p + 1) c.green) (3 * p + 2) c.blue)
full-colors l marked o cs p over own = grind (arith, common_steps, three_back)

-- the marks that it sets, joined with those of its colour and of the coverage that stood there
full_mark : (known m fills : Bool) (c : ℕ) → bit_or (mark_of known m) (mark_of false fills) ≡ mark_of known (not (unknown (full_coverage fills (cond m (Some c) None))))
unfolding mark_of
full_mark known m fills c = grind (arith, common_steps)

pub filled :
    (full : Full) (f : Frame) (p : ℕ) {m known : Bool} {new : Colors} {a : ℕ} {g : Frame} → m ≡ coverage_marked (get_or f.marks p 0)
    → known ≡ cond full.layered (color_marked (get_or f.marks p 0)) (full.sure || m)
    → new ≡ cond full.layered (over_colors full.layer (colors_if (color_marked (get_or f.marks p 0)) (colors_at f.colors p))) full.own
    → full.sets ≡ mark_of false full.fills → a ≡ mark_of known m → g ≡ stored_at f p (then_some known new) (then_some full.fills 7) (bit_or a full.sets)
    → g ≡ filled_at full f p
unfolding full_step full_with assembled
filled full f p em ek en es ea e = grind (arith, common_steps, full-colors, full-coverage, full_mark)

-- ---- that is a step
module _ {mode : RenderMode} {k : Combiner} {color : Rgba} {full : Full} (o : FullOf mode k color full) (e : Enough mode full) where
  pub filled_drew :
      {n p : ℕ} {f g : Frame} → Fit n f → g ≡ filled_at full f p → Drew mode k n (full_pixel color p) f g 1
  unfolding step_frame
  filled_drew {n} {p} {f} {g} fit h =
      let emit = emit_of p 255 color f1 in
      let t : g ≡ step_frame mode k f emit = h ∙ ap (put_pixel f p) (full-step mode k (source_of emit) (pixel_at f p) ones_full o e (fit.sound p)) in
      record {
        ran = record { state = t; count = refl };
        fit = subst (Fit n) (sym t) (fit_step mode k emit fit (omega arith) (omega arith));
      }

-- ---- a run of them, from a up to b, with i the next
pub record Filling (paint : Paint) (a b : ℕ) (f₀ : Frame) (i : ℕ) (f : Frame) : Type 0 where
  pub going : Going (step_frame paint.mode paint.combiner) (full_pixel paint.color) a b f₀ i f (i - a)
  pub fit : Fit (length f₀.marks) f

module _ (paint : Paint) (a b : ℕ) (f₀ : Frame) where
  going_count : {i n m : ℕ} {f : Frame} → n ≡ m → Going (step_frame paint.mode paint.combiner) (full_pixel paint.color) a b f₀ i f n → Going (step_frame paint.mode paint.combiner) (full_pixel paint.color) a b f₀ i f m
  going_count {i} {f = f} e = subst (λ (n : ℕ). Going (step_frame paint.mode paint.combiner) (full_pixel paint.color) a b f₀ i f n) e

  pub filling_start : Fit (length f₀.marks) f₀ → Filling paint a b f₀ a f₀
  filling_start h = record { going = going_count (omega arith) (going_start (step_frame paint.mode paint.combiner) (full_pixel paint.color) a b f₀); fit = h }

  pub filling_more :
      {i : ℕ} {f g : Frame} → a ≤ i → i < b → paint.even ≡ true → Filling paint a b f₀ i f → g ≡ filled_at paint.full f i → Filling paint a b f₀ (i + 1) g
  filling_more h t even l e =
      let d = filled_drew paint.filled (sym paint.enough ∙ even) l.fit e in
      record { going = going_count (omega arith) (going_more (step_frame paint.mode paint.combiner) (full_pixel paint.color) a b f₀ t l.going d.ran); fit = d.fit }

  pub filling_done : {i : ℕ} {f : Frame} → i ≡ b → Filling paint a b f₀ i f → Drew paint.mode paint.combiner (length f₀.marks) (from (full_pixel paint.color) a b) f₀ f (b - a)
  filling_done {i} {f} e l =
      record {
        ran = going_done (step_frame paint.mode paint.combiner) (full_pixel paint.color) a b f₀ (omega arith) (going_count (λ j. e j - a) l.going);
        fit = l.fit;
      }
