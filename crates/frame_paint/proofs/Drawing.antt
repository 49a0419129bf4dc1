-- One law for every loop of a draw: crate raster_pixel's `Going`, which says what is left, over the frame that the draw is carried out on. And the pixels of its rows.
-- Assumes nothing.
use mathlib.Core.Path.{◌≡◌, refl, sym, subst, ◌∙◌}
use mathlib.Core.List.{List, []}
use Prim.Native.Nat.{ℕ, ◌+◌, ◌≤◌, ◌<◌}
use lib.ListN.{length}
use Rattle.state.specs.declared.RenderMode.{RenderMode}
use Rattle.combiner.specs.declared.Combiner.{Combiner}
use Rattle.std.specs.Prelude.{Some}
use Rattle.blender.specs.declared.Source.{Source}
use Rattle.frame_pixel.specs.declared.Pixel.{Pixel}
use Rattle.frame_pixel.specs.Rules.{pixel_step}
use Rattle.raster_pixel.specs.declared.Fragment.{Fragment}
use Rattle.raster_pixel.specs.declared.view.View.{View}
use Rattle.raster_pixel.specs.Parts.{from}
use Rattle.raster_pixel.specs.Emitted.{Emit, emits}
use Rattle.raster_pixel.proofs.Loops.{Going, going_start, going_fits, going_more, going_by_fits, going_by, going_done}
use Rattle.frame.specs.Frame.{pixel_at}
use Rattle.frame.specs.Fits.{known_pixel, put_known}
use Rattle.frame_paint.specs.declared.Target.{Target}
use Rattle.frame_paint.specs.Steps.{step_frame}
use Rattle.frame_paint.specs.Target.{seen, SameLoans}
use Rattle.frame_paint.specs.Pixel.{DrewOn, fragment_source, emit_of}
use Rattle.frame_paint.proofs.Steps.{stored_known}

-- ---- the frame
pub same_refl : (t : Target) → SameLoans t t
same_refl t = record { view = refl; colors = refl; coverages = refl; marks = refl }

pub same_then : {t u v : Target} → SameLoans t u → SameLoans u v → SameLoans t v
same_then a b =
    record { view = b.view ∙ a.view; colors = b.colors ∙ a.colors; coverages = b.coverages ∙ a.coverages; marks = b.marks ∙ a.marks }

-- ---- the same pixels, or their count, said otherwise
pub drew_as :
    {mode : RenderMode} {k : Combiner} {ds es : List Emit} {t u : Target} {n : ℕ} → ds ≡ es → DrewOn mode k ds t u n → DrewOn mode k es t u n
drew_as {mode} {k} {ds} {es} {t} {u} {n} e d = subst (λ (l : List Emit). DrewOn mode k l t u n) e d

pub drew_count :
    {mode : RenderMode} {k : Combiner} {es : List Emit} {t u : Target} {n r : ℕ} → n ≡ r → DrewOn mode k es t u n → DrewOn mode k es t u r
drew_count {mode} {k} {es} {t} {u} e d = subst (DrewOn mode k es t u) e d

-- what emits nothing
pub drew_nothing : {mode : RenderMode} {k : Combiner} {es : List Emit} (t : Target) → es ≡ [] → DrewOn mode k es t t 0
drew_nothing t e = drew_as (sym e) (record { ran = record { state = refl; count = refl }; same = same_refl t })

-- an emitted pixel, stored as far as it then is known
pub pixel_drawn :
    {mode : RenderMode} {k : Combiner} {fragment : Fragment} {p : ℕ} {t u : Target} {s : Source} {b x : Pixel}
    → s ≡ fragment_source fragment → b ≡ known_pixel (pixel_at (seen t) p) → x ≡ pixel_step mode k s b → seen u ≡ put_known (seen t) p x → SameLoans t u
    → DrewOn mode k (emits (Some fragment) p) t u 1
pixel_drawn {mode} {k} {fragment} {p} {t} hs hb hx hu same =
    record {
      ran = record { state = stored_known mode k (seen t) (emit_of p fragment.mask fragment.color fragment.shade_alpha) hs hb hx hu; count = refl };
      same = same;
    }

-- ---- a loop over the parts from a up to b, with i the next: from t₀ to t, with n pixels counted. What a part emits turns on the view
pub record DrawingOn (mode : RenderMode) (k : Combiner) (c : View → ℕ → List Emit) (a b : ℕ) (t₀ : Target) (i : ℕ) (t : Target) (n : ℕ) : Type 0 where
  pub going : Going (step_frame mode k) (c t₀.view) a b (seen t₀) i (seen t) n
  pub same : SameLoans t₀ t

module _ (mode : RenderMode) (k : Combiner) (c : View → ℕ → List Emit) (a b : ℕ) (t₀ : Target) where
  pub drawing_start : DrawingOn mode k c a b t₀ a t₀ 0
  drawing_start = record { going = going_start (step_frame mode k) (c t₀.view) a b (seen t₀); same = same_refl t₀ }

  -- part i
  module _ {i n r : ℕ} {t u : Target} (h : i < b) (l : DrawingOn mode k c a b t₀ i t n) (d : DrewOn mode k (c t.view i) t u r) where
    pub drawing_fits : n + r ≤ length (from (c t₀.view) a b)
    drawing_fits = going_fits (step_frame mode k) (c t₀.view) a b (seen t₀) h l.going (drew_as (λ j. c (l.same.view j) i) d).ran

    pub drawing_more : DrawingOn mode k c a b t₀ (i + 1) u (n + r)
    drawing_more =
        record {
          going = going_more (step_frame mode k) (c t₀.view) a b (seen t₀) h l.going (drew_as (λ j. c (l.same.view j) i) d).ran;
          same = same_then l.same d.same;
        }

  -- the parts from i up to e
  module _ {i e n r : ℕ} {t u : Target} (h : i ≤ e) (g : e ≤ b) (l : DrawingOn mode k c a b t₀ i t n) (d : DrewOn mode k (from (c t.view) i e) t u r) where
    pub drawing_by_fits : n + r ≤ length (from (c t₀.view) a b)
    drawing_by_fits = going_by_fits (step_frame mode k) (c t₀.view) a b (seen t₀) h g l.going (drew_as (λ j. from (c (l.same.view j)) i e) d).ran

    pub drawing_by : DrawingOn mode k c a b t₀ e u (n + r)
    drawing_by =
        record {
          going = going_by (step_frame mode k) (c t₀.view) a b (seen t₀) h g l.going (drew_as (λ j. from (c (l.same.view j)) i e) d).ran;
          same = same_then l.same d.same;
        }

  pub drawing_done : {i n : ℕ} {t : Target} → b ≤ i → DrawingOn mode k c a b t₀ i t n → DrewOn mode k (from (c t₀.view) a b) t₀ t n
  drawing_done h l = record { ran = going_done (step_frame mode k) (c t₀.view) a b (seen t₀) h l.going; same = l.same }
