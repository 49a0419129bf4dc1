-- One emitted pixel: the five bytes that the rules give, stored as far as they are known, are a step of the frame. Assumes nothing.
use mathlib.Core.Path.{◌≡◌, sym, subst, ◌∙◌}
use Prim.Native.Nat.{ℕ, ◌+◌, ◌*◌}
use mathlib.Core.Bool.{true, false, cond}
use native.Mathlib.Omega.{arith}
use Rattle.std.proofs.lemmas.Grind.{common_steps}
use mathlib.Core.List.{List}
use lib.ListN.{get_or, set}
use Rattle.std.proofs.lemmas.List.{set-get_or}
use Rattle.state.specs.declared.RenderMode.{RenderMode}
use Rattle.combiner.specs.declared.Combiner.{Combiner}
use Rattle.blender.specs.declared.Source.{Source}
use Rattle.frame_pixel.specs.declared.Pixel.{Pixel}
use Rattle.frame_pixel.specs.Marks.{color_marked, coverage_marked}
use Rattle.frame_pixel.specs.Rules.{pixel_step}
use Rattle.frame_pixel.specs.Alike.{AlikePixel}
use Rattle.frame_pixel.proofs.Alike.{pixel_alike, kept_colors, kept_coverage}
use Rattle.raster_pixel.specs.Emitted.{Emit}
use Rattle.frame.specs.Checks.{mark_ok}
use Rattle.frame.specs.Frame.{Frame, frame_of, pixel_at, put_pixel}
use Rattle.frame.specs.Fits.{Fit, known_pixel, put_known}
use Rattle.frame.proofs.Fits.{put_fit}
use Rattle.frame_paint.specs.Steps.{source_of, step_frame}

-- ---- a pixel read and stored as far as it is known

known_alike : (x : Pixel) → AlikePixel (known_pixel x) x
known_alike x = grind (arith, common_steps)

-- storing what is there
pub three_back :
    (l : List ℕ) (i : ℕ) → set (set (set l i (get_or l i 0)) (i + 1) (get_or l (i + 1) 0)) (i + 2) (get_or l (i + 2) 0) ≡ l
three_back l i = grind (arith, set-get_or)

-- an alike pixel whose unknown bytes are those that are there
module _ (f : Frame) (p : ℕ) {x y : Pixel} (a : AlikePixel x y) where
  alike_colors :
      (color_marked y.mark ≡ false → (y.red ≡ get_or f.colors (3 * p) 0) × ((y.green ≡ get_or f.colors (3 * p + 1) 0) × (y.blue ≡ get_or f.colors (3 * p + 2) 0)))
      → (put_known f p x).colors ≡ (put_pixel f p y).colors
  alike_colors kept = grind (arith, common_steps, three_back)

  alike_coverages : (coverage_marked y.mark ≡ false → y.coverage ≡ get_or f.coverages p 0) → (put_known f p x).coverages ≡ (put_pixel f p y).coverages
  alike_coverages kept = grind (arith, common_steps, set-get_or)

  put_alike :
      (color_marked y.mark ≡ false → (y.red ≡ get_or f.colors (3 * p) 0) × ((y.green ≡ get_or f.colors (3 * p + 1) 0) × (y.blue ≡ get_or f.colors (3 * p + 2) 0)))
      → (coverage_marked y.mark ≡ false → y.coverage ≡ get_or f.coverages p 0) → put_known f p x ≡ put_pixel f p y
  put_alike c d = λ i. frame_of (alike_colors c i) (alike_coverages d i) (set f.marks p (a.mark i))

-- a frame that fits does so with a pixel stored as far as it is known, if numbers 1 to 3 let that through
module _ (f : Frame) (p : ℕ) (x : Pixel) where
  kept_at : Pixel
  kept_at =
      record {
        red = cond (color_marked x.mark) x.red (get_or f.colors (3 * p) 0);
        green = cond (color_marked x.mark) x.green (get_or f.colors (3 * p + 1) 0);
        blue = cond (color_marked x.mark) x.blue (get_or f.colors (3 * p + 2) 0);
        coverage = cond (coverage_marked x.mark) x.coverage (get_or f.coverages p 0);
        mark = x.mark;
      }

  kept_alike : AlikePixel x kept_at
  unfolding kept_at
  kept_alike = grind (arith, common_steps)

  kept_ok : mark_ok kept_at.mark kept_at.coverage ≡ mark_ok x.mark x.coverage
  unfolding kept_at mark_ok
  kept_ok = grind (arith, common_steps)

  pub put_known_fit : {n : ℕ} → Fit n f → mark_ok x.mark x.coverage ≡ true → Fit n (put_known f p x)
  unfolding kept_at
  put_known_fit {n} fit ok =
      subst (Fit n)
      (sym
      (put_alike f p kept_alike
      (λ h. (grind (arith, common_steps), (grind (arith, common_steps), grind (arith, common_steps))))
      (λ h. grind (arith, common_steps))))
      (put_fit fit p kept_at (kept_ok ∙ ok))

-- a step on what is known, stored as far as it then is known, is a step of the frame
pub stored_known :
    (mode : RenderMode) (k : Combiner) (f : Frame) (e : Emit) {s : Source} {b x : Pixel} {g : Frame}
    → s ≡ source_of e → b ≡ known_pixel (pixel_at f e.pixel) → x ≡ pixel_step mode k s b → g ≡ put_known f e.pixel x → g ≡ step_frame mode k f e
unfolding step_frame
stored_known mode k f e {s} {b} {x} hs hb hx hg =
    let c = pixel_at f e.pixel in
    let y = pixel_step mode k (source_of e) c in
    let a : AlikePixel x y =
    subst (λ (z : Pixel). AlikePixel z y) (sym (hx ∙ (λ i. pixel_step mode k (hs i) (hb i)))) (pixel_alike mode k (source_of e) (known_pixel c) c (known_alike c)) in
    hg ∙ put_alike f e.pixel a (kept_colors mode k (source_of e) c) (kept_coverage mode k (source_of e) c)
