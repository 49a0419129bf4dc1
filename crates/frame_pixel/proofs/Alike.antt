-- The rules read the mark byte, and a byte only where it is marked; an unmarked byte is at most kept. So two alike pixels are alike after a step. Mark 1 is
-- then as F1 and F2 say, and the mark is not above the highest. What the rules are is looked at in the first part alone. Assumes nothing.
use Prim.Native.Nat.{ℕ, ◌≤◌}
use mathlib.Core.Path.{◌≡◌, refl, sym, ap, ◌∙◌}
use mathlib.Core.Bool.{Bool, true, false, cond, not, ◌&&◌}
use native.Mathlib.Omega.{arith}
use Rattle.state.specs.declared.RenderMode.{RenderMode}
use Rattle.combiner.specs.declared.Combiner.{Combiner}
use Rattle.blender.specs.Coverage.{Coverage}
use Rattle.std.specs.Prelude.{None, Some}
use Rattle.blender.specs.declared.Source.{Source}
use Rattle.std.proofs.lemmas.Bool.{false≢true}
use Rattle.frame_pixel.specs.declared.Pixel.{Pixel}
use Rattle.frame_pixel.specs.declared.Colors.{Colors}
use Rattle.frame_pixel.specs.Marks.{highest_mark, color_marked, coverage_marked, coverage_of, unknown, mark_of}
use Rattle.frame_pixel.specs.Rules.{rule_f1, rule_f2, memory_of, rule_f3, rule_f4, rule_f5, coverage_byte, coverage_at, known_after, colors_after, coverage_after, assembled, pixel_step}
use Rattle.frame_pixel.specs.Alike.{AlikePixel}

-- ---- the rules on two alike pixels, and on a pixel whose colour is then not known

-- what the rules are given of two alike pixels is the same
coverage_same : (mark c d : ℕ) → (coverage_marked mark ≡ true → c ≡ d) → coverage_of mark c ≡ coverage_of mark d
coverage_same mark c d h = go (coverage_marked mark) h
  where
    go : (b : Bool) → (b ≡ true → c ≡ d) → cond b (Some c) None ≡ cond b (Some d) None
    go true h = ap Some (h refl)
    go false h = refl

module _ {x y : Pixel} (h : AlikePixel x y) where
  pub same_coverage : coverage_at x ≡ coverage_at y
  same_coverage = coverage_same x.mark x.coverage y.coverage h.coverage ∙ ap (λ (m : ℕ). coverage_of m y.coverage) h.mark

  same_marked : color_marked x.mark ≡ color_marked y.mark
  same_marked = ap color_marked h.mark

  same_memory : memory_of (color_marked x.mark) x ≡ memory_of (color_marked x.mark) y
  unfolding memory_of
  same_memory = go (color_marked x.mark) h.red h.green h.blue
    where
      go :
          (b : Bool) → (b ≡ true → x.red ≡ y.red) → (b ≡ true → x.green ≡ y.green) → (b ≡ true → x.blue ≡ y.blue)
          → memory_of b x ≡ memory_of b y
      go true r g l = rw (r refl, g refl, l refl)
      go false r g l = refl

  known_same : (mode : RenderMode) (s : Source) → known_after mode s x ≡ known_after mode s y
  unfolding known_after
  known_same mode s = λ i. rule_f1 mode s (same_coverage i) (same_marked i) && not (rule_f2 mode s (same_coverage i))

  colors_same : (mode : RenderMode) (k : Combiner) (s : Source) → known_after mode s x ≡ true → colors_after mode k s x ≡ colors_after mode k s y
  unfolding colors_after
  colors_same mode k s t =
      let u = sym (known_same mode s) ∙ t in
      (λ i. cond (t i) (rule_f3 mode k s (coverage_at x) (memory_of (color_marked x.mark) x)) (rule_f4 x))
      ∙ ap (rule_f3 mode k s (coverage_at x)) same_memory
      ∙ (λ i. rule_f3 mode k s (same_coverage i) (memory_of (same_marked i) y))
      ∙ (λ i. cond (sym u i) (rule_f3 mode k s (coverage_at y) (memory_of (color_marked y.mark) y)) (rule_f4 y))

  coverage_after_same : (mode : RenderMode) (s : Source) → coverage_after mode s x ≡ coverage_after mode s y
  unfolding coverage_after
  coverage_after_same mode s = ap (rule_f5 mode s.count) same_coverage

module _ (mode : RenderMode) (k : Combiner) (s : Source) (x : Pixel) where
  colors_stay : known_after mode s x ≡ false → colors_after mode k s x ≡ rule_f4 x
  unfolding colors_after
  colors_stay h = λ i. cond (h i) (rule_f3 mode k s (coverage_at x) (memory_of (color_marked x.mark) x)) (rule_f4 x)

-- ---- the mark byte that is stored says what it was made of
color_of_mark : (yes : Bool) (c : Coverage) → color_marked (mark_of yes (not (unknown c))) ≡ yes
unfolding mark_of
color_of_mark true None = refl
color_of_mark true (Some c) = refl
color_of_mark false None = refl
color_of_mark false (Some c) = refl

coverage_of_mark : (yes : Bool) (c : Coverage) (old : ℕ) → coverage_of (mark_of yes (not (unknown c))) (coverage_byte c old) ≡ c
unfolding mark_of
coverage_of_mark true None old = refl
coverage_of_mark true (Some c) old = refl
coverage_of_mark false None old = refl
coverage_of_mark false (Some c) old = refl

mark_le : (yes : Bool) (c : Coverage) → mark_of yes (not (unknown c)) ≤ highest_mark
unfolding mark_of
mark_le true None = omega arith
mark_le true (Some c) = omega arith
mark_le false None = omega arith
mark_le false (Some c) = omega arith

-- a coverage that is marked after a step is not the byte that stood there
byte_of_mark : (yes : Bool) (c : Coverage) (d e : ℕ) → coverage_marked (mark_of yes (not (unknown c))) ≡ true → coverage_byte c d ≡ coverage_byte c e
unfolding mark_of
byte_of_mark true None d e p = absurd (false≢true p)
byte_of_mark false None d e p = absurd (false≢true p)
byte_of_mark true (Some c) d e p = refl
byte_of_mark false (Some c) d e p = refl

-- and one that is not marked is
byte_stays : (yes : Bool) (c : Coverage) (d : ℕ) → coverage_marked (mark_of yes (not (unknown c))) ≡ false → coverage_byte c d ≡ d
unfolding mark_of
byte_stays v None d p = refl
byte_stays true (Some c) d p = absurd (false≢true (sym p))
byte_stays false (Some c) d p = absurd (false≢true (sym p))

-- ---- a step
module _ (mode : RenderMode) (k : Combiner) (s : Source) (x : Pixel) where
  -- mark 1 is then as F1 and F2 say
  pub color_after : color_marked (pixel_step mode k s x).mark ≡ known_after mode s x
  unfolding pixel_step assembled
  color_after = color_of_mark (known_after mode s x) (coverage_after mode s x)

  -- its coverage is what F5 says, as far as that is known, and its colours are those of F3 and F4
  pub covered_after : coverage_at (pixel_step mode k s x) ≡ coverage_after mode s x
  unfolding pixel_step assembled
  covered_after = coverage_of_mark (known_after mode s x) (coverage_after mode s x) x.coverage

  pub colors-after : rule_f4 (pixel_step mode k s x) ≡ colors_after mode k s x
  unfolding pixel_step assembled
  colors-after = refl

  pub mark_after : (pixel_step mode k s x).mark ≤ highest_mark
  unfolding pixel_step assembled
  mark_after = mark_le (known_after mode s x) (coverage_after mode s x)

  -- what is not known after it is as it was
  pub kept_colors :
      color_marked (pixel_step mode k s x).mark ≡ false
      → ((pixel_step mode k s x).red ≡ x.red) × (((pixel_step mode k s x).green ≡ x.green) × ((pixel_step mode k s x).blue ≡ x.blue))
  unfolding pixel_step assembled
  kept_colors h =
      let colors = colors_stay mode k s x (sym (color_of_mark (known_after mode s x) (coverage_after mode s x)) ∙ h) in
      (ap (λ (c : Colors). c.red) colors, (ap (λ (c : Colors). c.green) colors, ap (λ (c : Colors). c.blue) colors))

  pub kept_coverage : coverage_marked (pixel_step mode k s x).mark ≡ false → (pixel_step mode k s x).coverage ≡ x.coverage
  unfolding pixel_step assembled
  kept_coverage h = byte_stays (known_after mode s x) (coverage_after mode s x) x.coverage h

-- alike pixels are alike after it
pub pixel_alike : (mode : RenderMode) (k : Combiner) (s : Source) (x y : Pixel) → AlikePixel x y → AlikePixel (pixel_step mode k s x) (pixel_step mode k s y)
unfolding pixel_step assembled
pixel_alike mode k s x y h =
    let known = known_after mode s x in
    let after = coverage_after mode s x in
    let same = coverage_after_same h mode s in
    record {
      mark = λ i. mark_of (known_same h mode s i) (not (unknown (same i)));
      red = λ t. ap (λ (c : Colors). c.red) (colors t);
      green = λ t. ap (λ (c : Colors). c.green) (colors t);
      blue = λ t. ap (λ (c : Colors). c.blue) (colors t);
      coverage = λ t. byte_of_mark known after x.coverage y.coverage t ∙ (λ i. coverage_byte (same i) y.coverage);
    }
  where
    colors : color_marked (mark_of (known_after mode s x) (not (unknown (coverage_after mode s x)))) ≡ true → colors_after mode k s x ≡ colors_after mode k s y
    colors t = colors_same h mode k s (sym (color_of_mark (known_after mode s x) (coverage_after mode s x)) ∙ t)
