-- Knowing more never changes what was known: if pixel y knows at least what pixel x knows, then it does so after a step. A yes of F1 and F2 on x is a yes on y with
-- the same three bytes, and a coverage that F5 knows on x it knows on y, and is the same. For every mode, combiner, source and count, and for any bytes. F2 is what the
-- bytes need: where it has no doubt, P is stored as it is over every coverage that the memory may have, or over none. Assumes nothing.
use Prim.Native.Nat.{ℕ, ◌≤◌}
use mathlib.Core.Path.{◌≡◌, refl, sym, ap, subst, ◌∙◌}
use mathlib.Core.Bool.{Bool, true, false, cond, not, ◌&&◌, ◌||◌}
use native.Mathlib.Omega.{arith}
use borrow.Author.Tests.{not-true}
use Rattle.state.specs.declared.RenderMode.{RenderMode}
use Rattle.state.specs.declared.Rgba.{Rgba}
use Rattle.combiner.specs.declared.Combiner.{Combiner}
use Rattle.state.specs.declared.Rgba8.{Rgba8}
use Rattle.blender.specs.Coverage.{Coverage}
use Rattle.std.specs.Prelude.{None, Some}
use Rattle.blender.specs.declared.Source.{Source}
use Rattle.blender.specs.Coverage.{overflow, blends, destination_of}
use Rattle.blender.specs.Known.{reject, alone}
use Rattle.blender.specs.Blend.{or_zero}
use Rattle.blender.proofs.Knows.{Less, less_zero, known_more, known_all, blend_same}
use Rattle.blender.proofs.Range.{destination_le}
use Rattle.frame_pixel.specs.declared.Pixel.{Pixel}
use Rattle.frame_pixel.specs.declared.Colors.{Colors}
use Rattle.frame_pixel.specs.Marks.{color_marked, coverage_marked, mark_of}
use Rattle.frame_pixel.specs.Rules.{rule_f1, rule_f2, memory_of, rule_f3, rule_f4, fresh_coverage, rule_f5, coverage_at, known_after, colors_after, coverage_after, assembled, pixel_step}
use Rattle.frame_pixel.specs.Knows.{KnowsPixel, AllKnownPixel, console_step}
use Rattle.std.proofs.lemmas.Bool.{false≢true, and_parts}
use Rattle.std.proofs.Math.Bool.{or-true}
use Rattle.frame_pixel.proofs.Eight.{fresh_same}
use Rattle.frame_pixel.proofs.Alike.{color_after, covered_after, colors-after}

-- ---- what is known of two coverages, by their marks and bytes
less_of : (a b : Bool) (c d : ℕ) → (a ≡ true → b ≡ true) → (a ≡ true → d ≡ c) → Less (cond a (Some c) None) (cond b (Some d) None)
less_of false b c d p q = Less.none
less_of true false c d p q = absurd (false≢true (p refl))
less_of true true c d p q = subst (λ (k : ℕ). Less (Some c) (Some k)) (sym (q refl)) Less.same

of_less : (a b : Bool) (c d : ℕ) → Less (cond a (Some c) None) (cond b (Some d) None) → a ≡ true → (b ≡ true) × (d ≡ c)
of_less false b c d l t = absurd (false≢true t)
of_less true false c d l t = elim l [ ]
of_less true true c d Less.same t = (refl, refl)

less_self : (c : Coverage) → Less c c
less_self None = Less.none
less_self (Some c) = Less.same

-- ---- F5
rule_less : (mode : RenderMode) (n : ℕ) {c d : Coverage} → Less c d → Less (rule_f5 mode n c) (rule_f5 mode n d)
unfolding rule_f5
rule_less mode n Less.same = Less.same
rule_less mode n (Less.none {d}) = go d
  where
    same : (c : ℕ) (f : Coverage) → fresh_coverage mode n ≡ f → Less f (Some (destination_of mode n c))
    same c None e = Less.none
    same c (Some v) e = subst (λ (k : ℕ). Less (Some v) (Some k)) (sym (fresh_same mode n v e c)) Less.same

    go : (d : Coverage) → Less (fresh_coverage mode n) (rule_f5 mode n d)
    go None = less_self (fresh_coverage mode n)
    go (Some c) = same c (fresh_coverage mode n) refl

-- what F5 makes known is what `destination` answers over some coverage, and so has three bits
rule_le : (mode : RenderMode) (n : ℕ) (c : Coverage) → 1 ≤ n → n ≤ 8 → or_zero c ≤ 7 → or_zero (rule_f5 mode n c) ≤ 7
unfolding rule_f5
rule_le mode n c p q h = go (rule_less mode n (less_zero (less_self c))) (destination_le mode n (or_zero c) (p, q, h))
  where
    go : {a b : Coverage} → Less a b → or_zero b ≤ 7 → or_zero a ≤ 7
    go Less.none l = omega arith
    go Less.same l = l

-- ---- F1 and F2
doubt_less : (mode : RenderMode) (s : Source) {c d : Coverage} → Less c d → rule_f2 mode s c ≡ false → rule_f2 mode s d ≡ false
unfolding rule_f2
doubt_less mode s (Less.none {d}) t = go d
  where
    go : (d : Coverage) → rule_f2 mode s d ≡ false
    go None = t
    go (Some c) = refl
doubt_less mode s Less.same t = refl

-- where F2 has no doubt, the pixel stands alone over every coverage that the memory may have, or over none
sure_alone :
    (mode : RenderMode) (s : Source) (n : ℕ) {c : Coverage} {i j : ℕ} → rule_f2 mode s c ≡ false → Less c (Some i) → Less c (Some j)
    → alone mode s.color.a n (Some i) ≡ alone mode s.color.a n (Some j)
unfolding rule_f2 alone blends
sure_alone mode s n t Less.same Less.same = refl
sure_alone mode s n {i = i} {j = j} t Less.none Less.none =
    go mode.antialias mode.force_blend (reject mode s.color.a) (not (overflow n i)) (not (overflow n j)) t
  where
    go : (a f r o q : Bool) → (true && a && not f && not r) ≡ false → (not (f || (a && o)) || r) ≡ (not (f || (a && q)) || r)
    go a true r o q t = refl
    go false false r o q t = refl
    go true false false o q t = absurd (false≢true (sym t))
    go true false true o q t = or-true (not o) ∙ sym (or-true (not q))

module _ (mode : RenderMode) (s : Source) (c : Coverage) (a : Bool) (known : (rule_f1 mode s c a && not (rule_f2 mode s c)) ≡ true) where
  said : rule_f1 mode s c a ≡ true
  said = (and_parts (rule_f1 mode s c a) (not (rule_f2 mode s c)) known).0

  sure : rule_f2 mode s c ≡ false
  sure = not-true (rule_f2 mode s c) (and_parts (rule_f1 mode s c a) (not (rule_f2 mode s c)) known).1

  module _ (d : Coverage) (b : Bool) (l : Less c d) (h : a ≡ true → b ≡ true) where
    yes_too : (rule_f1 mode s d b && not (rule_f2 mode s d)) ≡ true
    unfolding rule_f1
    yes_too = λ i. known_more mode s.color.a s.count c a said l h i && not (doubt_less mode s l sure i)

    colors_too : (k : Combiner) {m m' : Rgba} → (a ≡ true → m' ≡ m) → rule_f3 mode k s d m' ≡ rule_f3 mode k s c m
    unfolding rule_f1 rule_f3
    colors_too k {m} {m'} e =
        ap (λ (v : Rgba8). record { red = v.r; green = v.g; blue = v.b })
        (blend_same mode k s.color s.shade_alpha s.count c a m' m (or_zero d) (or_zero c) said e (less_zero l) (less_zero (less_self c))
        (sure_alone mode s s.count sure (less_zero l) (less_zero (less_self c))))

-- ---- a step
-- the memory's colour, where it is known
pub memory_too : (y x : Pixel) → KnowsPixel y x → color_marked x.mark ≡ true → memory_of (color_marked y.mark) y ≡ memory_of (color_marked x.mark) x
unfolding memory_of
memory_too y x h t = rw (t, h.mark1 t, h.red t, h.green t, h.blue t)

module _ (mode : RenderMode) (k : Combiner) (s : Source) (y x : Pixel) (h : KnowsPixel y x) where
  less : Less (coverage_at x) (coverage_at y)
  less = less_of (coverage_marked x.mark) (coverage_marked y.mark) x.coverage y.coverage h.mark2 h.coverage

  -- a colour that is known after it on x is known after it on y
  pub known_too : known_after mode s x ≡ true → known_after mode s y ≡ true
  unfolding known_after
  known_too t = yes_too mode s (coverage_at x) (color_marked x.mark) t (coverage_at y) (color_marked y.mark) less h.mark1

  -- and is the same
  pub same_colors : known_after mode s x ≡ true → colors_after mode k s y ≡ colors_after mode k s x
  unfolding colors_after known_after
  same_colors t =
      (λ i. cond (known_too t i) (rule_f3 mode k s (coverage_at y) (memory_of (color_marked y.mark) y)) (rule_f4 y))
      ∙ colors_too mode s (coverage_at x) (color_marked x.mark) t (coverage_at y) (color_marked y.mark) less h.mark1 k (memory_too y x h)
      ∙ (λ i. cond (sym t i) (rule_f3 mode k s (coverage_at x) (memory_of (color_marked x.mark) x)) (rule_f4 x))

  -- a coverage that is known after it on x is known after it on y, and is the same
  pub coverage_too : Less (coverage_after mode s x) (coverage_after mode s y)
  unfolding coverage_after
  coverage_too = rule_less mode s.count less

  -- One emitted pixel keeps it: if y knows at least what x knows, it does so after the pixel.
  pub pixel_knows : KnowsPixel (pixel_step mode k s y) (pixel_step mode k s x)
  pixel_knows =
      record {
        mark1 = λ t. color_after mode k s y ∙ known_too (was t);
        red = λ t. ap (λ (c : Colors). c.red) (colors t);
        green = λ t. ap (λ (c : Colors). c.green) (colors t);
        blue = λ t. ap (λ (c : Colors). c.blue) (colors t);
        mark2 = λ t. (coverage t).0;
        coverage = λ t. (coverage t).1;
      }
    where
      x_after : Pixel
      x_after = pixel_step mode k s x

      y_after : Pixel
      y_after = pixel_step mode k s y

      was : color_marked x_after.mark ≡ true → known_after mode s x ≡ true
      was t = sym (color_after mode k s x) ∙ t

      colors : color_marked x_after.mark ≡ true → rule_f4 y_after ≡ rule_f4 x_after
      colors t = colors-after mode k s y ∙ same_colors (was t) ∙ sym (colors-after mode k s x)

      coverage : coverage_marked x_after.mark ≡ true → (coverage_marked y_after.mark ≡ true) × (y_after.coverage ≡ x_after.coverage)
      coverage =
          of_less (coverage_marked x_after.mark) (coverage_marked y_after.mark) x_after.coverage y_after.coverage
          (rw (covered_after mode k s x, covered_after mode k s y) coverage_too)

-- a known coverage keeps its three bits
pub coverage-after :
    (mode : RenderMode) (k : Combiner) (s : Source) (x : Pixel) → 1 ≤ s.count → s.count ≤ 8 → or_zero (coverage_at x) ≤ 7
    → or_zero (coverage_at (pixel_step mode k s x)) ≤ 7
unfolding coverage_after
coverage-after mode k s x p q h = rw (covered_after mode k s x) (rule_le mode s.count (coverage_at x) p q h)

-- ---- a pixel of which everything is known
-- its coverage
pub all_covered : (x : Pixel) → AllKnownPixel x → coverage_at x ≡ Some x.coverage
all_covered x h = λ i. cond (h.mark2 i) (Some x.coverage) None

module _ (mode : RenderMode) (k : Combiner) (s : Source) (x : Pixel) (h : AllKnownPixel x) where
  -- F1 says yes, and F2 has no doubt
  pub all_known_lem : known_after mode s x ≡ true
  unfolding known_after rule_f1 rule_f2
  all_known_lem =
      (λ i. rule_f1 mode s (all_covered x h i) (h.mark1 i) && not (rule_f2 mode s (all_covered x h i)))
      ∙ (λ i. known_all mode s.color.a s.count x.coverage i && true)

  -- so its colours are F3's over its own coverage
  pub all_colors : colors_after mode k s x ≡ rule_f3 mode k s (Some x.coverage) (memory_of (color_marked x.mark) x)
  unfolding colors_after
  all_colors = λ i. cond (all_known_lem i) (rule_f3 mode k s (all_covered x h i) (memory_of (color_marked x.mark) x)) (rule_f4 x)

  -- Where everything is known the rules are the console's step: no question of what is known has a part in it.
  pub all_known_step : pixel_step mode k s x ≡ console_step mode k s x
  unfolding pixel_step assembled colors_after coverage_after rule_f3 rule_f5 console_step
  all_known_step =
      λ i.
      assembled (all_known_lem i) (cond (all_known_lem i) (rule_f3 mode k s (all_covered x h i) (memory_of (h.mark1 i) x)) (rule_f4 x)) (rule_f5 mode s.count (all_covered x h i))
      x.coverage

  -- everything is known of it after an emitted pixel
  pub pixel_all_known : AllKnownPixel (pixel_step mode k s x)
  unfolding console_step mark_of
  pixel_all_known =
      record { mark1 = ap (λ (y : Pixel). color_marked y.mark) all_known_step; mark2 = ap (λ (y : Pixel). coverage_marked y.mark) all_known_step }
