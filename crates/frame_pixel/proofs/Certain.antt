-- What is known is certain, and a coverage that is certain is known. How many colours that are certain are left unknown: of those in doubt exactly, and of pixels with
-- all eight samples that are not forced. Of other colours to which F1 says no it is not said; the comparison with the Rust counts them. Assumes nothing.
use Prim.Native.Nat.{ℕ, ◌+◌, ◌≤◌}
use mathlib.Core.Path.{◌≡◌, refl, sym, ap, subst, ◌∙◌}
use mathlib.Core.Bool.{Bool, true, false, cond, not, ◌&&◌}
use native.Mathlib.Omega.{arith}
use borrow.Author.Tests.{eqb-true, not-true, leb-false, le-leb, lt-leb}
use lib.Dec.{eqb}
use lib.Ieee.{lt, mul, div, of_int}
use Rattle.num_float.specs.Whole.{byte_of}
use Rattle.state.specs.declared.RenderMode.{RenderMode}
use Rattle.combiner.specs.declared.Combiner.{Combiner}
use Rattle.state.specs.declared.Rgba8.{Rgba8}
use Rattle.blender.specs.Coverage.{Coverage}
use Rattle.std.specs.Prelude.{None, Some}
use Rattle.blender.specs.declared.Source.{Source}
use Rattle.blender.specs.Mux.{mux_of}
use Rattle.blender.specs.Coverage.{overflow, destination_of}
use Rattle.blender.specs.Known.{reject, missing}
use Rattle.blender.specs.Blend.{or_zero}
use Rattle.blender.proofs.Knows.{Less, alone_same, blend_same, full_alone, alone_blend_same, alone_blend_memory}
use Rattle.frame_pixel.specs.declared.Pixel.{Pixel}
use Rattle.frame_pixel.specs.declared.Colors.{Colors}
use Rattle.frame_pixel.specs.Marks.{color_marked, coverage_marked, unknown}
use Rattle.frame_pixel.specs.Rules.{rule_f1, rule_f2, unit, memory_of, rule_f3, rule_f5, coverage_at, known_after, colors_after, coverage_after}
use Rattle.frame_pixel.specs.Certain.{Completes, CertainColors, CertainCoverage, colors_over, SameAtEnds}
use Rattle.std.proofs.lemmas.Bool.{false≢true, and_parts}
use Rattle.std.proofs.Math.Bool.{and-false}
use Rattle.frame_pixel.proofs.Asked.{fresh_known}
use Rattle.frame_pixel.proofs.Knows.{memory_too, same_colors, coverage_too, all_covered, all_colors}

-- ---- what is known is certain
module _ (mode : RenderMode) (k : Combiner) (s : Source) (x : Pixel) where
  pub known_certain : known_after mode s x ≡ true → CertainColors mode k s x (colors_after mode k s x)
  known_certain t y q = same_colors mode k s y x q.knows t

  pub covered_certain : (c : ℕ) → coverage_after mode s x ≡ Some c → CertainCoverage mode s x c
  covered_certain c e y q = same (subst (λ (d : Coverage). Less d (coverage_after mode s y)) e (coverage_too mode k s y x q.knows))
    where
      same : {d : Coverage} → Less (Some c) d → d ≡ Some c
      same Less.same = refl

-- ---- a pixel completed by a coverage: any, where its own is not known
module _ (x : Pixel) where
  abbrev with_coverage : ℕ → Pixel
  with_coverage c = record { red = x.red; green = x.green; blue = x.blue; coverage = c; mark = 3 }

  completes : (c : ℕ) → c ≤ 7 → (coverage_marked x.mark ≡ true → c ≡ x.coverage) → Completes (with_coverage c) x
  completes c l own =
      record {
        knows = record { mark1 = λ t. refl; red = λ t. refl; green = λ t. refl; blue = λ t. refl; mark2 = λ t. refl; coverage = own };
        all = record { mark1 = refl; mark2 = refl };
        low = l;
      }

  any : coverage_at x ≡ None → (c : ℕ) → c ≤ 7 → Completes (with_coverage c) x
  any u c l = completes c l (λ t. absurd (false≢true (ap unknown (sym (λ i. cond (t i) (Some x.coverage) None) ∙ u))))

-- ---- a coverage
module _ (mode : RenderMode) (s : Source) (x : Pixel) where
  -- over what x may really be, `destination` answers
  coverage-of : (y : Pixel) → Completes y x → coverage_after mode s y ≡ Some (destination_of mode s.count y.coverage)
  unfolding coverage_after rule_f5
  coverage-of y q = ap (rule_f5 mode s.count) (all_covered y q.all)

  -- what is certain is known: F5 gives nothing up
  pub certain_covered : or_zero (coverage_at x) ≤ 7 → (v : ℕ) → CertainCoverage mode s x v → coverage_after mode s x ≡ Some v
  unfolding coverage_after rule_f5
  certain_covered low v certain = go (coverage_marked x.mark) refl
    where
      go : (b : Bool) → coverage_marked x.mark ≡ b → rule_f5 mode s.count (coverage_at x) ≡ Some v
      go true e =
          let at : coverage_at x ≡ Some x.coverage = λ i. cond (e i) (Some x.coverage) None in
          let y = with_coverage x x.coverage in
          let q = completes x x.coverage (subst (λ (c : Coverage). or_zero c ≤ 7) at low) (λ t. refl) in
          ap (rule_f5 mode s.count) at ∙ sym (coverage-of y q) ∙ certain y q
      go false e =
          let u : coverage_at x ≡ None = λ i. cond (e i) (Some x.coverage) None in
          ap (rule_f5 mode s.count) u
          ∙ fresh_known mode s.count v
          (λ c l. ap or_zero (sym (coverage-of (with_coverage x c) (any x u c l)) ∙ certain (with_coverage x c) (any x u c l)))

-- ---- a colour in doubt: F1 says yes, and F2 turns that down. It turns on the coverage only by whether the pixel is blended
module _ (mode : RenderMode) (k : Combiner) (s : Source) (x : Pixel)
    (said : rule_f1 mode s (coverage_at x) (color_marked x.mark) ≡ true) (doubt : rule_f2 mode s (coverage_at x) ≡ true) where
  no_coverage : coverage_at x ≡ None
  unfolding rule_f2
  no_coverage = go (coverage_at x) doubt
    where
      go : (c : Coverage) → rule_f2 mode s c ≡ true → c ≡ None
      go None t = refl
      go (Some c) t = absurd (false≢true t)

  -- over whatever x may really be, the colours are F3's over any coverage that overflows as its own does
  colors_really :
      (y : Pixel) → Completes y x → (c : ℕ) → overflow s.count y.coverage ≡ overflow s.count c → colors_after mode k s y ≡ colors_over mode k s x c
  unfolding rule_f1 rule_f3
  colors_really y q c e =
      all_colors mode k s y q.all
      ∙ ap (λ (v : Rgba8). record { red = v.r; green = v.g; blue = v.b })
      (blend_same mode k s.color s.shade_alpha s.count (coverage_at x) (color_marked x.mark)
      (memory_of (color_marked y.mark) y) (memory_of (color_marked x.mark) x) y.coverage c said (memory_too y x q.knows)
      (less y.coverage) (less c) (alone_same mode s.color.a s.count y.coverage c e))
    where
      less : (c : ℕ) → Less (coverage_at x) (Some c)
      less c = subst (λ (d : Coverage). Less d (Some c)) (sym no_coverage) Less.none

  -- it is certain exactly where the least coverage and the full one give the same colours
  pub doubt_certain : (v : Colors) → CertainColors mode k s x v → SameAtEnds mode k s x v
  doubt_certain v certain = (at 0 (omega arith), at 7 (omega arith))
    where
      at : (c : ℕ) → c ≤ 7 → colors_over mode k s x c ≡ v
      at c l =
          sym (colors_really (with_coverage x c) (any x no_coverage c l) c refl)
          ∙ certain (with_coverage x c) (any x no_coverage c l)

  pub certain_doubt : 1 ≤ s.count → (v : Colors) → SameAtEnds mode k s x v → CertainColors mode k s x v
  certain_doubt p v same y q = go (overflow s.count y.coverage) refl
    where
      n : ℕ
      n = s.count

      go : (b : Bool) → overflow n y.coverage ≡ b → colors_after mode k s y ≡ v
      go true e = colors_really y q 7 (e ∙ sym (le-leb 8 (n + 7) (omega arith))) ∙ same.1
      go false e =
          let l = leb-false 8 (n + y.coverage) e in
          colors_really y q 0 (e ∙ sym (lt-leb 8 (n + 0) (omega arith))) ∙ same.0

-- ---- a pixel with all eight samples that is not forced: it is never blended, so that it is P's colour, certain wherever P is known
pub full_certain :
    (mode : RenderMode) (k : Combiner) (s : Source) (x : Pixel) → mode.force_blend ≡ false → s.count ≡ 8
    → missing (mux_of mode.blender_mux).p (color_marked x.mark) ≡ false → CertainColors mode k s x (colors_over mode k s x 7)
unfolding rule_f3
full_certain mode k s x forced eight there y q =
    all_colors mode k s y q.all
    ∙ ap (λ (v : Rgba8). record { red = v.r; green = v.g; blue = v.b })
    (alone_blend_same mode k s.color s.shade_alpha s.count (color_marked x.mark)
    (memory_of (color_marked y.mark) y) (memory_of (color_marked x.mark) x) y.coverage 7 there (memory_too y x q.knows)
    (full_alone mode s.color.a s.count y.coverage forced eight) (full_alone mode s.color.a s.count 7 forced eight))

-- and where P is the memory's colour and that is not known, it is not: its red may be 0 or 255
module _ (mode : RenderMode) (k : Combiner) (s : Source) (x : Pixel)
    (forced : mode.force_blend ≡ false) (eight : s.count ≡ 8) (low : or_zero (coverage_at x) ≤ 7)
    (gone : missing (mux_of mode.blender_mux).p (color_marked x.mark) ≡ true) where
  abbrev with_red : ℕ → Pixel
  with_red r = record { red = r; green = 0; blue = 0; coverage = or_zero (coverage_at x); mark = 3 }

  no-color : color_marked x.mark ≡ false
  no-color = not-true (color_marked x.mark) (and_parts (eqb (mux_of mode.blender_mux).p 1) (not (color_marked x.mark)) gone).1

  red_completes : (r : ℕ) → Completes (with_red r) x
  red_completes r =
      record {
        knows =
            record {
              mark1 = λ t. refl;
              red = λ t. absurd (false≢true (sym no-color ∙ t));
              green = λ t. absurd (false≢true (sym no-color ∙ t));
              blue = λ t. absurd (false≢true (sym no-color ∙ t));
              mark2 = λ t. refl;
              coverage = λ t. λ i. or_zero (cond (t i) (Some x.coverage) None);
            };
        all = record { mark1 = refl; mark2 = refl };
        low = low;
      }

  -- its red byte is then the memory's
  red_stays : (r : ℕ) → (colors_after mode k s (with_red r)).red ≡ byte_of (unit r)
  unfolding rule_f3 memory_of
  red_stays r =
      let y = with_red r in
      ap (λ (c : Colors). c.red) (all_colors mode k s y (red_completes r).all)
      ∙ alone_blend_memory mode k s.color s.shade_alpha s.count (memory_of true y) y.coverage
      (eqb-true (mux_of mode.blender_mux).p 1 (and_parts (eqb (mux_of mode.blender_mux).p 1) (not (color_marked x.mark)) gone).0)
      (full_alone mode s.color.a s.count y.coverage forced eight)

  pub full_uncertain : (v : Colors) → CertainColors mode k s x v → ⊥
  unfolding div of_int mul lt
  full_uncertain v certain =
      let at : (r : ℕ) → v.red ≡ byte_of (unit r) = λ r. sym (ap (λ (c : Colors). c.red) (certain (with_red r) (red_completes r))) ∙ red_stays r in
      let none : byte_of (unit 0) ≡ 0 = refl in
      let full : byte_of (unit 255) ≡ 255 = refl in
      let same : ◌≡◌ {A = ℕ} 0 255 = sym none ∙ sym (at 0) ∙ at 255 ∙ full in
      omega arith

-- F2's doubt of such a pixel gives it up, whether F1 says yes or no
module _ (mode : RenderMode) (k : Combiner) (s : Source) (x : Pixel) (doubt : rule_f2 mode s (coverage_at x) ≡ true) where
  left_unknown : known_after mode s x ≡ false
  unfolding known_after
  left_unknown = (λ i. rule_f1 mode s (coverage_at x) (color_marked x.mark) && not (doubt i)) ∙ and-false (rule_f1 mode s (coverage_at x) (color_marked x.mark))

  not_forced : mode.force_blend ≡ false
  unfolding rule_f2
  not_forced = go (unknown (coverage_at x)) mode.antialias mode.force_blend (reject mode s.color.a) doubt
    where
      go : (u a f r : Bool) → (u && a && not f && not r) ≡ true → f ≡ false
      go u a false r t = refl
      go true true true r t = absurd (false≢true t)
      go true false true r t = absurd (false≢true t)
      go false a true r t = absurd (false≢true t)

  pub full_given_up :
      s.count ≡ 8 → missing (mux_of mode.blender_mux).p (color_marked x.mark) ≡ false
      → (known_after mode s x ≡ false) × CertainColors mode k s x (colors_over mode k s x 7)
  full_given_up eight there = (left_unknown, full_certain mode k s x not_forced eight there)
