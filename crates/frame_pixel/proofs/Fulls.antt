-- The one law of full pixels: what is worked out ahead for them (`full_step`) is a step of the rules. Assumes nothing.
use Prim.Native.Nat.{ℕ, ◌+◌, ◌-◌, ◌%◌, ◌≤◌, min}
use native.Mathlib.Omega.{arith}
use mathlib.Core.Path.{◌≡◌, refl, sym, ap, ◌∙◌}
use mathlib.Core.Bool.{Bool, true, false, cond, not, ◌&&◌, ◌||◌}
use borrow.Author.Tests.{ne_eqb, eqb-true}
use lib.Dec.{eqb}
use Rattle.state.specs.declared.RenderMode.{RenderMode}
use Rattle.state.specs.declared.Rgba.{Rgba}
use Rattle.combiner.specs.declared.Combiner.{Combiner}
use Rattle.blender.specs.Coverage.{Coverage}
use Rattle.std.specs.Prelude.{None, Some}
use Rattle.blender.specs.declared.Source.{Source}
use Rattle.blender.specs.Coverage.{blends, clamp_of, destination_of}
use Rattle.blender.specs.Known.{alone, color_known}
use Rattle.blender.specs.Blend.{or_zero}
use Rattle.blender.specs.Layer.{steady_of, opaque_of}
use Rattle.blender.proofs.Solid.{opaque, alone_blend}
use Rattle.blender.proofs.Layers.{layered, Steady, steady, steady_alone, steady_known, steady_doubt}
use Rattle.frame_pixel.specs.declared.Pixel.{Pixel}
use Rattle.frame_pixel.specs.declared.Colors.{Colors}
use Rattle.frame_pixel.specs.declared.full.Full.{Full}
use Rattle.frame_pixel.specs.Marks.{color_marked, coverage_marked}
use Rattle.frame_pixel.specs.Rules.{rule_f1, rule_f2, memory_of, rule_f3, rule_f4, fresh_coverage, rule_f5, coverage_at, known_after, colors_after, coverage_after, assembled, pixel_step}
use Rattle.frame_pixel.specs.Coloring.{own_colors, over_colors}
use Rattle.frame_pixel.specs.Full.{is_full, FullOf, Enough, full_coverage, full_with, full_step}
use Rattle.std.proofs.lemmas.Bool.{false≢true}
use Rattle.std.proofs.Math.Bool.{and-false}
use Rattle.frame_pixel.proofs.Asked.{fresh_known}
use Rattle.frame_pixel.proofs.Eight.{fresh_unknown}
use Rattle.frame_pixel.proofs.Colorings.{where_known, opaque_yes, opaque_colors, layered_known, layered_colors}

-- ---- F5 with all eight samples, by what it makes of a coverage that is not known

-- whether it makes a coverage 7
abbrev fills_of : RenderMode → Bool
fills_of mode = eqb mode.cvg_dst 0 || eqb mode.cvg_dst 2

picked :
    (zero one two fills : Bool) (c d : ℕ) → d ≡ 7 → (zero || two) ≡ fills → (zero ≡ true → two ≡ false) → (one ≡ true → (zero || two) ≡ false)
    → cond zero d (cond one c (cond two 7 c)) ≡ cond fills 7 c
picked true one two fills c d e h p q = e ∙ (λ i. cond (h i) 7 c)
picked false true true fills c d e h p q = absurd (false≢true (sym (q refl)))
picked false true false fills c d e h p q = λ i. cond (h i) 7 c
picked false false true fills c d e h p q = λ i. cond (h i) 7 c
picked false false false fills c d e h p q = λ i. cond (h i) 7 c

-- at most one of two tests of a number holds
apart : (n a b : ℕ) → (a ≡ b → ⊥) → eqb n a ≡ true → eqb n b ≡ false
apart n a b d h = ne_eqb n b (λ e. d (sym (eqb-true n a h) ∙ e))

full-known : (mode : RenderMode) (c : ℕ) → c ≤ 7 → destination_of mode 8 c ≡ cond (fills_of mode) 7 c
unfolding destination_of clamp_of
full-known mode c h =
    let n = mode.cvg_dst in
    let wrap : (8 + c) % 8 ≡ c = omega arith in
    (λ i. cond (eqb n 0) (clamp_of (blends mode 8 (Some c)) 8 c) (cond (eqb n 1) (wrap i) (cond (eqb n 2) 7 c)))
    ∙ picked (eqb n 0) (eqb n 1) (eqb n 2) (fills_of mode) c _ (clamped (blends mode 8 (Some c))) refl (apart n 0 2 (λ e. omega arith))
    (λ e. λ i. apart n 1 0 (λ e. omega arith) e i || apart n 1 2 (λ e. omega arith) e i)
  where
    clamped : (b : Bool) → cond b (min (8 + c) 7) (8 - 1) ≡ 7
    clamped true = omega arith
    clamped false = refl

full_fresh : (mode : RenderMode) → fresh_coverage mode 8 ≡ cond (fills_of mode) (Some 7) None
full_fresh mode = go (fills_of mode) (full-known mode)
  where
    go : (b : Bool) → ((c : ℕ) → c ≤ 7 → destination_of mode 8 c ≡ cond b 7 c) → fresh_coverage mode 8 ≡ cond b (Some 7) None
    go true h = fresh_known mode 8 7 h
    go false h = fresh_unknown mode 8 (λ e. let same : ◌≡◌ {A = ℕ} 7 0 = sym (h 7 (omega arith)) ∙ e ∙ h 0 (omega arith) in omega arith)

fills_asked : (mode : RenderMode) → is_full (rule_f5 mode 8 None) ≡ fills_of mode
unfolding rule_f5
fills_asked mode = ap is_full (full_fresh mode) ∙ go (fills_of mode)
  where
    go : (b : Bool) → is_full (cond b (Some 7) None) ≡ b
    go true = refl
    go false = refl

full_rule : (mode : RenderMode) (c : Coverage) → or_zero c ≤ 7 → full_coverage (is_full (rule_f5 mode 8 None)) c ≡ rule_f5 mode 8 c
unfolding rule_f5
full_rule mode None h = (λ i. cond (fills_asked mode i) (Some 7) None) ∙ sym (full_fresh mode)
full_rule mode (Some c) h = (λ i. cond (fills_asked mode i) (Some 7) (Some c)) ∙ go (fills_of mode) ∙ ap Some (sym (full-known mode c h))
  where
    go : (b : Bool) → cond b (Some 7) (Some c) ≡ Some (cond b 7 c)
    go true = refl
    go false = refl

-- ---- a pixel with all samples
module _ (mode : RenderMode) (k : Combiner) (s : Source) (x : Pixel) (n : s.count ≡ 8) where
  -- one that is steady and not opaque: its own colour where the coverage is known, and in doubt where it is not
  module _ (o : Steady mode) (h : opaque_of mode s.color.a ≡ false) where
    steady_verdict :
        (m marked : Bool) (c : ℕ)
        → (rule_f1 mode s (cond m (Some c) None) marked && not (rule_f2 mode s (cond m (Some c) None))) ≡ m
    unfolding rule_f1 rule_f2
    steady_verdict true marked c = λ i. ((λ j. color_known mode s.color.a (n j) (Some c) marked) ∙ steady_known o s.color.a c marked) i && true
    steady_verdict false marked c =
        (λ i. color_known mode s.color.a s.count None marked && not (steady_doubt o s.color.a h i)) ∙ and-false (color_known mode s.color.a s.count None marked)

    steady_yes : known_after mode s x ≡ coverage_marked x.mark
    unfolding known_after
    steady_yes = steady_verdict (coverage_marked x.mark) (color_marked x.mark) x.coverage

    steady_stored : (m : Bool) (c : ℕ) (memory : Rgba) → m ≡ true → rule_f3 mode k s (cond m (Some c) None) memory ≡ own_colors mode k s.color
    unfolding rule_f3 own_colors
    steady_stored true c memory e =
        let alone = (λ i. alone mode s.color.a (n i) (Some c)) ∙ steady_alone o s.color.a c in
        let b = alone_blend mode k s.color memory s.shade_alpha s.count c o.own alone in
        λ i. record { red = b.0 i; green = b.1.0 i; blue = b.1.1 i }
    steady_stored false c memory e = absurd (false≢true e)

    steady_colors : colors_after mode k s x ≡ cond (coverage_marked x.mark) (own_colors mode k s.color) (rule_f4 x)
    unfolding colors_after
    steady_colors =
        (λ i. cond (steady_yes i) (rule_f3 mode k s (coverage_at x) (memory_of (color_marked x.mark) x)) (rule_f4 x))
        ∙ where_known (coverage_marked x.mark) (rule_f4 x) (steady_stored (coverage_marked x.mark) x.coverage (memory_of (color_marked x.mark) x))

  -- whether its colour is known, and its colours
  module _ {full : Full} (f : FullOf mode k s.color full) where
    abbrev Says : Bool → Colors → Type 0
    Says known colors = (known ≡ known_after mode s x) × (cond known colors (rule_f4 x) ≡ colors_after mode k s x)

    own_says : (sure : Bool) → opaque_of mode s.color.a ≡ sure → (t : Bool) → steady_of mode ≡ t → (t || sure) ≡ true → Says (sure || coverage_marked x.mark) full.own
    own_says true e t et h = let o = opaque mode s.color.a e in (sym (opaque_yes mode k s x o), f.own ∙ sym (opaque_colors mode k s x o))
    own_says false e true et h =
        let o = steady mode et in
        (sym (steady_yes o e), (λ i. cond (coverage_marked x.mark) (f.own i) (rule_f4 x)) ∙ sym (steady_colors o e))
    own_says false e false et h = absurd (false≢true h)

    full_says : (l : Bool) → full.layered ≡ l → (l || (steady_of mode || full.sure)) ≡ true
        → Says (cond l (color_marked x.mark) (full.sure || coverage_marked x.mark)) (cond l (over_colors full.layer (rule_f4 x)) full.own)
    full_says true e h =
        let o = layered mode s.color.a (sym f.layered ∙ e) in
        (sym (layered_known mode k s x o), (λ i. cond (color_marked x.mark) (over_colors (f.layer i) (rule_f4 x)) (rule_f4 x)) ∙ sym (layered_colors mode k s x o))
    full_says false e h = own_says full.sure (sym f.sure) (steady_of mode) refl h

    pub full-step : Enough mode full → or_zero (coverage_at x) ≤ 7 → full_step full x ≡ pixel_step mode k s x
    unfolding full_step full_with pixel_step coverage_after
    full-step h low =
        let t = full_says full.layered refl h in
        let c = (λ i. full_coverage (f.fills i) (coverage_at x)) ∙ full_rule mode (coverage_at x) low ∙ (λ i. rule_f5 mode (sym n i) (coverage_at x)) in
        λ i. assembled (t.0 i) (t.1 i) (c i) x.coverage
