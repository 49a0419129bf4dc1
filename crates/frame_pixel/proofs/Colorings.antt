-- What is known ahead of a pixel is what the rules give: an opaque pixel is answered yes, is not in doubt, and stores its own colour; a layered one is answered yes where the
-- memory's colour is known, is never in doubt, and stores the sum; one that is blended is as `color_known` and `blend` together say; and a pixel whose A is not the shade's alpha does not turn on that. Assumes nothing.
use Prim.Native.Nat.{ℕ}
use mathlib.Core.Path.{◌≡◌, refl, sym, ◌∙◌}
use mathlib.Core.Bool.{Bool, true, false, cond, not, ◌&&◌}
use lib.Dec.{eqb}
use lib.Ieee.{Float}
use Rattle.state.specs.declared.RenderMode.{RenderMode}
use Rattle.state.specs.declared.Rgba.{Rgba}
use Rattle.combiner.specs.declared.Combiner.{Combiner}
use Rattle.blender.specs.declared.Source.{Source}
use Rattle.std.specs.Prelude.{Option, Some, None, is_some, unwrap_or, option_map}
use Rattle.blender.specs.Mux.{mux_of}
use Rattle.state.specs.declared.Rgba8.{Rgba8}
use Rattle.blender.specs.Known.{reject, color_known}
use Rattle.blender.specs.Blend.{or_zero, blend_of}
use Rattle.blender.specs.Joined.{or_zeros, joined}
use Rattle.blender.specs.Layer.{layer_of}
use Rattle.blender.proofs.Solid.{Opaque, opaque_known, alone_blend}
use Rattle.blender.proofs.Layers.{Layered, layer_known, layer_blend, unshaded_blend}
use Rattle.frame_pixel.specs.declared.Pixel.{Pixel}
use Rattle.frame_pixel.specs.declared.Colors.{Colors}
use Rattle.frame_pixel.specs.Marks.{color_marked, unknown}
use Rattle.frame_pixel.specs.Rules.{rule_f1, rule_f2, memory_of, rule_f3, rule_f4, rule_f5, coverage_at, known_after, colors_after, coverage_after, assembled, pixel_step}
use Rattle.std.proofs.Math.Bool.{and-true, and-false}
use Rattle.frame_pixel.specs.Coloring.{stored_of, own_colors, over_colors, colored_of}

-- colours that are stored where they are known
pub where_known : (known : Bool) (old : Colors) {told new : Colors} → (known ≡ true → told ≡ new) → cond known told old ≡ cond known new old
where_known true old h = h refl
where_known false old h = refl

-- ---- an opaque pixel
module _ (mode : RenderMode) (k : Combiner) (s : Source) (x : Pixel) (o : Opaque mode s.color.a) where
  pub opaque_yes : known_after mode s x ≡ true
  unfolding known_after rule_f1 rule_f2
  opaque_yes =
      let c = coverage_at x in
      let q = doubt (unknown c) mode.antialias (not mode.force_blend) (not (reject mode s.color.a)) o.sure in
      λ i. opaque_known o s.count c (color_marked x.mark) i && not (q i)
    where
      doubt : (u a f r : Bool) → (a && f && r) ≡ false → (u && a && f && r) ≡ false
      doubt true a f r e = e
      doubt false a f r e = refl

  pub opaque_colors : colors_after mode k s x ≡ own_colors mode k s.color
  unfolding colors_after rule_f3 own_colors
  opaque_colors =
      let c = or_zero (coverage_at x) in
      let b = alone_blend mode k s.color (memory_of (color_marked x.mark) x) s.shade_alpha s.count c o.own (o.alone s.count (Some c)) in
      (λ i. cond (opaque_yes i) (rule_f3 mode k s (coverage_at x) (memory_of (color_marked x.mark) x)) (rule_f4 x))
      ∙ (λ i. record { red = b.0 i; green = b.1.0 i; blue = b.1.1 i })

-- ---- a layered pixel
module _ (mode : RenderMode) (k : Combiner) (s : Source) (x : Pixel) (o : Layered mode s.color.a) where
  pub layered_known : known_after mode s x ≡ color_marked x.mark
  unfolding known_after rule_f1 rule_f2
  layered_known =
      let c = coverage_at x in
      let marked = color_marked x.mark in
      (λ i. layer_known o s.count c marked i && not (unknown c && mode.antialias && not (o.forced i) && not (reject mode s.color.a)))
      ∙ (λ i. marked && not (no (unknown c && mode.antialias) (not (reject mode s.color.a)) i))
      ∙ and-true marked
    where
      no : (a r : Bool) → (a && false && r) ≡ false
      no true r = refl
      no false r = refl

  layer_stored : (marked : Bool) → marked ≡ true → rule_f3 mode k s (coverage_at x) (memory_of marked x) ≡ over_colors (layer_of mode k s.color) (rule_f4 x)
  unfolding rule_f3 memory_of over_colors
  layer_stored marked e =
      let b = layer_blend mode k s.color (memory_of true x) s.shade_alpha s.count (or_zero (coverage_at x)) o in
      (λ i. rule_f3 mode k s (coverage_at x) (memory_of (e i) x)) ∙ (λ i. record { red = b.0 i; green = b.1.0 i; blue = b.1.1 i })

  pub layered_colors : colors_after mode k s x ≡ cond (color_marked x.mark) (over_colors (layer_of mode k s.color) (rule_f4 x)) (rule_f4 x)
  unfolding colors_after
  layered_colors =
      (λ i. cond (layered_known i) (rule_f3 mode k s (coverage_at x) (memory_of (color_marked x.mark) x)) (rule_f4 x))
      ∙ where_known (color_marked x.mark) (rule_f4 x) (layer_stored (color_marked x.mark))

-- ---- the shade's alpha has no part in an opaque pixel, nor in one whose A is not that alpha
module _ (mode : RenderMode) (k : Combiner) (color : Rgba) (n : ℕ) (x : Pixel) where
  abbrev shaded : Float → Source
  shaded s = record { color = color; shade_alpha = s; count = n }

  pub opaque_step : (s t : Float) → Opaque mode color.a → pixel_step mode k (shaded s) x ≡ pixel_step mode k (shaded t) x
  unfolding pixel_step known_after coverage_after rule_f1 rule_f2
  opaque_step s t o =
      let same = opaque_colors mode k (shaded s) x o ∙ sym (opaque_colors mode k (shaded t) x o) in
      λ i. assembled (known_after mode (shaded s) x) (same i) (coverage_after mode (shaded s) x) x.coverage

  pub unshaded_step : (s t : Float) → eqb (mux_of mode.blender_mux).a 2 ≡ false → pixel_step mode k (shaded s) x ≡ pixel_step mode k (shaded t) x
  unfolding pixel_step known_after colors_after coverage_after rule_f1 rule_f2 rule_f3
  unshaded_step s t e =
      let bytes = unshaded_blend mode k color (memory_of (color_marked x.mark) x) s t n (or_zero (coverage_at x)) e in
      λ i.
      assembled (known_after mode (shaded s) x)
      (cond (known_after mode (shaded s) x) (record { red = (bytes i).r; green = (bytes i).g; blue = (bytes i).b }) (rule_f4 x))
      (coverage_after mode (shaded s) x) x.coverage

-- ---- the colours after a pixel, if they are then known
some_where : (b : Bool) (told old : Colors) → cond b (Some told) None ≡ cond b (Some (cond b told old)) None
some_where true told old = refl
some_where false told old = refl

module _ (mode : RenderMode) (k : Combiner) (s : Source) (x : Pixel) where
  -- put together with what stood there they are a step of the rules
  pub colored_step :
      {color : Option Colors} → color ≡ colored_of mode k s x
      → assembled (is_some color) (unwrap_or color (rule_f4 x)) (rule_f5 mode s.count (coverage_at x)) x.coverage ≡ pixel_step mode k s x
  unfolding pixel_step colors_after coverage_after
  colored_step e = rw e (go (known_after mode s x))
    where
      told : Colors
      told = rule_f3 mode k s (coverage_at x) (memory_of (color_marked x.mark) x)

      go :
          (b : Bool)
          → (let color = cond b (Some (cond b told (rule_f4 x))) None in
          assembled (is_some color) (unwrap_or color (rule_f4 x)) (rule_f5 mode s.count (coverage_at x)) x.coverage)
          ≡ assembled b (cond b told (rule_f4 x)) (rule_f5 mode s.count (coverage_at x)) x.coverage
      go true = refl
      go false = refl

  -- an opaque pixel, and one that is layered
  pub opaque_colored : Opaque mode s.color.a → Some (own_colors mode k s.color) ≡ colored_of mode k s x
  opaque_colored o = λ i. cond (sym (opaque_yes mode k s x o) i) (Some (sym (opaque_colors mode k s x o) i)) None

  pub layered_colored : Layered mode s.color.a → cond (color_marked x.mark) (Some (over_colors (layer_of mode k s.color) (rule_f4 x))) None ≡ colored_of mode k s x
  layered_colored o =
      some_where (color_marked x.mark) (over_colors (layer_of mode k s.color) (rule_f4 x)) (rule_f4 x)
      ∙ (λ i. cond (sym (layered_known mode k s x o) i) (Some (sym (layered_colors mode k s x o) i)) None)

  -- one that is blended: not known after it, or the bytes of `blend`
  no_colored : known_after mode s x ≡ false → None ≡ colored_of mode k s x
  no_colored h = λ i. cond (sym h i) (Some (colors_after mode k s x)) None

  pub in_doubt : rule_f2 mode s (coverage_at x) ≡ true → None ≡ colored_of mode k s x
  unfolding known_after
  in_doubt h = no_colored ((λ i. rule_f1 mode s (coverage_at x) (color_marked x.mark) && not (h i)) ∙ and-false (rule_f1 mode s (coverage_at x) (color_marked x.mark)))

  pub not_known : rule_f1 mode s (coverage_at x) (color_marked x.mark) ≡ false → None ≡ colored_of mode k s x
  unfolding known_after
  not_known h = no_colored (λ i. h i && not (rule_f2 mode s (coverage_at x)))

  pub was_known :
      rule_f1 mode s (coverage_at x) (color_marked x.mark) ≡ true → rule_f2 mode s (coverage_at x) ≡ false
      → Some (rule_f3 mode k s (coverage_at x) (memory_of (color_marked x.mark) x)) ≡ colored_of mode k s x
  unfolding known_after colors_after
  was_known h e =
      λ i.
      let known = sym h i && not (sym e i) in
      cond known (Some (cond known (rule_f3 mode k s (coverage_at x) (memory_of (color_marked x.mark) x)) (rule_f4 x))) None

  -- as `color_known` and `blend` together say, where it is not in doubt
  pub joined_colored :
      (m : Option Rgba) → rule_f2 mode s (coverage_at x) ≡ false → is_some m ≡ color_marked x.mark → or_zeros m ≡ memory_of (color_marked x.mark) x
      → option_map stored_of (joined mode k s (coverage_at x) m) ≡ colored_of mode k s x
  unfolding joined known_after colors_after rule_f1 rule_f3
  joined_colored m sure known color =
      go (color_known mode s.color.a s.count (coverage_at x) (is_some m))
      ∙ (λ i. cond (asked i) (Some (told i)) None)
      ∙ some_where (known_after mode s x) (rule_f3 mode k s (coverage_at x) (memory_of (color_marked x.mark) x)) (rule_f4 x)
    where
      bytes : Rgba8
      bytes = blend_of mode k s.color (or_zeros m) s.shade_alpha s.count (or_zero (coverage_at x))

      go : (b : Bool) → option_map stored_of (cond b (Some bytes) None) ≡ cond b (Some (stored_of bytes)) None
      go true = refl
      go false = refl

      asked : color_known mode s.color.a s.count (coverage_at x) (is_some m) ≡ known_after mode s x
      asked =
          sym (and-true (color_known mode s.color.a s.count (coverage_at x) (is_some m)))
          ∙ (λ i. color_known mode s.color.a s.count (coverage_at x) (known i) && not (sym sure i))

      told : stored_of bytes ≡ rule_f3 mode k s (coverage_at x) (memory_of (color_marked x.mark) x)
      told = λ i. stored_of (blend_of mode k s.color (color i) s.shade_alpha s.count (or_zero (coverage_at x)))
