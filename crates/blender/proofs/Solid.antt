-- An opaque pixel: its colour is known whatever is known of the memory, and is P in bytes. Assumes nothing.
use mathlib.Core.Path.{◌≡◌, refl, sym, ap, ◌∙◌}
use Prim.Native.Nat.{ℕ}
use mathlib.Core.Bool.{Bool, true, false, cond, not, ◌&&◌, ◌||◌}
use lib.Dec.{eqb}
use lib.Ieee.{Float}
use Rattle.num_float.specs.Whole.{byte_of}
use Rattle.state.specs.declared.RenderMode.{RenderMode}
use Rattle.state.specs.declared.Rgba.{Rgba}
use Rattle.combiner.specs.declared.Combiner.{Combiner}
use Rattle.blender.specs.Coverage.{Coverage}
use Rattle.std.specs.Prelude.{Some}
use Rattle.blender.specs.Mux.{mux_of}
use Rattle.blender.specs.Coverage.{overflows, blends}
use Rattle.blender.specs.Known.{reject, alone, missing, any_coverage, where_unknown, color_known}
use Rattle.blender.specs.Layer.{opaque_of, own_of}
use Rattle.blender.specs.Blend.{source_of, factor_a, factor_b, mixed_of, bytes_of, blend_of}
use Rattle.std.proofs.lemmas.Bool.{false≢true}
use Rattle.std.proofs.Math.Bool.{and-false, or-true}

-- what is said of a pixel that is opaque
pub record Opaque (mode : RenderMode) (alpha : Float) : Type 0 where
  pub own : eqb (mux_of mode.blender_mux).p 1 ≡ false
  pub alone : (n : ℕ) (c : Coverage) → alone mode alpha n c ≡ true
  pub sure : (mode.antialias && not mode.force_blend && not (reject mode alpha)) ≡ false

module _ (mode : RenderMode) (alpha : Float) where
  pub opaque : opaque_of mode alpha ≡ true → Opaque mode alpha
  unfolding opaque_of alone blends
  opaque h = go (eqb (mux_of mode.blender_mux).p 1) (reject mode alpha) mode.force_blend mode.antialias refl refl refl refl h
    where
      go :
          (p r f a : Bool) → eqb (mux_of mode.blender_mux).p 1 ≡ p → reject mode alpha ≡ r → mode.force_blend ≡ f → mode.antialias ≡ a
          → (not p && (r || not (f || a))) ≡ true → Opaque mode alpha
      go true r f a ep er ef ea h = absurd (false≢true h)
      go false true f a ep er ef ea h =
          record {
            own = ep;
            alone = λ n c. ap (λ (t : Bool). not (blends mode n c) || t) er ∙ or-true (not (blends mode n c));
            sure = ap (λ (t : Bool). mode.antialias && not mode.force_blend && not t) er ∙ and-false (mode.antialias && not mode.force_blend);
          }
      go false false true a ep er ef ea h = absurd (false≢true h)
      go false false false true ep er ef ea h = absurd (false≢true h)
      go false false false false ep er ef ea h =
          record {
            own = ep;
            alone = λ n c. λ i. not (ef i || (ea i && not (overflows n c))) || reject mode alpha;
            sure = λ i. ea i && not mode.force_blend && not (reject mode alpha);
          }

module _ {mode : RenderMode} {alpha : Float} (o : Opaque mode alpha) where
  -- F1 says yes
  pub opaque_known : (n : ℕ) (c : Coverage) (memory : Bool) → color_known mode alpha n c memory ≡ true
  unfolding color_known
  opaque_known n c memory =
      λ i. cond (o.own i && not memory) false (cond (o.alone n c i) true (cond (missing (mux_of mode.blender_mux).m memory) false (where_unknown c (any_coverage mode))))

-- P does not turn on the memory's colour
pub own_source : (k : ℕ) (combiner : Combiner) (rgba memory : Rgba) → eqb k 1 ≡ false → source_of k combiner rgba memory ≡ source_of k combiner rgba rgba
own_source k combiner rgba memory e =
    let rest = cond (eqb k 2) combiner.blend combiner.fog in
    (λ i. cond (eqb k 0) rgba (cond (e i) memory rest)) ∙ sym (λ i. cond (eqb k 0) rgba (cond (e i) rgba rest))

module _
    (mode : RenderMode) (combiner : Combiner) (rgba memory : Rgba) (shade : Float) (n c : ℕ)
    (own : eqb (mux_of mode.blender_mux).p 1 ≡ false)
    (alone : alone mode rgba.a n (Some c) ≡ true) where
  -- and the bytes of a pixel that stands alone are P's
  pub alone_blend :
      let bytes = blend_of mode combiner rgba memory shade n c in
      let p = own_of mode combiner rgba in
      (bytes.r ≡ byte_of p.r) × ((bytes.g ≡ byte_of p.g) × (bytes.b ≡ byte_of p.b))
  unfolding blend_of bytes_of mixed_of own_of
  alone_blend =
      let x = mux_of mode.blender_mux in
      let a = factor_a x.a rgba.a combiner.fog.a shade in
      let m = source_of x.m combiner rgba memory in
      let b = factor_b x.b a c in
      let f = mode.force_blend in
      let p = own_source x.p combiner rgba memory own in (
        λ i. byte_of (mixed_of (alone i) f (p i).r a m.r b),
        (λ i. byte_of (mixed_of (alone i) f (p i).g a m.g b), λ i. byte_of (mixed_of (alone i) f (p i).b a m.b b)),
      )
