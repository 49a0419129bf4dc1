-- Pixels of one colour. One that is layered has a known colour wherever the memory has, by sums of what `layer_of` worked out; one that is steady stands
-- alone where the samples overflow. Neither turns on the shade's alpha. Assumes nothing.
use mathlib.Core.Path.{◌≡◌, refl, sym, ◌∙◌}
use Prim.Native.Nat.{ℕ}
use mathlib.Core.Bool.{Bool, true, false, cond, not, ◌&&◌, ◌||◌}
use borrow.Author.Tests.{eqb-true, not-true}
use lib.Dec.{eqb}
use lib.IntN.{pos}
use lib.Ieee.{Float, binary32, of_int, add, sub, mul, div}
use Rattle.num_float.specs.Color.{f0, f1}
use Rattle.num_float.specs.Whole.{byte_of}
use Rattle.state.specs.declared.RenderMode.{RenderMode}
use Rattle.state.specs.declared.Rgba.{Rgba}
use Rattle.combiner.specs.declared.Combiner.{Combiner}
use Rattle.blender.specs.Coverage.{Coverage}
use Rattle.std.specs.Prelude.{None, Some}
use Rattle.blender.specs.Mux.{mux_of}
use Rattle.blender.specs.Coverage.{overflows, blends}
use Rattle.blender.specs.Known.{reject, alone, missing, any_coverage, where_unknown, color_known}
use Rattle.blender.specs.Layer.{opaque_of, own_of, layered_of, steady_of, layer_of}
use Rattle.blender.specs.Blend.{f8, source_of, factor_a, factor_b, mixed_of, bytes_of, blend_of}
use Rattle.std.proofs.lemmas.Bool.{false≢true, and_parts}
use Rattle.blender.proofs.Solid.{own_source}
use Rattle.blender.proofs.Knows.{full_alone}

-- ---- the shade's alpha
unshaded : (k : ℕ) (alpha fog s t : Float) → eqb k 2 ≡ false → factor_a k alpha fog s ≡ factor_a k alpha fog t
unshaded k alpha fog s t e =
    (λ i. cond (eqb k 0) alpha (cond (eqb k 1) fog (cond (e i) s f0))) ∙ sym (λ i. cond (eqb k 0) alpha (cond (eqb k 1) fog (cond (e i) t f0)))

-- a blend whose A is another does not turn on it
pub unshaded_blend :
    (mode : RenderMode) (k : Combiner) (rgba memory : Rgba) (s t : Float) (n c : ℕ) → eqb (mux_of mode.blender_mux).a 2 ≡ false
    → blend_of mode k rgba memory s n c ≡ blend_of mode k rgba memory t n c
unfolding blend_of
unshaded_blend mode k rgba memory s t n c e =
    let x = mux_of mode.blender_mux in
    let a = unshaded x.a rgba.a k.fog.a s t e in
    λ i.
    bytes_of (alone mode rgba.a n (Some c)) mode.force_blend (source_of x.p k rgba memory) (a i) (source_of x.m k rgba memory) (factor_b x.b (a i) c) rgba.a

-- ---- what is said of a pixel that is layered
pub record Layered (mode : RenderMode) (alpha : Float) : Type 0 where
  pub forced : mode.force_blend ≡ true
  pub own : eqb (mux_of mode.blender_mux).p 1 ≡ false
  pub memory : eqb (mux_of mode.blender_mux).m 1 ≡ true
  pub shade : eqb (mux_of mode.blender_mux).a 2 ≡ false
  pub coverage : eqb (mux_of mode.blender_mux).b 1 ≡ false
  pub shared : reject mode alpha ≡ false

pub layered : (mode : RenderMode) (alpha : Float) → layered_of mode alpha ≡ true → Layered mode alpha
unfolding layered_of
layered mode alpha h =
    let x = mux_of mode.blender_mux in
    let f = mode.force_blend in
    let p = not (eqb x.p 1) in
    let m = eqb x.m 1 in
    let a = not (eqb x.a 2) in
    let b = not (eqb x.b 1) in
    let r = not (reject mode alpha) in
    let h5 = (and_parts (f && p && m && a && b) r h).0 in
    let h4 = (and_parts (f && p && m && a) b h5).0 in
    let h3 = (and_parts (f && p && m) a h4).0 in
    let h2 = (and_parts (f && p) m h3).0 in
    record {
      forced = (and_parts f p h2).0;
      own = not-true (eqb x.p 1) (and_parts f p h2).1;
      memory = (and_parts (f && p) m h3).1;
      shade = not-true (eqb x.a 2) (and_parts (f && p && m) a h4).1;
      coverage = not-true (eqb x.b 1) (and_parts (f && p && m && a) b h5).1;
      shared = not-true (reject mode alpha) (and_parts (f && p && m && a && b) r h).1;
    }

module _ {mode : RenderMode} {alpha : Float} (o : Layered mode alpha) where
  layer_blends : (n : ℕ) (c : Coverage) → alone mode alpha n c ≡ false
  unfolding alone blends
  layer_blends n c = λ i. not (o.forced i || (mode.antialias && not (overflows n c))) || o.shared i

  -- F1 says yes where the memory's colour is known
  pub layer_known : (n : ℕ) (c : Coverage) (memory : Bool) → color_known mode alpha n c memory ≡ memory
  unfolding color_known any_coverage
  layer_known n c memory =
      let x = mux_of mode.blender_mux in
      (λ i.
      cond (o.own i && not memory) false
      (cond (layer_blends n c i) true
      (cond (o.memory i && not memory) false
      (where_unknown c (not (o.coverage i) && (o.forced i || (eqb x.p x.m && eqb x.b 0)))))))
      ∙ told c memory
    where
      told : (c : Coverage) (m : Bool) → cond (not m) false (where_unknown c true) ≡ m
      told None true = refl
      told None false = refl
      told (Some c) true = refl
      told (Some c) false = refl

-- B, where it is not the memory's coverage
uncovered : (k : ℕ) (s t : Float) (c d : ℕ) → eqb k 1 ≡ false → s ≡ t → factor_b k s c ≡ factor_b k t d
unfolding factor_b
uncovered k s t c d e h =
    let rest = cond (eqb k 2) f1 f0 in
    (λ i. cond (eqb k 0) (sub binary32 f1 (h i)) (cond (e i) (div binary32 (of_int binary32 (pos c)) f8) rest))
    ∙ sym (λ i. cond (eqb k 0) (sub binary32 f1 t) (cond (e i) (div binary32 (of_int binary32 (pos d)) f8) rest))

module _ (mode : RenderMode) (k : Combiner) (rgba memory : Rgba) (shade : Float) (n c : ℕ) (o : Layered mode rgba.a) where
  -- and its bytes are those of the sums
  pub layer_blend :
      let bytes = blend_of mode k rgba memory shade n c in
      let l = layer_of mode k rgba in
      (bytes.r ≡ byte_of (add binary32 l.r (mul binary32 memory.r l.share)))
      × ((bytes.g ≡ byte_of (add binary32 l.g (mul binary32 memory.g l.share))) × (bytes.b ≡ byte_of (add binary32 l.b (mul binary32 memory.b l.share))))
  unfolding blend_of bytes_of mixed_of own_of layer_of
  layer_blend =
      let x = mux_of mode.blender_mux in
      let a = unshaded x.a rgba.a k.fog.a shade f0 o.shade in
      let p = own_source x.p k rgba memory o.own in
      let m : source_of x.m k rgba memory ≡ memory = λ i. source_of (eqb-true x.m 1 o.memory i) k rgba memory in
      let t = layer_blends o n (Some c) in
      let b = uncovered x.b _ _ c 0 o.coverage a in (
        λ i. byte_of (mixed_of (t i) (o.forced i) (p i).r (a i) (m i).r (b i)),
        (λ i. byte_of (mixed_of (t i) (o.forced i) (p i).g (a i) (m i).g (b i)), λ i. byte_of (mixed_of (t i) (o.forced i) (p i).b (a i) (m i).b (b i))),
      )

-- ---- what is said of a mode that is steady
pub record Steady (mode : RenderMode) : Type 0 where
  pub free : mode.force_blend ≡ false
  pub own : eqb (mux_of mode.blender_mux).p 1 ≡ false
  pub shade : eqb (mux_of mode.blender_mux).a 2 ≡ false

pub steady : (mode : RenderMode) → steady_of mode ≡ true → Steady mode
unfolding steady_of
steady mode h =
    let x = mux_of mode.blender_mux in
    let f = not mode.force_blend in
    let p = not (eqb x.p 1) in
    let a = not (eqb x.a 2) in
    let h2 = (and_parts (f && p) a h).0 in
    record { free = not-true mode.force_blend (and_parts f p h2).0; own = not-true (eqb x.p 1) (and_parts f p h2).1; shade = not-true (eqb x.a 2) (and_parts (f && p) a h).1 }

module _ {mode : RenderMode} (o : Steady mode) (alpha : Float) where
  -- a full pixel stands alone over a known coverage
  pub steady_alone : (c : ℕ) → alone mode alpha 8 (Some c) ≡ true
  steady_alone c = full_alone mode alpha 8 c o.free refl

  pub steady_known : (c : ℕ) (memory : Bool) → color_known mode alpha 8 (Some c) memory ≡ true
  unfolding color_known
  steady_known c memory =
      λ i. cond (o.own i && not memory) false (cond (steady_alone c i) true (cond (missing (mux_of mode.blender_mux).m memory) false (where_unknown (Some c) (any_coverage mode))))

  -- and where it is not opaque, it is in doubt over an unknown one
  pub steady_doubt : opaque_of mode alpha ≡ false → (mode.antialias && not mode.force_blend && not (reject mode alpha)) ≡ true
  unfolding opaque_of
  steady_doubt h =
      (λ i. mode.antialias && not (o.free i) && not (reject mode alpha))
      ∙ go mode.antialias (reject mode alpha) (sym (λ i. not (o.own i) && (reject mode alpha || not (o.free i || mode.antialias))) ∙ h)
    where
      go : (a r : Bool) → (r || not a) ≡ false → (a && true && not r) ≡ true
      go true true h = absurd (false≢true (sym h))
      go true false h = refl
      go false true h = absurd (false≢true (sym h))
      go false false h = absurd (false≢true (sym h))
