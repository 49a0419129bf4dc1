-- What is known of the memory, and more of it: where `color_known` says yes it says yes where more is known, and the bytes of the blend are then the same for every
-- coverage that the memory may have, as long as the pixel stands alone over both or over neither. A pixel that stands alone has P's bytes over every coverage. Assumes nothing.
use Prim.Native.Nat.{ℕ, ◌+◌}
use mathlib.Core.Path.{◌≡◌, refl, sym, ap, ◌∙◌}
use mathlib.Core.Bool.{Bool, true, false, cond, not, ◌&&◌, ◌||◌}
use native.Mathlib.Omega.{arith}
use borrow.Author.Tests.{le-leb}
use lib.Dec.{eqb}
use lib.IntN.{pos}
use lib.Ieee.{Float, binary32, of_int, sub, div}
use Rattle.std.proofs.Math.Bool.{and-false}
use Rattle.num_float.specs.Color.{f0, f1}
use Rattle.num_float.specs.Whole.{byte_of}
use Rattle.state.specs.declared.RenderMode.{RenderMode}
use Rattle.state.specs.declared.Rgba.{Rgba}
use Rattle.combiner.specs.declared.Combiner.{Combiner}
use Rattle.blender.specs.Coverage.{Coverage}
use Rattle.blender.specs.declared.Mux.{Mux}
use Rattle.std.specs.Prelude.{None, Some}
use Rattle.blender.specs.Mux.{mux_of}
use Rattle.blender.specs.Coverage.{overflow, overflows, blends}
use Rattle.blender.specs.Known.{reject, alone, missing, any_coverage, where_unknown, color_known}
use Rattle.blender.specs.Blend.{f8, source_of, factor_a, factor_b, mixed_of, bytes_of, blend_of, or_zero}
use Rattle.std.proofs.lemmas.Bool.{false≢true, not-true, and_parts}

-- ---- coverages: nothing is known of the first, or the same of both
pub data Less : Coverage → Coverage → Type 0 where
  none : {d : Coverage} → Less None d
  same : {c : ℕ} → Less (Some c) (Some c)

-- an unknown coverage is passed on as 0
pub less_zero : {c d : Coverage} → Less c d → Less c (Some (or_zero d))
less_zero Less.none = Less.none
less_zero Less.same = Less.same

-- ---- the chain of tests in `color_known`: P missing, alone, M missing, and what an unknown coverage asks
abbrev chain : Bool → Bool → Bool → Bool → Bool
chain p s m w = cond p false (cond s true (cond m false w))

chain_p : (p s m w : Bool) → chain p s m w ≡ true → p ≡ false
chain_p true s m w t = absurd (false≢true t)
chain_p false s m w t = refl

chain_m : (p s m w : Bool) → chain p s m w ≡ true → s ≡ false → m ≡ false
chain_m true s m w t e = absurd (false≢true t)
chain_m false true m w t e = absurd (false≢true (sym e))
chain_m false false true w t e = absurd (false≢true t)
chain_m false false false w t e = refl

chain_w : (p s m w : Bool) → chain p s m w ≡ true → s ≡ false → w ≡ true
chain_w true s m w t e = absurd (false≢true t)
chain_w false true m w t e = absurd (false≢true (sym e))
chain_w false false true w t e = absurd (false≢true t)
chain_w false false false w t e = t

chain_yes : (p s m w : Bool) → p ≡ false → (s ≡ false → m ≡ false) → (s ≡ false → w ≡ true) → chain p s m w ≡ true
chain_yes true s m w hp hm hw = absurd (false≢true (sym hp))
chain_yes false true m w hp hm hw = refl
chain_yes false false true w hp hm hw = absurd (false≢true (sym (hm refl)))
chain_yes false false false w hp hm hw = hw refl

-- a colour that is known is not missing, and one that is not missing is not missing where more is known
missing_less : (e a b : Bool) → (a ≡ true → b ≡ true) → (e && not a) ≡ false → (e && not b) ≡ false
missing_less false a b h t = refl
missing_less true false b h t = absurd (false≢true (sym t))
missing_less true true true h t = refl
missing_less true true false h t = absurd (false≢true (h refl))

where_less : (b : Bool) {c d : Coverage} → Less c d → where_unknown c b ≡ true → where_unknown d b ≡ true
where_less b (Less.none {d}) t = go d
  where
    go : (d : Coverage) → where_unknown d b ≡ true
    go None = t
    go (Some c) = refl
where_less b Less.same t = refl

module _ (mode : RenderMode) (alpha : Float) (n : ℕ) where
  -- a pixel that is blended over a coverage is taken to be blended where that is not known
  alone_less : {c d : Coverage} → Less c d → alone mode alpha n d ≡ false → alone mode alpha n c ≡ false
  unfolding alone blends
  alone_less (Less.none {d}) t = go mode.force_blend mode.antialias (overflows n d) (reject mode alpha) t
    where
      go : (f a o r : Bool) → (not (f || (a && not o)) || r) ≡ false → (not (f || (a && not false)) || r) ≡ false
      go true a o r t = t
      go false true true true t = absurd (false≢true (sym t))
      go false true false true t = absurd (false≢true (sym t))
      go false true o false t = refl
      go false false o r t = t
  alone_less Less.same t = t

  -- a known coverage enters only by whether the samples overflow
  pub alone_same : (i j : ℕ) → overflow n i ≡ overflow n j → alone mode alpha n (Some i) ≡ alone mode alpha n (Some j)
  unfolding alone blends
  alone_same i j e = λ k. not (mode.force_blend || (mode.antialias && not (e k))) || reject mode alpha

  -- all eight samples overflow any coverage
  pub full_alone : (c : ℕ) → mode.force_blend ≡ false → n ≡ 8 → alone mode alpha n (Some c) ≡ true
  unfolding alone blends
  full_alone c f e =
      (λ i. not (f i || (mode.antialias && not (le-leb 8 (n + c) (omega arith) i))) || reject mode alpha) ∙ go mode.antialias
    where
      go : (a : Bool) → (not (false || (a && not true)) || reject mode alpha) ≡ true
      go true = refl
      go false = refl

-- ---- what a yes says, and what follows where more is known
module _ (mode : RenderMode) (alpha : Float) (n : ℕ) (c : Coverage) (a : Bool) (told : color_known mode alpha n c a ≡ true) where
  seen :
      chain (missing (mux_of mode.blender_mux).p a) (alone mode alpha n c) (missing (mux_of mode.blender_mux).m a) (where_unknown c (any_coverage mode))
      ≡ true
  unfolding color_known
  seen = told

  p_there : missing (mux_of mode.blender_mux).p a ≡ false
  p_there = chain_p _ (alone mode alpha n c) (missing (mux_of mode.blender_mux).m a) (where_unknown c (any_coverage mode)) seen

  module _ {d : Coverage} (l : Less c d) (blended : alone mode alpha n d ≡ false) where
    m_there : missing (mux_of mode.blender_mux).m a ≡ false
    m_there =
        chain_m (missing (mux_of mode.blender_mux).p a) (alone mode alpha n c) _ (where_unknown c (any_coverage mode)) seen
        (alone_less mode alpha n l blended)

    any-coverage : where_unknown c (any_coverage mode) ≡ true
    any-coverage =
        chain_w (missing (mux_of mode.blender_mux).p a) (alone mode alpha n c) (missing (mux_of mode.blender_mux).m a) _ seen
        (alone_less mode alpha n l blended)

  -- a yes stays a yes where more is known
  pub known_more : {d : Coverage} {b : Bool} → Less c d → (a ≡ true → b ≡ true) → color_known mode alpha n d b ≡ true
  unfolding color_known
  known_more {d} {b} l h =
      let x = mux_of mode.blender_mux in
      chain_yes (missing x.p b) (alone mode alpha n d) (missing x.m b) (where_unknown d (any_coverage mode))
      (missing_less (eqb x.p 1) a b h p_there)
      (λ t. missing_less (eqb x.m 1) a b h (m_there l t))
      (λ t. where_less (any_coverage mode) l (any-coverage l t))

-- where everything is known of the memory the colour can be told
pub known_all : (mode : RenderMode) (alpha : Float) (n c : ℕ) → color_known mode alpha n (Some c) true ≡ true
unfolding color_known
known_all mode alpha n c =
    let x = mux_of mode.blender_mux in
    chain_yes (missing x.p true) (alone mode alpha n (Some c)) (missing x.m true) true (and-false (eqb x.p 1)) (λ t. and-false (eqb x.m 1)) (λ t. refl)

-- ---- the bytes of a blend: of a pixel that stands alone they are P's
same_bytes :
    (forced : Bool) (a alpha : Float) (stands : Bool) {p q m n : Rgba} {b c : Float} → p ≡ q → (stands ≡ false → m ≡ n) → (stands ≡ false → b ≡ c)
    → bytes_of stands forced p a m b alpha ≡ bytes_of stands forced q a n c alpha
unfolding bytes_of mixed_of
same_bytes forced a alpha true {m = m} {b = b} hp hm hb = ap (λ (p : Rgba). bytes_of true forced p a m b alpha) hp
same_bytes forced a alpha false hp hm hb = λ j. bytes_of false forced (hp j) a (hm refl j) (hb refl j) alpha

-- P or M, where it is not the memory's colour or that is known
same_source :
    (i : ℕ) (k : Combiner) (color : Rgba) (a : Bool) {memory memory' : Rgba} → (a ≡ true → memory ≡ memory') → missing i a ≡ false
    → source_of i k color memory ≡ source_of i k color memory'
same_source i k color a {memory} {memory'} h t = go (eqb i 1) a t h
  where
    go :
        (e v : Bool) → (e && not v) ≡ false → (v ≡ true → memory ≡ memory')
        → cond (eqb i 0) color (cond e memory (cond (eqb i 2) k.blend k.fog)) ≡ cond (eqb i 0) color (cond e memory' (cond (eqb i 2) k.blend k.fog))
    go false v t g = refl
    go true true t g = λ j. cond (eqb i 0) color (g refl j)
    go true false t g = absurd (false≢true (sym t))

-- B, for two coverages that the memory may have
same_share :
    (mode : RenderMode) (e : Float) {c : Coverage} {i j : ℕ} → Less c (Some i) → Less c (Some j) → where_unknown c (any_coverage mode) ≡ true
    → factor_b (mux_of mode.blender_mux).b e i ≡ factor_b (mux_of mode.blender_mux).b e j
unfolding any_coverage factor_b
same_share mode e Less.same Less.same t = refl
same_share mode e {i = i} {j = j} Less.none Less.none t =
    let n = not-true (eqb (mux_of mode.blender_mux).b 1) (and_parts _ _ t).0 in
    (λ k. cond (eqb b 0) (sub binary32 f1 e) (cond (n k) (eighths i) rest)) ∙ sym (λ k. cond (eqb b 0) (sub binary32 f1 e) (cond (n k) (eighths j) rest))
  where
    b : ℕ
    b = (mux_of mode.blender_mux).b

    rest : Float
    rest = cond (eqb b 2) f1 f0

    eighths : ℕ → Float
    eighths n = div binary32 (of_int binary32 (pos n)) f8

-- where the colour is known, a blend gives the same bytes for two coverages that the memory may have, if it stands alone over both or over neither
pub blend_same :
    (mode : RenderMode) (k : Combiner) (color : Rgba) (shade : Float) (n : ℕ) (c : Coverage) (a : Bool) (memory memory' : Rgba) (i j : ℕ)
    → color_known mode color.a n c a ≡ true → (a ≡ true → memory ≡ memory') → Less c (Some i) → Less c (Some j)
    → alone mode color.a n (Some i) ≡ alone mode color.a n (Some j)
    → blend_of mode k color memory shade n i ≡ blend_of mode k color memory' shade n j
unfolding blend_of
blend_same mode k color shade n c a memory memory' i j told h li lj stands =
    rw (sym stands)
    (same_bytes mode.force_blend e color.a (alone mode color.a n (Some i))
    (same_source x.p k color a h (p_there mode color.a n c a told))
    (λ t. same_source x.m k color a h (m_there mode color.a n c a told li t))
    (λ t. same_share mode e li lj (any-coverage mode color.a n c a told li t)))
  where
    x : Mux
    x = mux_of mode.blender_mux

    e : Float
    e = factor_a x.a color.a k.fog.a shade

-- a pixel that stands alone over both has P's bytes over both
pub alone_blend_same :
    (mode : RenderMode) (k : Combiner) (color : Rgba) (shade : Float) (n : ℕ) (a : Bool) (memory memory' : Rgba) (i j : ℕ)
    → missing (mux_of mode.blender_mux).p a ≡ false → (a ≡ true → memory ≡ memory')
    → alone mode color.a n (Some i) ≡ true → alone mode color.a n (Some j) ≡ true
    → blend_of mode k color memory shade n i ≡ blend_of mode k color memory' shade n j
unfolding blend_of
alone_blend_same mode k color shade n a memory memory' i j there h here too =
    rw (here, too)
    (same_bytes mode.force_blend (factor_a x.a color.a k.fog.a shade) color.a true (same_source x.p k color a h there) (λ t. absurd (false≢true (sym t))) (λ t. absurd (false≢true (sym t))))
  where
    x : Mux
    x = mux_of mode.blender_mux

-- and where P is the memory's colour, they are that colour's
pub alone_blend_memory :
    (mode : RenderMode) (k : Combiner) (color : Rgba) (shade : Float) (n : ℕ) (memory : Rgba) (i : ℕ)
    → (mux_of mode.blender_mux).p ≡ 1 → alone mode color.a n (Some i) ≡ true → (blend_of mode k color memory shade n i).r ≡ byte_of memory.r
unfolding blend_of bytes_of mixed_of
alone_blend_memory mode k color shade n memory i e stands =
    let x = mux_of mode.blender_mux in
    let a = factor_a x.a color.a k.fog.a shade in
    λ t. byte_of (mixed_of (stands t) mode.force_blend (source_of (e t) k color memory).r a (source_of x.m k color memory).r (factor_b x.b a i))
