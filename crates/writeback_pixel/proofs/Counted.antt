-- A call by a mask of eight bits is the call by a count at the mask's number of ones: number 11 turns away both or neither, since 0 alone has no ones and no mask has
-- more than 8, and the value is the count's. So it is with every mask of as many ones, and every count from 1 to 8 is that of a mask. Assumes nothing.
use Prim.Native.Nat.{ℕ, zero, suc, ◌-◌, ◌^◌, ◌≤◌, ◌<◌}
use mathlib.Core.Path.{◌≡◌, sym, ap, ◌∙◌}
use mathlib.Core.Bool.{Bool, false, ◌&&◌}
use native.Mathlib.Omega.{arith}
use lib.Ieee.{Float}
use borrow.Author.Tests.{lt-ltb, le-leb}
use Rattle.num_bits.specs.Ones.{ones_of}
use Rattle.num_bits.proofs.Masks.{ones_range, no_ones, ones_lowest}
use Rattle.state.specs.declared.RenderMode.{RenderMode}
use Rattle.state.specs.declared.Rgba.{Rgba}
use Rattle.combiner.specs.declared.Combiner.{Combiner}
use Rattle.blender.specs.Coverage.{Coverage, destination_of}
use Rattle.blender.specs.Known.{color_known}
use Rattle.blender.specs.Blend.{blend_of}
use Rattle.writeback_pixel.specs.Refusal.{mask_ok, coverage_ok, known_ok, checked}
use Rattle.writeback_pixel.specs.Calls.{destination_call, color_known_call, no_bytes, blend_call}
use Rattle.writeback_pixel.specs.Counted.{count_ok, counted}

same_ok : (m : ℕ) → m < 256 → mask_ok m ≡ count_ok (ones_of m)
same_ok zero h = ap count_ok (sym no_ones)
same_ok (suc k) h =
    let m = suc k in
    let n = ones_range m (omega arith) h in
    lt-ltb 0 m (omega arith) ∙ sym (λ i. le-leb 1 (ones_of m) n.0 i && le-leb (ones_of m) 8 n.1 i)

-- The law, once for the three calls: whatever else a call checks, and whatever it answers at a count.
pub by_count :
    (m : ℕ) → m < 256 → {A : Type 0} (others : Bool) (value : ℕ → A) (none : A)
    → checked (mask_ok m && others) (value (ones_of m)) none ≡ counted others value none (ones_of m)
by_count m h others value none = λ i. checked (same_ok m h i && others) (value (ones_of m)) none

-- Every count from 1 to 8 can be asked: by the mask of as many of the lowest bits.
pub count_kept :
    (n : ℕ) → 1 ≤ n → n ≤ 8 → {A : Type 0} (others : Bool) (value : ℕ → A) (none : A)
    → (let m = 2 ^ n - 1 in checked (mask_ok m && others) (value (ones_of m)) none) ≡ counted others value none n
count_kept n p q others value none =
    let m = ones_lowest n p q in
    by_count (2 ^ n - 1) m.1 others value none ∙ ap (counted others value none) m.2

-- The three calls, for every mask of eight bits.
module _ (mode : RenderMode) (m : ℕ) (h : m < 256) where
  pub destination_by_count : (c : ℕ) → destination_call mode m c ≡ counted (coverage_ok c) (λ n. destination_of mode n c) 0 (ones_of m)
  unfolding destination_call
  destination_by_count c = by_count m h (coverage_ok c) (λ n. destination_of mode n c) 0

  pub color_known_by_count :
      (alpha : Float) (coverage : Coverage) (memory : Bool)
      → color_known_call mode alpha m coverage memory ≡ counted (known_ok coverage) (λ n. color_known mode alpha n coverage memory) false (ones_of m)
  unfolding color_known_call
  color_known_by_count alpha coverage memory = by_count m h (known_ok coverage) (λ n. color_known mode alpha n coverage memory) false

  pub blend_by_count :
      (combiner : Combiner) (rgba memory : Rgba) (shade : Float) (c : ℕ)
      → blend_call mode combiner rgba memory shade m c ≡ counted (coverage_ok c) (λ n. blend_of mode combiner rgba memory shade n c) no_bytes (ones_of m)
  unfolding blend_call
  blend_by_count combiner rgba memory shade c = by_count m h (coverage_ok c) (λ n. blend_of mode combiner rgba memory shade n c) no_bytes
