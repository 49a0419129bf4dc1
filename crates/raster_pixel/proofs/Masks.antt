-- The mask of a pixel is below 256, and that of one that is emitted is not 0. Assumes nothing.
use mathlib.Core.Path.{◌≡◌, sym, ap, ◌∙◌}
use mathlib.Core.Bool.{Bool, true, false, cond, not, ◌||◌}
use Prim.Native.Nat.{ℕ, ◌-◌, ◌*◌, ◌/◌, ◌%◌, ◌^◌, ◌≤◌, ◌<◌}
use native.Mathlib.Omega.{arith}
use native.Mathlib.Decide.{dec_le}
use lib.Bits.{bit_and, and_high}
use lib.Dec.{eqb, ltb, leb}
use borrow.Author.Tests.{ltb-true, le-leb, lt-leb, eq-eqb, ne_eqb}
use Rattle.std.proofs.lemmas.Bool.{and_parts}
use Rattle.raster_edges.specs.declared.Edges.{Edges}
use Rattle.raster_edges.specs.Sample.{mask_of}
use Rattle.raster_edges.proofs.Pairs.{pair_lt}
use Rattle.raster_rectangle.specs.declared.Sides.{Sides}
use Rattle.raster_rectangle.specs.Rectangle.{sample_x, sample_y, inside_of, sample_bit, row_bits, rect_mask}
use Rattle.raster_pixel.specs.Emitted.{shown}

-- ---- every mask
pub mask_lt : (e : Edges) (x : ℕ) → mask_of e x < 256
unfolding mask_of
mask_lt e x = omega (arith, pair_lt e x 0, pair_lt e x 1, pair_lt e x 2, pair_lt e x 3)

pub rect_lt : (s : Sides) (x y : ℕ) → rect_mask s x y < 256
unfolding rect_mask row_bits sample_bit
rect_lt s x y = omega (arith, bit 0 0, bit 0 1, bit 1 0, bit 1 1, bit 2 0, bit 2 1, bit 3 0, bit 3 1)
  where
    at_most : (t : Bool) (n : ℕ) → cond t n 0 ≤ n
    at_most true n = omega arith
    at_most false n = omega arith

    bit : (sub k : ℕ) → sample_bit s x y sub k ≤ 2 ^ (7 - sub * 2 - k)
    bit sub k = at_most (inside_of s (sample_x x sub k) (sample_y y sub)) (2 ^ (7 - sub * 2 - k))

-- ---- that of a pixel that is emitted
pub shown_some : (antialias : Bool) (mask : ℕ) → shown antialias mask ≡ true → 0 < mask
shown_some antialias mask h = ltb-true 0 mask (and_parts (ltb 0 mask) (antialias || leb 128 mask) h).0

-- ---- bit 7 of a byte
pub high_bit : (m : ℕ) → m < 256 → not (eqb (bit_and m 128) 0) ≡ leb 128 m
high_bit m h = by (dec_le 128 m)
  where
    bit : bit_and m 128 ≡ m / 128 % 2 * 128
    bit = and_high m 1 7

    by : Dec (128 ≤ m) → not (eqb (bit_and m 128) 0) ≡ leb 128 m
    by (yes k) =
        let q : m / 128 ≡ 1 = omega arith in
        let b : bit_and m 128 ≡ 128 = bit ∙ ap (λ (n : ℕ). n % 2 * 128) q in
        ap not (ne_eqb (bit_and m 128) 0 (λ (e : bit_and m 128 ≡ 0). omega arith)) ∙ sym (le-leb 128 m k)
    by (no k) =
        let q : m / 128 ≡ 0 = omega arith in
        ap not (eq-eqb (bit_and m 128) 0 (bit ∙ ap (λ (n : ℕ). n % 2 * 128) q)) ∙ sym (lt-leb 128 m (omega arith))
