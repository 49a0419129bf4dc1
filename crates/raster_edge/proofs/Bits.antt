-- Shifts and masks of a signed integer's bits, as floor division on ℤ. Assumes nothing.
use Prim.Native.Nat.{ℕ, zero, suc, ◌+◌, ◌*◌, ◌/◌, ◌%◌, ◌-◌, ◌^◌, ◌≤◌, ◌<◌}
use mathlib.Core.Path.{◌≡◌, refl, sym, ap, ◌∙◌, subst}
use native.Mathlib.Nat.{div-add-mod', div-lt_iff_lt-mul, mod-lt, add-mul, mod-eq_of_lt, mul-le-mul_right, mul-le-mul_left}
use native.Mathlib.Omega.{arith}
use lib.Arith.{digits_div, digits_mod, digits_lt}
use lib.Bits.{bit_and, bit_or, and_high, and_mask, or_shifted}
use lib.Pow.{pow_pos, pow-add, field}
use borrow.Author.Tests.{lt-ltb}
use lib.IntN.{ℤ, pos, negsuc, neg_ℤ, ◌+ℤ◌, ◌*ℤ◌, nat_abs}
use mir.Syntax.{w64}
use mir.Val.{SFits, of_z}
use Rattle.raster_edge.specs.Edge.{floor_to, mod_z}

-- q M - (a + 1), divided by M
module _ (q M a : ℕ) (p : 0 < M) (h : a < q * M) where
  low_lt : a % M < M
  low_lt = mod-lt a p

  quo_lt : a / M < q
  quo_lt = (div-lt_iff_lt-mul p).1 h

  split_up : q * M - suc a ≡ (q - suc (a / M)) * M + (M - suc (a % M))
  split_up =
      let e : q ≡ (q - suc (a / M)) + suc (a / M) = omega (arith, quo_lt) in
      let f : q * M ≡ (q - suc (a / M)) * M + suc (a / M) * M = ap (λ (t : ℕ). t * M) e ∙ add-mul (q - suc (a / M)) (suc (a / M)) M in
      omega (arith, f, low_lt, div-add-mod' a M, add-mul (a / M) 1 M)

  pub neg_div : (q * M - suc a) / M ≡ q - suc (a / M)
  neg_div = ap (λ (t : ℕ). t / M) split_up ∙ digits_div (q - suc (a / M)) (omega (arith, low_lt))

  pub neg_mod : (q * M - suc a) % M ≡ M - suc (a % M)
  neg_mod = ap (λ (t : ℕ). t % M) split_up ∙ digits_mod (q - suc (a / M)) (omega (arith, low_lt))

-- the bits of -m
pub bits_neg : (m : ℕ) → 0 < m → of_z w64 (neg_ℤ (pos m)) ≡ 2 ^ 64 - m
bits_neg zero h = absurd (none h)
  where
    none : 0 < 0 → ⊥
    none h = omega arith
bits_neg (suc m) h = refl

-- -m + b, for b below m
pub neg_plus : (m b : ℕ) → b < m → neg_ℤ (pos m) +ℤ pos b ≡ negsuc (m - suc b)
neg_plus zero b h = absurd (none h)
  where
    none : b < 0 → ⊥
    none h = omega arith
neg_plus (suc m) b h = rw (lt-ltb b (suc m) h)

module _ (j k : ℕ) (e : j + k ≡ 64) where
  whole : 2 ^ 64 ≡ 2 ^ j * 2 ^ k
  whole = ap (λ (t : ℕ). 2 ^ t) (sym e) ∙ pow-add 2 j k

  high_bits : (n : ℕ) → bit_and n (2 ^ 64 - 2 ^ k) ≡ (n / 2 ^ k % 2 ^ j) * 2 ^ k
  high_bits n = ap (λ (t : ℕ). bit_and n (2 ^ t - 2 ^ k)) (sym e) ∙ and_high n j k

  -- the bits of a number, with the k lowest cleared, as a multiple of 2 ^ k
  up_high : (a : ℕ) → a < 2 ^ 64 → bit_and a (2 ^ 64 - 2 ^ k) ≡ a / 2 ^ k * 2 ^ k
  up_high a b = high_bits a ∙ ap (λ (t : ℕ). t * 2 ^ k) (mod-eq_of_lt ((div-lt_iff_lt-mul (pow_pos k)).1 (subst (λ (t : ℕ). a < t) whole b)))

  module _ (a : ℕ) (b : a < 2 ^ 64) where
    part : a < 2 ^ j * 2 ^ k
    part = subst (λ (t : ℕ). a < t) whole b

    above : a / 2 ^ k < 2 ^ j
    above = (div-lt_iff_lt-mul (pow_pos k)).1 part

    down_high : bit_and (2 ^ 64 - suc a) (2 ^ 64 - 2 ^ k) ≡ (2 ^ j - suc (a / 2 ^ k)) * 2 ^ k
    down_high =
        high_bits (2 ^ 64 - suc a)
        ∙ ap (λ (t : ℕ). t % 2 ^ j * 2 ^ k) (ap (λ (t : ℕ). (t - suc a) / 2 ^ k) whole ∙ neg_div (2 ^ j) (2 ^ k) a (pow_pos k) part)
        ∙ ap (λ (t : ℕ). t * 2 ^ k) (mod-eq_of_lt (omega (arith, above)))

    down_sum : (2 ^ j - suc (a / 2 ^ k)) * 2 ^ k + suc (a / 2 ^ k) * 2 ^ k ≡ 2 ^ 64
    down_sum =
        sym (add-mul (2 ^ j - suc (a / 2 ^ k)) (suc (a / 2 ^ k)) (2 ^ k))
        ∙ ap (λ (t : ℕ). t * 2 ^ k) (omega (arith, above)) ∙ sym whole

    at_least : 2 ^ k ≤ suc (a / 2 ^ k) * 2 ^ k
    at_least = omega (arith, add-mul 1 (a / 2 ^ k) (2 ^ k))

  -- `x & !7` is x lowered to a multiple of 8: `and_not 61 3 refl x f`
  pub and_not : (z : ℤ) → SFits w64 z → bit_and (of_z w64 z) (2 ^ 64 - 2 ^ k) ≡ of_z w64 (floor_to z (2 ^ k))
  and_not (pos a) f = up_high a (omega (arith, f.sfits))
  and_not (negsuc a) f =
      let b : a < 2 ^ 64 = omega (arith, f.sfits) in
      down_high a b ∙ omega (arith, down_sum a b) ∙ sym (bits_neg (suc (a / 2 ^ k) * 2 ^ k) (omega (arith, at_least a b, pow_pos k)))

  -- `(x & !1) | b`, for a b that has only bits that the mask clears
  pub or_low : (z : ℤ) (b : ℕ) → SFits w64 z → b < 2 ^ k → bit_or (bit_and (of_z w64 z) (2 ^ 64 - 2 ^ k)) b ≡ of_z w64 (floor_to z (2 ^ k) +ℤ pos b)
  or_low (pos a) b f h = ap (λ (t : ℕ). bit_or t b) (up_high a (omega (arith, f.sfits))) ∙ or_shifted (a / 2 ^ k) k b h
  or_low (negsuc a) b f h =
      let c : a < 2 ^ 64 = omega (arith, f.sfits) in
      let l : b < suc (a / 2 ^ k) * 2 ^ k = omega (arith, at_least a c) in
      ap (λ (t : ℕ). bit_or t b) (down_high a c) ∙ or_shifted (2 ^ j - suc (a / 2 ^ k)) k b h
      ∙ omega (arith, down_sum a c) ∙ sym (ap (of_z w64) (neg_plus (suc (a / 2 ^ k) * 2 ^ k) b l))

  -- `x & 7` is what is left
  pub bits_mod : (z : ℤ) → SFits w64 z → of_z w64 z % 2 ^ k ≡ mod_z z (2 ^ k)
  bits_mod (pos a) f = refl
  bits_mod (negsuc a) f =
      ap (λ (t : ℕ). (t - suc a) % 2 ^ k) whole ∙ neg_mod (2 ^ j) (2 ^ k) a (pow_pos k) (part a (omega (arith, f.sfits))) ∙ omega arith

  pub and_ones : (z : ℤ) → SFits w64 z → bit_and (of_z w64 z) (2 ^ k - 1) ≡ mod_z z (2 ^ k)
  and_ones z f = and_mask (of_z w64 z) k ∙ bits_mod z f

-- the bits k to k + i - 1: `x & 0x3ffe` is `and_field 50 13 1 refl x f`
pub and_field : (j i k : ℕ) → j + (i + k) ≡ 64 → (z : ℤ) → SFits w64 z → bit_and (of_z w64 z) (2 ^ (i + k) - 2 ^ k) ≡ mod_z z (2 ^ (i + k)) / 2 ^ k * 2 ^ k
and_field j i k e z f =
    and_high (of_z w64 z) i k ∙ ap (λ (t : ℕ). t * 2 ^ k) (sym (field (of_z w64 z) i k) ∙ ap (λ (t : ℕ). t / 2 ^ k) (bits_mod j (i + k) e z f))

-- lowered to a multiple of 2 ^ k, with less than that added, a number fits as before: `floor_fits 62 1 refl`
module _ (i k : ℕ) (e : i + k ≡ 63) where
  half : 2 ^ 63 ≡ 2 ^ i * 2 ^ k
  half = ap (λ (t : ℕ). 2 ^ t) (sym e) ∙ pow-add 2 i k

  below_half : (a : ℕ) → a < 2 ^ 63 → a / 2 ^ k < 2 ^ i
  below_half a h = (div-lt_iff_lt-mul (pow_pos k)).1 (subst (λ (t : ℕ). a < t) half h)

  pub floor_fits : (z : ℤ) (b : ℕ) → SFits w64 z → b < 2 ^ k → SFits w64 (floor_to z (2 ^ k) +ℤ pos b)
  floor_fits (pos a) b f h =
      record { sfits = omega (arith, digits_lt (below_half a f.sfits) h, half) }
  floor_fits (negsuc a) b f h =
      let m : suc (a / 2 ^ k) * 2 ^ k ≤ 2 ^ i * 2 ^ k = mul-le-mul_right (2 ^ k) (below_half a f.sfits) in
      let l : b < suc (a / 2 ^ k) * 2 ^ k = omega (arith, add-mul 1 (a / 2 ^ k) (2 ^ k)) in
      subst (SFits w64) (sym (neg_plus (suc (a / 2 ^ k) * 2 ^ k) b l)) (record { sfits = omega (arith, half) })

-- `x << k`, where nothing is lost
pub shl_bits : (k : ℕ) (z : ℤ) → nat_abs z * 2 ^ k < 2 ^ 63 → (of_z w64 z * 2 ^ k) % 2 ^ 64 ≡ of_z w64 (z *ℤ pos (2 ^ k))
shl_bits k (pos a) h = mod-eq_of_lt (omega arith)
shl_bits k (negsuc a) h =
    let s : (2 ^ 64 - suc a) * 2 ^ k + suc a * 2 ^ k ≡ 2 ^ 64 * 2 ^ k = sym (add-mul (2 ^ 64 - suc a) (suc a) (2 ^ k)) ∙ ap (λ (t : ℕ). t * 2 ^ k) (omega (arith, one)) in
    let r : (2 ^ 64 - suc a) * 2 ^ k ≡ (2 ^ k - 1) * 2 ^ 64 + (2 ^ 64 - suc a * 2 ^ k) = omega (arith, pow_pos k) in
    ap (λ (t : ℕ). t % 2 ^ 64) r ∙ digits_mod (2 ^ k - 1) (omega (arith, one, pow_pos k))
    ∙ sym (bits_neg (suc a * 2 ^ k) (omega (arith, one, pow_pos k)))
  where
    one : suc a ≤ suc a * 2 ^ k
    one = omega (arith, mul-le-mul_left (suc a) (pow_pos k))

-- ---- fields of a word put together, unsigned
-- below what is there
pub or_next : (k n b : ℕ) → n % 2 ^ k ≡ 0 → b < 2 ^ k → bit_or n b ≡ n + b
or_next k n b e h =
    let m : n ≡ n / 2 ^ k * 2 ^ k = omega (arith, div-add-mod' n (2 ^ k)) in
    ap (λ (t : ℕ). bit_or t b) m ∙ or_shifted (n / 2 ^ k) k b h ∙ ap (λ (t : ℕ). t + b) (sym m)

-- `(a << k) | b`, in w bits
pub join : (w k a b : ℕ) → a * 2 ^ k < 2 ^ w → b < 2 ^ k → bit_or ((a * 2 ^ k) % 2 ^ w) b ≡ a * 2 ^ k + b
join w k a b h l = ap (λ (t : ℕ). bit_or t b) (mod-eq_of_lt h) ∙ or_shifted a k b l
