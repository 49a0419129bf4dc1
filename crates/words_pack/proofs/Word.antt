-- The colour word: its fields do not overlap, so joining them by `or` adds them, and they fill sixteen bits. Assumes nothing.
use Rattle.std.proofs.Common.{◌≡◌, ℕ, ◌+◌, ◌*◌, ◌/◌, ◌%◌, ◌^◌, ◌<◌, ◌≤◌, sym, ap, ◌∙◌, subst, arith}
use native.Mathlib.Nat.{mod-lt}
use lib.Bits.{bit_or, or_shifted}
use lib.Pow.{pow_pos}
use Rattle.num_bits.specs.Field.{field}

-- a field below bit k beside what stands from bit k up
beside : (high a k low : ℕ) → high ≡ a * 2 ^ k → low < 2 ^ k → bit_or high low ≡ high + low
beside high a k low e h = subst (λ (x : ℕ). bit_or x low ≡ x + low) (sym e) (or_shifted a k low h)

pub joined : (r g b t : ℕ) → r ≤ 31 → g ≤ 31 → b ≤ 31 → t ≤ 1
    → bit_or (bit_or (bit_or (r * 2048 % 65536) (g * 64 % 65536)) (b * 2 % 65536)) t ≡ r * 2048 + g * 64 + b * 2 + t
joined r g b t hr hg hb ht =
    let R = r * 2048 % 65536 in
    let G = g * 64 % 65536 in
    let B = b * 2 % 65536 in
    let sums : R + G + B + t ≡ r * 2048 + g * 64 + b * 2 + t = omega arith in
    ap (λ (x : ℕ). bit_or (bit_or x B) t) (beside R r 11 G (omega arith) (omega arith))
    ∙ ap (λ (x : ℕ). bit_or x t) (beside (R + G) (r * 32 + g) 6 B (omega arith) (omega arith))
    ∙ beside (R + G + B) (r * 1024 + g * 32 + b) 1 t (omega arith) (omega arith)
    ∙ sums

-- a field of n bits is below 2 ^ n
pub field_small : (v k n : ℕ) → field v k n < 2 ^ n
unfolding field
field_small v k n = mod-lt (v / 2 ^ k) (pow_pos n)
