-- A field of a word as its shift and its mask give it. Assumes nothing.
use mathlib.Core.Path.{◌≡◌, ap, ◌∙◌}
use Prim.Native.Nat.{ℕ, ◌*◌, ◌/◌, ◌%◌, ◌-◌, ◌^◌, ◌<◌}
use native.Mathlib.Nat.{mod-eq_of_lt, one-mul}
use lib.Pow.{pow-lt}
use lib.Bits.{bit_and, and_mask}
use Rattle.num_bits.specs.Field.{field}

pub masked : (v k n : ℕ) → n < 32 → bit_and (v / 2 ^ k) (1 * 2 ^ n % 2 ^ 32 - 1) ≡ field v k n
unfolding field
masked v k n h = ap (λ (x : ℕ). bit_and (v / 2 ^ k) (x - 1)) (ap (λ (x : ℕ). x % 2 ^ 32) (one-mul (2 ^ n)) ∙ mod-eq_of_lt (pow-lt h)) ∙ and_mask (v / 2 ^ k) n
