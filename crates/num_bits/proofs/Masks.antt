-- A mask of eight bits that is not 0 has 1 to 8 ones, 0 has none, and each number from 1 to 8 is that of a mask. Assumes nothing.
use mathlib.Core.Path.{◌≡◌}
use Prim.Native.Nat.{ℕ, ◌-◌, ◌/◌, ◌^◌, ◌≤◌, ◌<◌}
use native.Mathlib.Omega.{arith}
use native.Mathlib.Decide.{dec_le}
use lib.Arith.{bin_ind}
use lib.Pow.{pow_mono}
use lib.Count.{ones_step, ones-ones, ones-le}
use Rattle.num_bits.specs.Ones.{ones_of}

some_ones : (m : ℕ) → 0 < m → 1 ≤ ones_of m
some_ones = bin_ind (λ (m : ℕ). 0 < m → 1 ≤ ones_of m) (λ h. absurd (none h)) (λ m ih h. by m h ih (dec_le 2 m))
  where
    none : 0 < 0 → ⊥
    none h = omega arith

    by : (m : ℕ) → 0 < m → (0 < m / 2 → 1 ≤ ones_of (m / 2)) → Dec (2 ≤ m) → 1 ≤ ones_of m
    by m h ih (yes k) = omega (arith, ones_step m, ih (omega arith))
    by m h ih (no k) = omega (arith, ones_step m)

pub ones_range : (m : ℕ) → 0 < m → m < 256 → (1 ≤ ones_of m) × (ones_of m ≤ 8)
ones_range m p h = (some_ones m p, ones-le 8 m h)

-- none
pub no_ones : ones_of 0 ≡ 0
no_ones = ones-ones 0

-- all eight
pub ones_full : ones_of 255 ≡ 8
ones_full = ones-ones 8

-- every count from 1 to 8 is the number of ones of a mask: of the one with the n lowest bits
pub ones_lowest : (n : ℕ) → 1 ≤ n → n ≤ 8 → (0 < 2 ^ n - 1) × (2 ^ n - 1 < 256) × (ones_of (2 ^ n - 1) ≡ n)
ones_lowest n p q = (omega (arith, pow_mono p), omega (arith, pow_mono q), ones-ones n)
