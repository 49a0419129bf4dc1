-- A field of either word is a field of the 64-bit command: the upper word's stand 32 bits higher, and the lower word's where they are.
-- Assumes nothing.
use Prim.Native.Nat.{ℕ, ◌+◌, ◌*◌, ◌/◌, ◌%◌, ◌-◌, ◌^◌, ◌≤◌, ◌<◌}
use mathlib.Core.Path.{◌≡◌, sym, ap, ◌∙◌}
use native.Mathlib.Omega.{arith}
use lib.Pow as pow
use Rattle.num_bits.specs.Field.{field}
use Rattle.combiner_inputs.specs.Combine.{command}

module _ (l h : ℕ) (fits : h < 2 ^ 32) where
  pub upper : (k n : ℕ) → field l k n ≡ field (command l h) (32 + k) n
  unfolding field command
  upper k n =
      ap (λ (t : ℕ). t / 2 ^ k % 2 ^ n) (sym (pow.high l 32 fits))
      ∙ ap (λ (t : ℕ). t % 2 ^ n) (pow.shr-shr (l * 2 ^ 32 + h) 32 k)

  -- the lowest m bits of the command, for an m up to 32
  low_bits : (m : ℕ) → m ≤ 32 → h % 2 ^ m ≡ (l * 2 ^ 32 + h) % 2 ^ m
  low_bits m le =
      let w = l * 2 ^ 32 + h in
      let e : (32 - m) + m ≡ 32 = omega arith in
      ap (λ (t : ℕ). t % 2 ^ m) (sym (pow.low l 32 fits) ∙ ap (λ (t : ℕ). w % 2 ^ t) (sym e)) ∙ pow.mod-mod-pow w (32 - m) m

  pub lower : (k n : ℕ) → n + k ≤ 32 → field h k n ≡ field (command l h) k n
  unfolding field command
  lower k n le =
      sym (pow.field h n k) ∙ ap (λ (t : ℕ). t / 2 ^ k) (low_bits (n + k) le) ∙ pow.field (l * 2 ^ 32 + h) n k
