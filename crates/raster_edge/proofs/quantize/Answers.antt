-- `>> 13`, `& !1`, `& 0x3ffe` and `|` on the bits are floor division and remainder.
use Prim.Native.Nat.{ℕ, zero, suc, ◌/◌, ◌*◌, ◌<◌}
use mathlib.Core.Path.{◌≡◌, refl, ap, ◌∙◌}
use mathlib.Core.Bool.{Bool, true, false, not}
use native.Mathlib.Omega.{arith}
use lib.Dec.{lit<, eqb}
use borrow.Author.Tests.{ne_eqb}
use lib.IntN.{ℤ, pos, ◌+ℤ◌}
use lib.Signed.{shr_z, mag_shr}
use mir.Syntax.{w64}
use mir.Val.{SFits, bool_byte}
use mir.ValLaws.{to_z-of_z, sfits_le}
use Rattle.raster_edge.specs.Edge.{quantized, floor_to, mod_z, sticky}
use Rattle.raster_edge.proofs.Bits.{or_low, and_field, floor_fits}
use Rattle.raster_edge.proofs.quantize.Goals as goal

-- a field of bits that is not 0, as a number
bit-of : (n : ℕ) → pos (bool_byte (not (eqb (n * 2) 0))) ≡ sticky n
bit-of zero = refl
bit-of (suc n) = ap (λ (t : Bool). pos (bool_byte (not t))) (ne_eqb (suc n * 2) 0 (omega arith))

bit_small : (t : Bool) → bool_byte t < 2
bit_small true = lit< tt
bit_small false = lit< tt

pub returns : goal.returns
unfolding quantized
returns c =
    let x = c.args.x in
    let f = c.ranges.x in
    let y = shr_z x 8192 in
    let g : SFits w64 y = sfits_le (mag_shr x 8192) f in
    let b = bool_byte (not (eqb (mod_z x 16384 / 2 * 2) 0)) in
    let s : b < 2 = bit_small (not (eqb (mod_z x 16384 / 2 * 2) 0)) in
    rw (to_z-of_z w64 x f, and_field 50 13 1 refl x f, or_low 63 1 refl y b g s)
    (to_z-of_z w64 (floor_to y 2 +ℤ pos b) (floor_fits 62 1 refl y b g s) ∙ ap (λ (t : ℤ). floor_to y 2 +ℤ t) (bit-of (mod_z x 16384 / 2)))
