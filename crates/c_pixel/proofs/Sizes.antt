-- A pixel takes at most four bytes, so its size fits a word.
use Prim.Native.Nat.{ℕ, zero, suc, ◌*◌, ◌/◌, ◌^◌, ◌≤◌, max}
use mathlib.Core.Path.{◌≡◌, refl}
use mathlib.Core.Bool.{Bool, true, false}
use native.Mathlib.Omega.{arith}
use Rattle.std.proofs.lemmas.Grind.{common_steps}
use Rattle.words_pack.specs.declared.Writer.{Writer}
use Rattle.words_pack.specs.Writer.{pixel_bytes_of}
use Rattle.writeback_pixel.specs.Refusal.{writer_ok, checked}
use Rattle.writeback_pixel.specs.Calls.{pixel_bytes_call}

small : (s : ℕ) → s ≤ 3 → max 1 (4 * 2 ^ s / 8) ≤ 4
small zero h = omega arith
small (suc zero) h = omega arith
small (suc (suc zero)) h = omega arith
small (suc (suc (suc zero))) h = omega arith
small (suc (suc (suc (suc n)))) h = let no : ⊥ = omega arith in absurd no

narrow : (w : Writer) → writer_ok w ≡ true → w.layout.siz ≤ 3
narrow w e = grind (arith, common_steps)

checked_small : (ok : Bool) (w : Writer) → writer_ok w ≡ ok → (checked ok (max 1 (4 * 2 ^ w.layout.siz / 8)) 0).value ≤ 4
unfolding checked
checked_small true w e = small w.layout.siz (narrow w e)
checked_small false w e = omega arith

pub size_small : (w : Writer) → (pixel_bytes_call w).value ≤ 4
unfolding pixel_bytes_call pixel_bytes_of
size_small w = checked_small (writer_ok w) w refl
