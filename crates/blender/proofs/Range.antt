-- The coverage that memory keeps has three bits, where the pixel has 1 to 8 samples and the memory's coverage has three. Assumes nothing.
use Prim.Native.Nat.{ℕ, ◌≤◌}
use native.Mathlib.Omega.{arith}
use mathlib.Core.Bool.{Bool, true, false, cond}
use lib.Dec.{eqb}
use Rattle.state.specs.declared.RenderMode.{RenderMode}
use Rattle.std.specs.Prelude.{Some}
use Rattle.blender.specs.Coverage.{blends, clamp_of, destination_of}

-- what `destination` asks of a count and of the memory's coverage
abbrev pub Counts : ℕ → ℕ → Type 0
Counts n c = (1 ≤ n) × (n ≤ 8) × (c ≤ 7)

picked : (x y z : Bool) (a b c d : ℕ) → a ≤ 7 → b ≤ 7 → c ≤ 7 → d ≤ 7 → cond x a (cond y b (cond z c d)) ≤ 7
picked true y z a b c d p q r s = p
picked false true z a b c d p q r s = q
picked false false true a b c d p q r s = r
picked false false false a b c d p q r s = s

clamp_le : (blend : Bool) (n c : ℕ) → Counts n c → clamp_of blend n c ≤ 7
unfolding clamp_of
clamp_le true n c h = omega arith
clamp_le false n c h = omega arith

pub destination_le : (mode : RenderMode) (n c : ℕ) → Counts n c → destination_of mode n c ≤ 7
unfolding destination_of
destination_le mode n c h =
    let k = mode.cvg_dst in
    picked (eqb k 0) (eqb k 1) (eqb k 2) _ _ _ _ (clamp_le (blends mode n (Some c)) n c h) (omega arith) (omega arith) h.2
