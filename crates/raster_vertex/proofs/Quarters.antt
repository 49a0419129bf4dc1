-- Quarter units: a coordinate in range is small in them, and they keep the order of `total_cmp`. Both go by the size and the sign apart:
-- `quarter_of` is ± the size times 4, rounded, and rounding keeps an order of sizes.
use mathlib.Core.Path.{◌≡◌, refl}
use mathlib.Core.Bool.{Bool, true, false, cond, false≢true}
use Prim.Native.Nat.{ℕ, zero, suc, ◌*◌, ◌/◌, ◌^◌, ◌≤◌, ◌<◌, min}
use native.Mathlib.Nat.{mul-one, one-mul, mul_right_comm}
use native.Mathlib.Omega.{arith}
use lib.IntN.{ℤ, pos, negsuc, neg_ℤ, nat_abs}
use lib.Signed.{◌≤ℤ◌, le_z_yes}
use lib.Dec.{le→leb}
use lib.Ieee.{Float, nan, inf, fin, up, down, lt, eq, le}
use lib.Ieee.Fits.{down_pos}
use lib.Ieee.Nearest.{div_mono}
use Rattle.num_float.specs.Color.{total_le}
use Rattle.num_float.specs.Whole.{near, quarter_of}
use Rattle.std.proofs.lemmas.Bool.{and_parts}
use Rattle.num_float.proofs.Cut.{near_halves}
use Rattle.raster_vertex.specs.declared.Vertex.{Vertex}
use Rattle.raster_vertex.specs.Range.{within, in_range_x, in_range_y, in_range}
use Rattle.raster_vertex.proofs.Ranked.{Rank, total_rank, le_rank}

-- ---- rounding keeps an order
near_mono : (a b c d : ℕ) → 0 < b → 0 < d → a * d ≤ c * b → near a b ≤ near c d
near_mono a b c d B D h =
    let q : a * 2 / b ≤ c * 2 / d = div_mono (a * 2) b (c * 2) d B D (omega (arith, mul_right_comm a 2 d, mul_right_comm c 2 b)) in
    omega (arith, near_halves a b B, near_halves c d D)

-- the size of a float in quarter units
abbrev size : ℕ → ℤ → ℕ
size m e = min (near (m * up e * 4) (down e)) 65536

size_mono : (m : ℕ) (e : ℤ) (n : ℕ) (d : ℤ) → m * up e * down d ≤ n * up d * down e → size m e ≤ size n d
size_mono m e n d h =
    omega (arith, near_mono (m * up e * 4) (down e) (n * up d * 4) (down d) (down_pos e) (down_pos d) (omega (arith, mul_right_comm (m * up e) 4 (down d), mul_right_comm (n * up d) 4 (down e))))

-- ---- signs
abbrev signed : Bool → ℕ → ℤ
signed s n = cond s (neg_ℤ (pos n)) (pos n)

signed_mono : (s : Bool) (a : ℕ) (t : Bool) (b : ℕ) → Rank s a t b → signed s a ≤ℤ signed t b
signed_mono false a false b h = le_z_yes (le→leb a b h)
signed_mono false a true b h = absurd h
signed_mono true zero false b h = le_z_yes (le→leb 0 b (omega arith))
signed_mono true (suc a) false b h = le_z_yes tt
signed_mono true a true zero h = at_zero a
  where
    at_zero : (a : ℕ) → signed true a ≤ℤ pos 0
    at_zero zero = le_z_yes tt
    at_zero (suc a) = le_z_yes tt
signed_mono true zero true (suc b) h = absurd (omega arith)
signed_mono true (suc a) true (suc b) h = le_z_yes (le→leb b a (omega arith))

signed_size : (s : Bool) (a : ℕ) → nat_abs (signed s a) ≡ a
signed_size false a = refl
signed_size true zero = refl
signed_size true (suc a) = refl

finite_mono : (s : Bool) (m : ℕ) (e : ℤ) (t : Bool) (n : ℕ) (d : ℤ) → Rank s (m * up e * down d) t (n * up d * down e) → Rank s (size m e) t (size n d)
finite_mono false m e false n d h = size_mono m e n d h
finite_mono false m e true n d h = h
finite_mono true m e false n d h = tt
finite_mono true m e true n d h = size_mono n d m e h

-- No size is above the infinities'.
lowest : (t : Bool) (n : ℕ) (d : ℤ) → Rank true 65536 t (size n d)
lowest false n d = tt
lowest true n d = omega arith

highest : (s : Bool) (m : ℕ) (e : ℤ) → Rank s (size m e) false 65536
highest false m e = omega arith
highest true m e = tt

-- Floats in `total_cmp`'s order are in order in quarter units.
pub quarter_mono : (p q : Float) → total_le p q ≡ true → quarter_of p ≤ℤ quarter_of q
unfolding lt eq
quarter_mono nan q h = absurd (false≢true h)
quarter_mono (inf s) nan h = absurd (false≢true h)
quarter_mono (inf true) (inf true) h = le_z_yes tt
quarter_mono (inf true) (inf false) h = le_z_yes tt
quarter_mono (inf false) (inf true) h = absurd (false≢true h)
quarter_mono (inf false) (inf false) h = le_z_yes tt
quarter_mono (inf true) (fin t n d) h = signed_mono true 65536 t (size n d) (lowest t n d)
quarter_mono (inf false) (fin t n d) h = absurd (false≢true h)
quarter_mono (fin s m e) nan h = absurd (false≢true h)
quarter_mono (fin s m e) (inf true) h = absurd (false≢true h)
quarter_mono (fin s m e) (inf false) h = signed_mono s (size m e) false 65536 (highest s m e)
quarter_mono (fin s m e) (fin t n d) h = signed_mono s (size m e) t (size n d) (finite_mono s m e t n d (total_rank s m e t n d h))

-- ---- in range
near_one : (a b h : ℕ) → 0 < b → a ≤ h * b → near a b ≤ h
near_one a b h B l = omega (arith, near_mono a b h 1 B (omega arith) (omega (arith, mul-one a)))

-- A float from -(2 ^ k) to h / 4 is at most 2 ^ k * 4 quarters from 0, where h is.
within_size : (k h : ℕ) (x : Float) → h ≤ 2 ^ k * 4 → within (fin true 1 (pos k)) (fin false h (negsuc 1)) x ≡ true → nat_abs (quarter_of x) ≤ 2 ^ k * 4
unfolding le lt eq
within_size k h nan b w = absurd (false≢true w)
within_size k h (inf true) b w = absurd (false≢true w)
within_size k h (inf false) b w = absurd (false≢true w)
within_size k h (fin false m e) b w =
    let r : m * up e * 4 ≤ h * 1 * down e = le_rank false m e h (negsuc 1) (and_parts (le (fin true 1 (pos k)) (fin false m e)) (le (fin false m e) (fin false h (negsuc 1))) w).1 in
    let n : near (m * up e * 4) (down e) ≤ h = near_one (m * up e * 4) (down e) h (down_pos e) (omega (arith, mul-one h)) in
    omega arith
within_size k h (fin true m e) b w =
    let r : m * up e * 1 ≤ 1 * 2 ^ k * down e = le_rank true 1 (pos k) m e (and_parts (le (fin true 1 (pos k)) (fin true m e)) (le (fin true m e) (fin false h (negsuc 1))) w).0 in
    let n : near (m * up e * 4) (down e) ≤ 2 ^ k * 4 = near_one (m * up e * 4) (down e) (2 ^ k * 4) (down_pos e) (omega (arith, mul-one (m * up e), one-mul (2 ^ k), mul_right_comm (2 ^ k) 4 (down e))) in
    omega (arith, signed_size true (size m e))

-- The coordinates of a vertex in range, in quarter units, are at most 4096 and 8192 either way.
pub quarter_x : (v : Vertex) → in_range v ≡ true → nat_abs (quarter_of v.x) ≤ 4096
quarter_x v h = within_size 10 4095 v.x (omega arith) (and_parts (in_range_x v.x) (in_range_y v.y) h).0

pub quarter_y : (v : Vertex) → in_range v ≡ true → nat_abs (quarter_of v.y) ≤ 8192
quarter_y v h = within_size 11 8191 v.y (omega arith) (and_parts (in_range_x v.x) (in_range_y v.y) h).1
