-- A chain of signed operations, one law for each. `Held n z B` says that the 64 bits n, read as signed, are z, and that z's size is at most B.
-- Each operation's law takes its operands' `Held` and gives the result's, with a bound that is computed: where the bounds are numerals, `tt` shows that nothing overflows.
-- The law whose name begins `fit_` is what the operation's need asks. Assumes nothing.
use Prim.Native.Nat.{ℕ, ◌+◌, ◌*◌, ◌/◌, ◌%◌, ◌-◌, ◌^◌, ◌≤◌, ◌<◌}
use mathlib.Core.Path.{◌≡◌, refl, sym, ap, ◌∙◌, subst}
use native.Mathlib.Nat.{le_refl, le_trans, mul-le-mul, mul-le-mul_right, mul-div-le}
use lib.Pow.{pow_pos}
use native.Mathlib.Omega.{arith}
use lib.Dec.{T, ltb, ltb→lt}
use lib.Bits.{bit_and}
use lib.IntN.{ℤ, pos, negsuc, ◌+ℤ◌, ◌-ℤ◌, ◌*ℤ◌, nat_abs}
use lib.Signed.{shr_z, mag, lt_z, le_z, quot_z, nat_abs-le}
use mir.Syntax.{w64}
use mir.Val.{SFits, to_z, of_z}
use mir.ValLaws.{to_z-of_z, of_z-to_z, to_z_pos}
use Rattle.raster_edge.specs.Edge.{floor_to, mod_z}
use Rattle.raster_edge.proofs.Size.{small_fits, size_add, size_sub, size_mul, size_shr, size_floor, size_quot, mod_z_le}
use Rattle.raster_edge.proofs.Bits.{and_not, and_ones, shl_bits}

pub record Held (n : ℕ) (z : ℤ) (B : ℕ) : Type 0 where
  pub bits : n ≡ of_z w64 z
  pub read : to_z w64 n ≡ z
  pub size : nat_abs z ≤ B

-- a parameter, or what a call gave
pub held : {z : ℤ} {B : ℕ} → SFits w64 z → nat_abs z ≤ B → Held (of_z w64 z) z B
held {z} f h = record { bits = refl; read = to_z-of_z w64 z f; size = h }

-- a parameter of which nothing more is known
pub any : {z : ℤ} → SFits w64 z → Held (of_z w64 z) z (2 ^ 63)
any {z} f = held f (nat_abs-le z f.sfits)

-- what a call gave, with its `.ok`, or an element, with its `.given`, where no bound is wanted
pub got : (z : ℤ) → mag z < 2 ^ 63 → Held (of_z w64 z) z (2 ^ 63)
got z h = any (record { sfits = h })

-- a literal: `lit 7 tt`
pub lit : (n : ℕ) → T (ltb n (2 ^ 64)) → Held n (to_z w64 n) (nat_abs (to_z w64 n))
lit n t = record { bits = sym (of_z-to_z w64 n (record { fits = ltb→lt n (2 ^ 64) t })); read = refl; size = le_refl (nat_abs (to_z w64 n)) }

-- an unsigned number, cast
pub uns : {n B : ℕ} → n ≤ B → T (ltb B (2 ^ 63)) → Held n (pos n) B
uns {n} {B} h t = record { bits = refl; read = to_z_pos w64 n (omega (arith, ltb→lt B (2 ^ 63) t)); size = h }

fits_of : (z : ℤ) {B : ℕ} → nat_abs z ≤ B → T (ltb B (2 ^ 63)) → SFits w64 z
fits_of z {B} h t = small_fits z (omega (arith, ltb→lt B (2 ^ 63) t))

-- a result, or what a call gave, from its clean form
pub made : {y z : ℤ} {B : ℕ} → y ≡ z → nat_abs z ≤ B → T (ltb B (2 ^ 63)) → Held (of_z w64 y) z B
made {y} {z} e h t = record { bits = ap (of_z w64) e; read = to_z-of_z w64 y (subst (SFits w64) (sym e) (fits_of z h t)) ∙ e; size = h }

-- a field or an element of which a bound is known
pub small : (z : ℤ) {B : ℕ} → nat_abs z ≤ B → T (ltb B (2 ^ 63)) → Held (of_z w64 z) z B
small z h t = made refl h t

-- what a call gave, with its `.ok`, or an element, with its `.given`
pub back : (z : ℤ) → mag z < 2 ^ 63 → to_z w64 (of_z w64 z) ≡ z
back z h = to_z-of_z w64 z (record { sfits = h })

pub fits : {n : ℕ} {z : ℤ} {B : ℕ} → Held n z B → T (ltb B (2 ^ 63)) → SFits w64 z
fits {n} {z} p t = fits_of z p.size t

module _ {m n : ℕ} {x y : ℤ} {A B : ℕ} (p : Held m x A) (q : Held n y B) where
  both : (f : ℤ → ℤ → ℤ) → f (to_z w64 m) (to_z w64 n) ≡ f x y
  both f = ap (λ (t : ℤ). f t (to_z w64 n)) p.read ∙ ap (f x) q.read

  add_size : nat_abs (x +ℤ y) ≤ A + B
  add_size = omega (arith, size_add x y, p.size, q.size)

  pub add : T (ltb (A + B) (2 ^ 63)) → Held (of_z w64 (to_z w64 m +ℤ to_z w64 n)) (x +ℤ y) (A + B)
  add t = made (both ◌+ℤ◌) add_size t

  pub fit_add : T (ltb (A + B) (2 ^ 63)) → SFits w64 (to_z w64 m +ℤ to_z w64 n)
  fit_add t = subst (SFits w64) (sym (both ◌+ℤ◌)) (fits_of (x +ℤ y) add_size t)

  sub_size : nat_abs (x -ℤ y) ≤ A + B
  sub_size = omega (arith, size_sub x y, p.size, q.size)

  pub sub : T (ltb (A + B) (2 ^ 63)) → Held (of_z w64 (to_z w64 m -ℤ to_z w64 n)) (x -ℤ y) (A + B)
  sub t = made (both ◌-ℤ◌) sub_size t

  pub fit_sub : T (ltb (A + B) (2 ^ 63)) → SFits w64 (to_z w64 m -ℤ to_z w64 n)
  fit_sub t = subst (SFits w64) (sym (both ◌-ℤ◌)) (fits_of (x -ℤ y) sub_size t)

  mul_size : nat_abs (x *ℤ y) ≤ A * B
  mul_size = subst (λ (t : ℕ). t ≤ A * B) (sym (size_mul x y)) (mul-le-mul p.size q.size)

  pub mul : T (ltb (A * B) (2 ^ 63)) → Held (of_z w64 (to_z w64 m *ℤ to_z w64 n)) (x *ℤ y) (A * B)
  mul t = made (both ◌*ℤ◌) mul_size t

  pub fit_mul : T (ltb (A * B) (2 ^ 63)) → SFits w64 (to_z w64 m *ℤ to_z w64 n)
  fit_mul t = subst (SFits w64) (sym (both ◌*ℤ◌)) (fits_of (x *ℤ y) mul_size t)

  -- a test of order
  pub lt_is : lt_z (to_z w64 m) (to_z w64 n) ≡ lt_z x y
  lt_is = ap (λ (t : ℤ). lt_z t (to_z w64 n)) p.read ∙ ap (lt_z x) q.read

  pub le_is : le_z (to_z w64 m) (to_z w64 n) ≡ le_z x y
  le_is = ap (λ (t : ℤ). le_z t (to_z w64 n)) p.read ∙ ap (le_z x) q.read

-- bits, from their clean form
same : {m : ℕ} {z : ℤ} {B : ℕ} → m ≡ of_z w64 z → nat_abs z ≤ B → T (ltb B (2 ^ 63)) → Held m z B
same {m} {z} e h t = record { bits = e; read = ap (to_z w64) e ∙ to_z-of_z w64 z (fits_of z h t); size = h }

-- a quotient by a number that is not negative; `fit_quot` is a division's need
module _ {m n d : ℕ} {x : ℤ} {A B : ℕ} (p : Held m x A) (q : Held n (pos d) B) (h : 0 < d) (t : T (ltb A (2 ^ 63))) where
  quot_size : nat_abs (quot_z x (pos d)) ≤ A
  quot_size = le_trans (size_quot x d) p.size

  pub quot : Held (of_z w64 (quot_z (to_z w64 m) (to_z w64 n))) (quot_z x (pos d)) A
  quot = made (both p q quot_z) quot_size t

  pub fit_quot : (0 < n) × SFits w64 (quot_z (to_z w64 m) (to_z w64 n))
  fit_quot = (omega (arith, q.bits), subst (SFits w64) (sym (both p q quot_z)) (fits_of (quot_z x (pos d)) quot_size t))

module _ {m : ℕ} {x : ℤ} {A : ℕ} (p : Held m x A) where
  -- `x >> 13`: `shr p 8192 tt`
  pub shr : (M : ℕ) → T (ltb A (2 ^ 63)) → Held (of_z w64 (shr_z (to_z w64 m) M)) (shr_z x M) A
  shr M t = made (ap (λ (z : ℤ). shr_z z M) p.read) (le_trans (size_shr x M) p.size) t

  -- `x << 16`: `shl p 16 tt`
  pub shl : (k : ℕ) → T (ltb (A * 2 ^ k) (2 ^ 63)) → Held ((m * 2 ^ k) % 2 ^ 64) (x *ℤ pos (2 ^ k)) (A * 2 ^ k)
  shl k t =
      let h : nat_abs x * 2 ^ k ≤ A * 2 ^ k = mul-le-mul_right (2 ^ k) p.size in
      same (ap (λ (b : ℕ). (b * 2 ^ k) % 2 ^ 64) p.bits ∙ shl_bits k x (omega (arith, ltb→lt (A * 2 ^ k) (2 ^ 63) t)))
      (subst (λ (b : ℕ). b ≤ A * 2 ^ k) (sym (size_mul x (pos (2 ^ k)))) h) t

  -- `x & !7`: `low p 61 3 refl tt`
  pub low : (j k : ℕ) → j + k ≡ 64 → T (ltb (A + 2 ^ k) (2 ^ 63)) → Held (bit_and m (2 ^ 64 - 2 ^ k)) (floor_to x (2 ^ k)) (A + 2 ^ k)
  low j k e t =
      same (ap (λ (b : ℕ). bit_and b (2 ^ 64 - 2 ^ k)) p.bits ∙ and_not j k e x (small_fits x (omega (arith, p.size, ltb→lt (A + 2 ^ k) (2 ^ 63) t))))
      (omega (arith, size_floor x (2 ^ k), p.size)) t

  -- `x & 7`: `ones p 61 3 refl tt`
  pub ones : (j k : ℕ) → j + k ≡ 64 → T (ltb A (2 ^ 63)) → T (ltb (2 ^ k) (2 ^ 63)) → Held (bit_and m (2 ^ k - 1)) (pos (mod_z x (2 ^ k))) (2 ^ k)
  ones j k e t u =
      same (ap (λ (b : ℕ). bit_and b (2 ^ k - 1)) p.bits ∙ and_ones j k e x (fits p t)) (mod_z_le x (2 ^ k) (pow_pos k)) u

-- `x >> k`, of any x: `part p 8 tt`
pub part : {m : ℕ} {x : ℤ} → Held m x (2 ^ 63) → (M : ℕ) → T (ltb 1 M) → Held (of_z w64 (shr_z (to_z w64 m) M)) (shr_z x M) (2 ^ 62)
part {m} {x} p M t = made (ap (λ (z : ℤ). shr_z z M) p.read) (by x p.size) tt
  where
    twice : (a : ℕ) → 2 * (a / M) ≤ a
    twice a = le_trans (mul-le-mul_right (a / M) (ltb→lt 1 M t)) (mul-div-le a M)

    by : (z : ℤ) → nat_abs z ≤ 2 ^ 63 → nat_abs (shr_z z M) ≤ 2 ^ 62
    by (pos a) h = omega (arith, twice a)
    by (negsuc a) h = omega (arith, twice a)

-- the difference of two coordinates in range
module _ (x y : ℤ) (p : nat_abs x ≤ 8192) (q : nat_abs y ≤ 8192) where
  pub diff : Held (of_z w64 (to_z w64 (of_z w64 x) -ℤ to_z w64 (of_z w64 y))) (x -ℤ y) 16384
  diff = sub (small x p tt) (small y q tt) tt
