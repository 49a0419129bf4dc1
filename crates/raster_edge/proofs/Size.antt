-- How large a signed number can be: bounds on `nat_abs`, which `omega` reads. Assumes nothing.
use Prim.Native.Nat.{ℕ, zero, suc, ◌+◌, ◌*◌, ◌/◌, ◌-◌, ◌^◌, ◌≤◌, ◌<◌}
use mathlib.Core.Path.{◌≡◌, refl, ap}
use mathlib.Core.Bool.{Bool, true, false, not, cond}
use native.Mathlib.Nat.{le_trans, mod-lt, div-le_self, div-mul-le_self, add-mul}
use native.Mathlib.Omega.{arith}
use borrow.Author.Tests.{le-ltb}
use lib.Dec.{T, ltb, ltb→lt}
use lib.IntN.{ℤ, pos, negsuc, neg_ℤ, ◌+ℤ◌, ◌-ℤ◌, ◌*ℤ◌, nat_abs, sub_ℕ}
use lib.Signed.{shr_z, quot_z}
use mir.Syntax.{w64}
use mir.Val.{SFits}
use Rattle.raster_edge.specs.Edge.{floor_to, mod_z, ceil_div, away_div, at_least_one}

pub small_fits : (z : ℤ) → nat_abs z < 2 ^ 63 → SFits w64 z
small_fits (pos n) h = record { sfits = h }
small_fits (negsuc n) h = record { sfits = omega arith }

pub less_one : (n : ℕ) → pos (suc n) -ℤ pos 1 ≡ pos n
less_one n = rw (le-ltb (suc n) 1 (omega arith)) (ap pos (omega arith))

pub size_neg : (z : ℤ) → nat_abs (neg_ℤ z) ≡ nat_abs z
size_neg (pos zero) = refl
size_neg (pos (suc n)) = refl
size_neg (negsuc n) = refl

-- by which way a test went
cond_size : (t : Bool) (x y : ℤ) (m : ℕ) → (T t → nat_abs x ≤ m) → (T (not t) → nat_abs y ≤ m) → nat_abs (cond t x y) ≤ m
cond_size true x y m f g = f tt
cond_size false x y m f g = g tt

size_subℕ : (a b : ℕ) → nat_abs (sub_ℕ a b) ≤ a + b
size_subℕ a b = cond_size (ltb a b) (negsuc (b - suc a)) (pos (a - b)) (a + b) (λ t. lower (ltb→lt a b t)) (λ t. omega arith)
  where
    lower : a < b → suc (b - suc a) ≤ a + b
    lower h = omega arith

pub size_add : (x y : ℤ) → nat_abs (x +ℤ y) ≤ nat_abs x + nat_abs y
size_add (pos a) (pos b) = omega arith
size_add (pos a) (negsuc b) = size_subℕ a (suc b)
size_add (negsuc a) (pos b) = omega (arith, size_subℕ b (suc a))
size_add (negsuc a) (negsuc b) = omega arith

pub size_sub : (x y : ℤ) → nat_abs (x -ℤ y) ≤ nat_abs x + nat_abs y
size_sub x y = omega (arith, size_add x (neg_ℤ y), size_neg y)

pub size_mul : (x y : ℤ) → nat_abs (x *ℤ y) ≡ nat_abs x * nat_abs y
size_mul (pos a) (pos b) = refl
size_mul (pos a) (negsuc b) = size_neg (pos (a * suc b))
size_mul (negsuc a) (pos b) = size_neg (pos (suc a * b))
size_mul (negsuc a) (negsuc b) = refl

pub size_shr : (z : ℤ) (m : ℕ) → nat_abs (shr_z z m) ≤ nat_abs z
size_shr (pos a) m = div-le_self a m
size_shr (negsuc a) m = omega (arith, div-le_self a m)

pub size_floor : (z : ℤ) (m : ℕ) → nat_abs (floor_to z m) ≤ nat_abs z + m
size_floor (pos a) m = omega (arith, div-mul-le_self a m)
size_floor (negsuc a) m = omega (arith, size_neg (pos (suc (a / m) * m)), div-mul-le_self a m, add-mul 1 (a / m) m)

pub size_quot : (z : ℤ) (d : ℕ) → nat_abs (quot_z z (pos d)) ≤ nat_abs z
size_quot (pos a) d = div-le_self a d
size_quot (negsuc a) d = omega (arith, size_neg (pos (suc a / d)), div-le_self (suc a) d)

pub mod_z_le : (z : ℤ) (m : ℕ) → 0 < m → mod_z z m ≤ m
mod_z_le (pos a) m h = omega (arith, mod-lt a h)
mod_z_le (negsuc a) m h = omega arith

ceil_le : (a d : ℕ) → ceil_div a d ≤ a + d
ceil_le a d = le_trans (div-le_self _ d) (omega arith)

pub size_away : (z : ℤ) (d : ℕ) → nat_abs (away_div z d) ≤ nat_abs z + d
size_away (pos a) d = ceil_le a d
size_away (negsuc a) d = omega (arith, size_neg (pos (ceil_div (suc a) d)), ceil_le (suc a) d)

pub size_one : (z : ℤ) → at_least_one z ≤ nat_abs z + 1
size_one (pos a) = omega arith
size_one (negsuc a) = omega arith

pub one_le : (z : ℤ) → 1 ≤ at_least_one z
one_le (pos a) = omega arith
one_le (negsuc a) = omega arith
