-- To be believed. A single-pixel call by a count of samples, of which proofs/Counted says that a call by a mask is that call at the mask's number of ones. Definitions only.
use Rattle.std.specs.Prelude.{ℕ, Bool, ◌&&◌, nat_le}
use Rattle.writeback_pixel.specs.Refusal.{Outcome, checked}

-- a count from 1 to 8
abbrev pub count_ok : ℕ → Bool
count_ok n = nat_le 1 n && nat_le n 8

-- number 11 where the count or one of the others is out of its range, else the value at the count
abbrev pub counted : {A : Type 0} → Bool → (ℕ → A) → A → ℕ → Outcome A
counted others value none n = checked (count_ok n && others) (value n) none
