-- To be believed. Floats to whole numbers: what the port's roundings and indices are, on the exact value of a float. Definitions only.
-- `fin s m e` has the size m * up e / down e.
use Rattle.std.specs.Prelude.{ℕ, ◌+◌, ◌*◌, ◌/◌, ◌-◌, min, false, ℤ, pos, neg_ℤ, Float, if◌then◌else◌}
use Rattle.std.specs.Float.{nan, inf, fin, binary32}
use Rattle.std.specs.Float.Ieee.{up, down, mul}
use Rattle.num_float.specs.Color.{clamped}

-- 255.0
abbrev pub f255 : Float
f255 = fin false 255 (pos 0)

-- a / b as a whole number: the nearest one, halves up, which is the floor of a / b + 1 / 2; the floor; the ceiling
abbrev pub near : ℕ → ℕ → ℕ
near a b = (a * 2 + b) / (b * 2)

abbrev pub floor : ℕ → ℕ → ℕ
floor a b = a / b

abbrev pub ceil : ℕ → ℕ → ℕ
ceil a b = (a + (b - 1)) / b

-- A float's size by one of these, at most `cap`. A NaN and what is below zero give 0, as Rust's `.max(0.0) as usize` and its `as u8` do.
abbrev pub whole : (ℕ → ℕ → ℕ) → ℕ → Float → ℕ
whole g cap nan = 0
whole g cap (inf s) = if s then 0 else cap
whole g cap (fin s m e) = if s then 0 else min (g (m * up e) (down e)) cap

-- Indices are cut off here: above every index of a frame (1,024) and of a scissor (65,535 + 65,535)
abbrev pub index_cap : ℕ
index_cap = 131072

-- Rust's (v.clamp(0.0, 1.0) * 255.0).round() as u8
abbrev pub byte_of : Float → ℕ
byte_of v = whole near 255 (mul binary32 (clamped v) f255)

-- Rust's (f64::from(x) * 4.0).round() as i64, cut off at 65536 either way: 4 x, halves away from zero
abbrev pub quarter_of : Float → ℤ
quarter_of nan = pos 0
quarter_of (inf s) = if s then neg_ℤ (pos 65536) else pos 65536
quarter_of (fin s m e) =
    let n = min (near (m * up e * 4) (down e)) 65536 in
    if s then neg_ℤ (pos n) else pos n
