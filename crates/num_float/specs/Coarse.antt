-- Inner vocabulary. Values whose digits end early enough for the sum that rounds them. Definitions only.
use Rattle.std.specs.Prelude.{ℕ, ◌*◌, ◌^◌, ◌<◌, ◌≡◌, ◌⊎◌}

-- a / b is a multiple of 2 ^ -26, or below 1 / 8, as an f32 is: other f64s lie so close below a half that a sum takes them for one
abbrev pub Coarse : ℕ → ℕ → Type 0
Coarse a b = ((q : ℕ) × (a * 2 ^ 26 ≡ q * b)) ⊎ (8 * a < b)
