-- Inner vocabulary. What a part of a draw does, for the loops over pixels, rows and triangles. Definitions only.
use Rattle.std.specs.Prelude.{ℕ, ◌≡◌, length}
use mathlib.Core.List.{List, foldl}

-- what a part of a draw does that emits es: each pixel's step on the state in turn, and their count
pub record Ran {S E : Type 0} (step : S → E → S) (es : List E) (before after : S) (n : ℕ) : Type 0 where
  pub state : after ≡ foldl step before es
  pub count : n ≡ length es
