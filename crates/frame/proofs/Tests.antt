-- Laws of tests: a chain of checks that ends at one that fails, or goes on. Assumes nothing.
use mathlib.Core.Path.{◌≡◌, sym}
use mathlib.Core.Bool.{Bool, true, false, ◌&&◌}

pub stops : {a : Bool} (b : Bool) → a ≡ false → false ≡ (a && b)
stops b h = λ i. sym h i && b

pub goes_on : {a b r : Bool} → a ≡ true → r ≡ b → r ≡ (a && b)
goes_on h e = λ i. sym h i && e i
