-- The answer of a chain of tests: from the test that decides it, and those before it that do not. Assumes nothing.
use mathlib.Core.Path.{◌≡◌, sym, ◌∙◌}
use mathlib.Core.Bool.{Bool, true, false, cond, ◌||◌}

pub taken : {A : Type 0} (t : Bool) (x y : A) → t ≡ true → x ≡ cond t x y
taken t x y h = λ i. cond (sym h i) x y

pub passed : {A : Type 0} (t : Bool) (x y : A) {z : A} → t ≡ false → z ≡ y → z ≡ cond t x y
passed t x y h e = e ∙ (λ i. cond (sym h i) x y)

pub or_next : {s t r : Bool} → s ≡ false → t ≡ r → s || t ≡ r
or_next g h = λ i. g i || h i
