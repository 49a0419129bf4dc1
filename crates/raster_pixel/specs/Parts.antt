-- To be believed. A list put together from numbered parts: the pixels of a row, the rows of a triangle, the triangles of a draw. Definitions only.
use Rattle.std.specs.Prelude.{ℕ, zero, suc, ◌+◌, ◌-◌, List, [], ◌++◌}

-- n parts from part i on, one after the other
unfoldable pub parts : {A : Type 0} → (ℕ → List A) → ℕ → ℕ → List A
parts c zero i = []
parts c (suc n) i = c i ++ parts c n (i + 1)

-- the parts from a up to b, b left out
abbrev pub from : {A : Type 0} → (ℕ → List A) → ℕ → ℕ → List A
from c a b = parts c (b - a) a
