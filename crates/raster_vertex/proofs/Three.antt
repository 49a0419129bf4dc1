-- `sorted` on three vertices, as the tests that `sort` makes: which of the six orders comes out, by three answers.
use mathlib.Core.Path.{◌≡◌, refl, sym, ap, ◌∙◌}
use mathlib.Core.Bool.{Bool, true, false, cond}
use mathlib.Core.List.{List, [], ◌∷◌}
use native.Mathlib.Omega.{arith}
use lib.ListN.{length}
use Rattle.raster_vertex.specs.declared.Vertex.{Vertex}
use Rattle.raster_vertex.specs.Sorted.{vertex_at, at_or_before, insert, sorted}

-- the order, by whether b is at or before c, a at or before b, and a at or before c
abbrev pub ordered : Bool → Bool → Bool → Vertex → Vertex → Vertex → List Vertex
ordered true ab ac a b c = cond ab (a ∷ b ∷ c ∷ []) (b ∷ cond ac (a ∷ c ∷ []) (c ∷ a ∷ []))
ordered false ab ac a b c = cond ac (a ∷ c ∷ b ∷ []) (c ∷ cond ab (a ∷ b ∷ []) (b ∷ a ∷ []))

-- a list of three is its three elements
three : (v : List Vertex) → length v ≡ 3 → v ≡ vertex_at v 0 ∷ vertex_at v 1 ∷ vertex_at v 2 ∷ []
three [] h = absurd (omega arith)
three (a ∷ []) h = absurd (omega arith)
three (a ∷ b ∷ []) h = absurd (omega arith)
three (a ∷ b ∷ c ∷ []) h = refl
three (a ∷ b ∷ c ∷ d ∷ v) h = absurd (omega arith)

inserted : (bc : Bool) (a b c : Vertex) → ordered bc (at_or_before a b) (at_or_before a c) a b c ≡ insert a (cond bc (b ∷ c ∷ []) (c ∷ b ∷ []))
unfolding insert
inserted true a b c = refl
inserted false a b c = refl

pub sorted_three : (v : List Vertex) → length v ≡ 3
    → (let a = vertex_at v 0 in let b = vertex_at v 1 in let c = vertex_at v 2 in ordered (at_or_before b c) (at_or_before a b) (at_or_before a c) a b c ≡ sorted v)
unfolding insert sorted
sorted_three v h =
    let a = vertex_at v 0 in
    let b = vertex_at v 1 in
    let c = vertex_at v 2 in
    inserted (at_or_before b c) a b c ∙ ap sorted (sym (three v h))
