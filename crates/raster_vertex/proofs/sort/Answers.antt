-- On the way to each answer the tests say which of the six orders `sorted` takes.
use mathlib.Core.Path.{◌≡◌, refl, sym, ◌∙◌}
use mathlib.Core.Bool.{Bool, true, false}
use mathlib.Core.List.{List}
use borrow.Author.Rules.{rules}
use lib.ListN.{length}
use Rattle.raster_vertex.specs.declared.Vertex.{Vertex}
use Rattle.raster_vertex.specs.Sorted.{vertex_at, at_or_before, sorted}
use Rattle.raster_vertex.proofs.Three.{ordered, sorted_three}
use Rattle.raster_vertex.proofs.sort.Goals as goal

-- `sorted` of the argument, from what the three tests answer
known : (v : List Vertex) → length v ≡ 3 → (bc ab ac : Bool)
    → bc ≡ at_or_before (vertex_at v 1) (vertex_at v 2) → ab ≡ at_or_before (vertex_at v 0) (vertex_at v 1) → ac ≡ at_or_before (vertex_at v 0) (vertex_at v 2)
    → ordered bc ab ac (vertex_at v 0) (vertex_at v 1) (vertex_at v 2) ≡ sorted v
known v long bc ab ac p q r = (λ i. ordered (p i) (q i) (r i) (vertex_at v 0) (vertex_at v 1) (vertex_at v 2)) ∙ sorted_three v long

pub returns-then-at_or_before-2 : goal.returns-then-at_or_before-2
returns-then-at_or_before-2 c =
    let long : length c.args.v ≡ 3 = search rules in
    known c.args.v long true true _ (sym c.if-at_or_before.true ∙ c.at_or_before.ensures) (sym c.if-at_or_before-2.true ∙ c.at_or_before-then-at_or_before.ensures) refl

pub returns-then-at_or_before-3 : goal.returns-then-at_or_before-3
returns-then-at_or_before-3 c =
    let long : length c.args.v ≡ 3 = search rules in
    known c.args.v long true false true (sym c.if-at_or_before.true ∙ c.at_or_before.ensures) (sym c.if-at_or_before-2.false ∙ c.at_or_before-then-at_or_before.ensures)
    (sym c.if-at_or_before-3.true ∙ c.at_or_before-then-at_or_before-2.ensures)

pub returns-then-at_or_before : goal.returns-then-at_or_before
returns-then-at_or_before c =
    let long : length c.args.v ≡ 3 = search rules in
    known c.args.v long true false false (sym c.if-at_or_before.true ∙ c.at_or_before.ensures) (sym c.if-at_or_before-2.false ∙ c.at_or_before-then-at_or_before.ensures)
    (sym c.if-at_or_before-3.false ∙ c.at_or_before-then-at_or_before-2.ensures)

pub returns-then-at_or_before-4 : goal.returns-then-at_or_before-4
returns-then-at_or_before-4 c =
    let long : length c.args.v ≡ 3 = search rules in
    known c.args.v long false _ true (sym c.if-at_or_before.false ∙ c.at_or_before.ensures) refl (sym c.if-at_or_before-4.true ∙ c.at_or_before-2.ensures)

pub returns-then-at_or_before-5 : goal.returns-then-at_or_before-5
returns-then-at_or_before-5 c =
    let long : length c.args.v ≡ 3 = search rules in
    known c.args.v long false true false (sym c.if-at_or_before.false ∙ c.at_or_before.ensures) (sym c.if-at_or_before-5.true ∙ c.at_or_before-3.ensures)
    (sym c.if-at_or_before-4.false ∙ c.at_or_before-2.ensures)

pub returns : goal.returns
returns c =
    let long : length c.args.v ≡ 3 = search rules in
    known c.args.v long false false false (sym c.if-at_or_before.false ∙ c.at_or_before.ensures) (sym c.if-at_or_before-5.false ∙ c.at_or_before-3.ensures)
    (sym c.if-at_or_before-4.false ∙ c.at_or_before-2.ensures)
