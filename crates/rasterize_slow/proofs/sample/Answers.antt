use Rattle.std.proofs.Common.{◌≡◌, ℕ, ◌+◌, ◌*◌, ◌%◌, Bool, ◌&&◌, sym, ap, ◌∙◌, rules, arith, ℤ}
use Rattle.std.proofs.lemmas.Grind.{common_steps}
use lib.Bits.{bit_and, and_mask}
use Rattle.raster_edge.specs.declared.Span.{Span}
use Rattle.raster_edges.specs.Sample.{inside}
use Rattle.raster_rectangle.specs.declared.Sides.{Sides}
use Rattle.raster_rectangle.specs.Rectangle.{quarters, within_of, inside_of, sample_x, sample_y}
use Rattle.rasterize_slow.specs.Shape.{sample_hit}
use Rattle.rasterize_slow.proofs.sample.Goals as goal

-- between two edges, however they were reckoned
between : {l r : ℤ} {m n : ℕ} {s : Span} {d : Bool} → l ≡ s.l → r ≡ s.r → m ≡ n → inside s.l s.r n ≡ d → inside l r m ≡ d
between left right at e = (λ i. inside (left i) (right i) (at i)) ∙ e

pub returns-in-Some-Triangle : goal.returns-in-Some-Triangle
unfolding sample_hit
returns-in-Some-Triangle c =
    let a = c.args in
    let at = ap (λ (n : ℕ). a.x * 8 + n * 2 + a.side * 4) (and_mask a.line 1) in
    rw c.in-Some-Triangle.is (rw (rw c.in-Some-Triangle.is at c.in-Some-Triangle.field-0-is) (c.inside.ensures ∙ between (search rules) (grind (arith, common_steps)) at (ap (λ (s : Span). inside s.l s.r (a.x * 8 + a.line % 2 * 2 + a.side * 4)) c.line_at-span.ensures)))

-- a line's odd quarter, by the bit that says so
across : (s : Sides) (x line side : ℕ) → within_of s.left s.right (quarters (x * 4 + (bit_and line 1 + side * 2))) ≡ within_of s.left s.right (sample_x x line side)
across s x line side = ap (λ (n : ℕ). within_of s.left s.right (quarters (x * 4 + (n + side * 2)))) (and_mask line 1)

pub returns-then-quarter_within : goal.returns-then-quarter_within
unfolding sample_hit inside_of
returns-then-quarter_within c =
    let a = c.args in
    let s = c.in-Some-Rectangle.sides in
    rw c.in-Some-Rectangle.is (rw (rw c.in-Some-Rectangle.is at c.in-Some-Rectangle.field-0-is) (c.quarter_within-then-quarter_within.ensures ∙ ap (λ (b : Bool). b && within_of s.top s.bottom (sample_y a.y a.line)) (sym c.if-quarter_within.true ∙ c.quarter_within.ensures ∙ across s a.x a.line a.side)))

pub returns-else-quarter_within : goal.returns-else-quarter_within
unfolding sample_hit inside_of
returns-else-quarter_within c =
    let a = c.args in
    let s = c.in-Some-Rectangle.sides in
    rw c.in-Some-Rectangle.is (rw (rw c.in-Some-Rectangle.is at c.in-Some-Rectangle.field-0-is) (c.if-quarter_within.false ∙ ap (λ (b : Bool). b && within_of s.top s.bottom (sample_y a.y a.line)) (sym c.if-quarter_within.false ∙ c.quarter_within.ensures ∙ across s a.x a.line a.side)))
