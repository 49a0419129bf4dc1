-- Each answer by the tests that led to it.
use Prim.Native.Nat.{ℕ, ◌≤◌}
use mathlib.Core.Path.{◌≡◌, refl, sym, ◌∙◌}
use mathlib.Core.Bool.{Bool}
use lib.IntN.{pos}
use lib.Signed.{lt_z, le_z}
use mir.Syntax.{w64}
use mir.Val.{to_z, of_z}
use Rattle.raster_edges.specs.declared.Tri.{Tri}
use Rattle.raster_edge.specs.Span.{span_of}
use Rattle.raster_edges.specs.Limits.{TameTri}
use Rattle.raster_edges.specs.Span.{line_of, pick_span, no_span}
use Rattle.raster_edge.proofs.Held.{Held, small, uns, lt_is, le_is}
use Rattle.raster_edges.proofs.line_at.Goals as goal
use Rattle.raster_edges.proofs.line_at.Goals.{then-n-t, else-n-t}

-- the three tests, of the numbers themselves
module _ (t : Tri) (n : ℕ) (tame : TameTri t) (low : n ≤ 16384) where
  at : Held n (pos n) 16384
  at = uns low tt

  above : {b : Bool} → lt_z (to_z w64 n) (to_z w64 (of_z w64 t.top)) ≡ b → b ≡ lt_z (pos n) t.top
  above e = sym e ∙ lt_is at (small t.top tame.top_small tt)

  past : {b : Bool} → le_z (to_z w64 (of_z w64 t.end)) (to_z w64 n) ≡ b → b ≡ le_z t.end (pos n)
  past e = sym e ∙ le_is (small t.end tame.end_small tt) at

  inner : {b : Bool} → lt_z (to_z w64 n) (to_z w64 (of_z w64 t.mid)) ≡ b → b ≡ lt_z (pos n) t.mid
  inner e = sym e ∙ lt_is at (small t.mid tame.mid_small tt)

  -- by what the three say
  by : {a b c : Bool} → a ≡ lt_z (pos n) t.top → b ≡ le_z t.end (pos n) → c ≡ lt_z (pos n) t.mid
      → pick_span a no_span (pick_span b no_span (pick_span c (span_of t.major t.upper t.rightward n) (span_of t.major t.lower t.rightward n))) ≡ line_of t n
  unfolding line_of
  by p q r = λ i. pick_span (p i) no_span (pick_span (q i) no_span (pick_span (r i) (span_of t.major t.upper t.rightward n) (span_of t.major t.lower t.rightward n)))

pub returns-then-t-n : goal.returns-then-t-n
returns-then-t-n c =
    let t = c.args.t in
    let n = c.args.scan in
    elim c.if-n-t.branch [
      | then-n-t w ↦ by t n c.requires.0 c.requires.1 (above t n c.requires.0 c.requires.1 w.if-n-t.true) refl refl
      | else-n-t w ↦
          by t n c.requires.0 c.requires.1 (above t n c.requires.0 c.requires.1 w.if-n-t.false) (past t n c.requires.0 c.requires.1 (sym w.value-is ∙ c.if-t-n.true)) refl
    ]

pub returns-then-n-t-2 : goal.returns-then-n-t-2
returns-then-n-t-2 c =
    let t = c.args.t in
    let n = c.args.scan in
    elim c.if-n-t.branch [
      | then-n-t w ↦ cc
      | else-n-t w ↦
          c.span_at.ensures
          ∙ by t n c.requires.0 c.requires.1 (above t n c.requires.0 c.requires.1 w.if-n-t.false) (past t n c.requires.0 c.requires.1 (sym w.value-is ∙ c.if-t-n.false))
          (inner t n c.requires.0 c.requires.1 c.if-n-t-2.true)
    ]

pub returns-else-n-t-2 : goal.returns-else-n-t-2
returns-else-n-t-2 c =
    let t = c.args.t in
    let n = c.args.scan in
    elim c.if-n-t.branch [
      | then-n-t w ↦ cc
      | else-n-t w ↦
          c.span_at-else-n-t-2.ensures
          ∙ by t n c.requires.0 c.requires.1 (above t n c.requires.0 c.requires.1 w.if-n-t.false) (past t n c.requires.0 c.requires.1 (sym w.value-is ∙ c.if-t-n.false))
          (inner t n c.requires.0 c.requires.1 c.if-n-t-2.false)
    ]
