use mathlib.Core.Path.{sym, ◌∙◌}
use borrow.Author.Rules.{rules}
use mathlib.Core.Logic.{inl, inr}
use Rattle.frame.proofs.Tests.{stops}
use Rattle.frame.proofs.Refusals.{same_part, part_decides, parts_less, parts_done}
use Rattle.frame.proofs.refusal.Marked.parts_ok.Goals as goal

-- the parts are of one length
pub invariant_of-part : goal.invariant_of-part
invariant_of-part c =
    let a = c.in-Some.ensures.steps.0.1 in
    let b = c.in-Some.ensures.steps.1.1 in
    record { alike = same_part c.loop-coverages.invariant.2 _ _ _ _ a.0 b.0 a.1 b.1 }

pub returns-then-not-part_ok : goal.returns-then-not-part_ok
returns-then-not-part_ok c =
    let a = c.in-Some.ensures.steps.0.1 in
    let b = c.in-Some.ensures.steps.1.1 in
    stops _ (sym c.part_ok.ensures ∙ c.if-not-part_ok.true) ∙ part_decides c.loop-coverages.invariant.2 _ _ _ _ a.0 b.0 a.1 b.1

pub loop-coverages-preserved : goal.loop-coverages-preserved
loop-coverages-preserved c =
    let s = c.in-Some.ensures.steps in
    let a = s.0.1 in
    let b = s.1.1 in (
      search rules,
      tt,
      parts_less c.loop-coverages.invariant.2 _ _ _ _ a.0 b.0 a.1 b.1 s.0.0 s.1.0 (sym c.part_ok.ensures ∙ c.if-not-part_ok.false),
    )

pub returns : goal.returns
returns c = parts_done c.loop-coverages.invariant.2 (elim c.in-None.ensures.steps [ inl p ↦ inl p.1.1.0 | inr p ↦ inr p.1.1.0 ])
