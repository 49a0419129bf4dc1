use Rattle.std.proofs.Common.{◌≤◌, ◌<◌, rules}
use borrow.Author.Tests.{tests}
use Rattle.std.proofs.lemmas.Iterator.{cases_from_all, YieldsList-from_slice}
use Rattle.frame_draw.proofs.Refusals.{flags_by}
use Rattle.frame_draw.proofs.refusal.flags_ok.Goals as goal

pub returns : goal.returns
returns c =
    flags_by _ _
    (cases_from_all _ _ _ (λ x. x ≤ 1) (λ x. 1 < x) c.all.ensures.ran (YieldsList-from_slice c.args.present.now cc) (λ x q k. search (rules, tests)) (λ x q k. search (rules, tests)))
