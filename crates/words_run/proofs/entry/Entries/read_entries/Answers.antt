use mathlib.Core.Path.{◌∙◌, ap}
use native.Mathlib.Omega.{arith}
use borrow.Author.Rules.{rules}
use Rattle.frame.specs.Shown.{seen}
use Rattle.words_read.specs.Read.{WordAnswer}
use Rattle.words_run.specs.Run.{one_if}
use Rattle.words_run.proofs.Answers.{counts}
use Rattle.words_run.proofs.Columns.{answer_here}
use Rattle.words_run.proofs.Along.{along_fits, along_more}
use Rattle.words_run.proofs.entry.Entries.read_entries.Goals as goal

pub overflow_add-n : goal.overflow_add-n
overflow_add-n c =
    let a = c.args in
    let l = c.loop-i in
    let e = answer_here l.invariant.1.place a.format.siz a.format.rgb_dither a.format.encoding (seen a.frame.now) in
    let n = counts c.read-answer.result c.from-n.ensures c.is_ok.ensures.value in
    let h = along_fits _ _ _ _ _ _ c.loop-i-test.true l.invariant.1 (n ∙ ap (λ (x : WordAnswer). one_if x.number) (c.read-answer.ensures ∙ e)) in
    record { fits = omega (arith, h, c.ranges.count.fits) }

pub loop-i-preserved : goal.loop-i-preserved
loop-i-preserved c =
    let a = c.args in
    let l = c.loop-i in
    let e = answer_here l.invariant.1.place a.format.siz a.format.rgb_dither a.format.encoding (seen a.frame.now) in
    let n = counts c.read-answer.result c.from-n.ensures c.is_ok.ensures.value in (
      search rules,
      along_more _ _ _ _ _ _ c.loop-i-test.true l.invariant.1 c.requires.within (c.read-answer.ensures ∙ e) c.put.ensures.entry n c.next-place.ensures,
    )
