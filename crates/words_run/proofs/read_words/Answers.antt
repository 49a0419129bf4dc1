-- Turned away as a whole, number 1 to 3 for every entry, or the entries whose pixels are there and number 8 for the others.
use Prim.Native.Nat.{◌-◌, min}
use mathlib.Core.Path.{◌≡◌}
use lib.ListN.{length}
use Rattle.frame.specs.Shown.{seen}
use Rattle.frame.proofs.Fits.{seen_good}
use native.Mathlib.Omega.{arith}
use Rattle.std.proofs.lemmas.Grind.{common_steps}
use Rattle.frame.specs.Frame.{frame_of}
use Rattle.words_read.specs.Format.{args_of}
use Rattle.refused.proofs.Numbers.{positive}
use Rattle.words_run.proofs.Ran.{run_unmatched, run_refused, run_read}
use Rattle.words_run.proofs.read_words.Goals as goal

pub returns-then-words-count-clause-answer : goal.returns-then-words-count-clause-answer
returns-then-words-count-clause-answer c =
    let a = c.args in
    let r = args_of a.format a.first in
    run_unmatched r _ _ _ c.if-words-count.true

pub returns-in-Err-clause-answer : goal.returns-in-Err-clause-answer
returns-in-Err-clause-answer c =
    let a = c.args in
    let r = args_of a.format a.first in
    let f = frame_of a.colors.now a.coverages.now a.marks.now in
    let e = run_refused r a.width a.height f {ws₀ = a.words.now} {ns₀ = a.numbers.now} c.if-words-count.false c.in-Err.ensures.number (positive c.in-Err.refusal) c.fill.ensures.entries in
    grind (arith, common_steps)

pub returns-clause-answer : goal.returns-clause-answer
returns-clause-answer c =
    let a = c.args in
    let f = c.in-Ok.frame in
    let r = args_of a.format a.first in
    let there : c.entries_there-there.result ≡ min (length a.numbers.now) (length (seen f).marks - a.first) = omega (arith, c.entries_there-there.ensures, c.pixels.ensures) in
    let e =
    run_read r f.width f.height (seen f) {ws₀ = a.words.now} {ns₀ = a.numbers.now} c.if-words-count.false (seen_good f) there
    (c.read_there-read.ensures.entries, c.read_there-read.ensures.count) c.fill-2.ensures.entries in
    grind (arith, common_steps)
