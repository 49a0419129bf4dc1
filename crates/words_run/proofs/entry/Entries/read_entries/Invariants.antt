-- The two loans stay; the entries up to this one are written, the place is that of its pixel, and the count is theirs (`Along`).
use Prim.Native.Nat.{ℕ, ◌+◌}
use lib.ListN.{length}
use Rattle.frame.specs.Shown.{seen}
use Rattle.words_run.specs.Entries.{answer_in}
use Rattle.words_run.specs.Written.{entries_in, Same}
use Rattle.words_run.proofs.Along.{Along}
use Rattle.words_run.proofs.entry.Entries.read_entries.Given as goal

abbrev pub invariant-loop-i : goal.invariant-loop-i
invariant-loop-i l =
    Same l.initial.self l.self
    × Along (λ (j : ℕ). answer_in l.width l.format.siz l.format.rgb_dither l.format.encoding (seen l.frame) (l.first + j)) l.width l.first l.count
    (length l.initial.self.numbers.now) (entries_in l.initial.self) l.i (entries_in l.self) l.n l.place
