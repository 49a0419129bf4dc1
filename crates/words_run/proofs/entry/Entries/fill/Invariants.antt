-- The two loans stay, and the entries from `start` up to this one are written.
use Rattle.std.specs.Prelude.{ℕ, ◌≤◌}
use Rattle.refused.specs.Numbers.{number_of}
use Rattle.words_run.specs.Entries.{refused_by}
use Rattle.words_run.specs.Written.{Same, WroteIn}
use Rattle.words_run.proofs.entry.Entries.fill.Given as goal

abbrev pub invariant-loop-i : goal.invariant-loop-i
invariant-loop-i l = Same l.initial.self l.self × ((l.start ≤ l.i) × WroteIn (λ (i : ℕ). refused_by (number_of l.fn.refusal)) l.start l.i l.initial.self l.self)
