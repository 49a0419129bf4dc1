-- By the law of a repeated element; to count 524,288 of them takes seconds and a gigabyte.
use Rattle.std.proofs.Common.{ℕ, sym}
use lib.ListN.{length-replicate}
use Rattle.replay_values.proofs.input.space.Goals as goal

pub returns-clause-room : goal.returns-clause-room
returns-clause-room c = sym (length-replicate {A = ℕ} 524288 0)
