-- Inner vocabulary. What a call does to the entries that it is lent. Definitions only.
use Rattle.std.specs.Prelude.{ℕ, ◌≡◌, length}
use Rattle.words_read.specs.Read.{WordAnswer}
use Rattle.words_run.specs.declared.entry.Entries as lent
use Rattle.words_run.specs.Entries.{Entries, entries_of, put_entry, Wrote}

abbrev pub entries_in : lent.Entries → Entries
entries_in s = entries_of s.words.now s.numbers.now

-- they stay the same two loans
pub record Same (s t : lent.Entries) : Type 0 where
  pub words : t.words.ghost_name ≡ s.words.ghost_name
  pub numbers : t.numbers.ghost_name ≡ s.numbers.ghost_name

-- one entry is written
abbrev pub PutIn : ℕ → WordAnswer → lent.Entries → lent.Entries → Type 0
PutIn i x s t = entries_in t ≡ put_entry (entries_in s) i x

-- entries lo to hi - 1 are written
abbrev pub WroteIn : (ℕ → WordAnswer) → ℕ → ℕ → lent.Entries → lent.Entries → Type 0
WroteIn answer lo hi s t = Wrote answer lo hi (length s.numbers.now) (entries_in s) (entries_in t)
