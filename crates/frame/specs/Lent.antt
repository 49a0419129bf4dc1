-- To be believed. What a contract sees of lent slices: what they hold before the call and after it, and the frame that three of them are. Definitions only. Source: docs/RULES.md,
-- The frame.
use Rattle.std.specs.Prelude.{ℕ, List}
use Rattle.std.specs.Borrow.{Bor, MutBor}
use denote.Triple.Both.{Both}
use Rattle.frame.specs.Frame.{Frame, frame_of}

-- a slice that is lent to be written, in an `ensures`: as it was lent and as it is given back
abbrev pub Slice : Type 0 → Type 0
Slice A = Both (MutBor (List A)) (MutBor (List A))

abbrev pub old : {A : Type 0} → Slice A → List A
old s = s.entry.now

abbrev pub new : {A : Type 0} → Slice A → List A
new s = s.exit.now

-- and one that is lent to be read
abbrev pub Shown : Type 0 → Type 0
Shown A = Both (Bor (List A)) (Bor (List A))

abbrev pub shown : {A : Type 0} → Shown A → List A
shown s = s.entry.now

-- a frame that is lent to be written, in a `requires`; one that is lent to be read is `frame_of` of what its slices hold
abbrev pub lent : MutBor (List ℕ) → MutBor (List ℕ) → MutBor (List ℕ) → Frame
lent colors coverages marks = frame_of colors.now coverages.now marks.now

-- and in an `ensures`
abbrev pub before : Slice ℕ → Slice ℕ → Slice ℕ → Frame
before colors coverages marks = lent colors.entry coverages.entry marks.entry

abbrev pub after : Slice ℕ → Slice ℕ → Slice ℕ → Frame
after colors coverages marks = lent colors.exit coverages.exit marks.exit
