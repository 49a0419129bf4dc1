-- To be believed. Mark bytes: mark 1 says that a pixel's colour is known, mark 2 that its coverage is; a mark byte is their sum. Definitions only.
-- Source: docs/RULES.md, The frame. Bytes above 3 are read the same way: odd, and the remainder by 4.
use Rattle.std.specs.Prelude.{ℕ, ◌+◌, ◌%◌, Bool, true, false, None, Some, if◌then◌else◌, ◌==◌, nat_le}
use Rattle.blender.specs.Coverage.{Coverage}

-- the highest mark byte: number 3 turns a frame with a higher one away
abbrev pub highest_mark : ℕ
highest_mark = 3

abbrev pub color_marked : ℕ → Bool
color_marked mark = mark % 2 == 1

abbrev pub coverage_marked : ℕ → Bool
coverage_marked mark = nat_le 2 (mark % 4)

-- what is known of a coverage byte
abbrev pub coverage_of : ℕ → ℕ → Coverage
coverage_of mark coverage = if coverage_marked mark then Some coverage else None

abbrev pub unknown : Coverage → Bool
unknown None = true
unknown (Some c) = false

-- the mark byte of a colour and of a coverage, each known or not
unfoldable pub mark_of : Bool → Bool → ℕ
mark_of known covered = (if known then 1 else 0) + (if covered then 2 else 0)
