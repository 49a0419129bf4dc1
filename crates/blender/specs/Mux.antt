-- To be believed. The blender's multiplexer: the four selectors of a blend (a * p + b * m) / (a + b). Definitions only.
-- Source: N64 Programming Manual, RDP chapter, the blender; N64brew wiki, Reality Display Processor, Set Other Modes. The first cycle's
-- selectors are bits 31:30, 27:26, 23:22 and 19:18 of the other mode's low word; the 16-bit mux is that word's upper half.
use Rattle.std.specs.Prelude.{ℕ, if◌then◌else◌, ◌==◌}
use Rattle.num_bits.specs.Field.{field}
use Rattle.blender.specs.declared.Mux.{Mux}

-- P, A, M and B
unfoldable pub mux_of : ℕ → Mux
mux_of w = record { p = field w 14 2; a = field w 10 2; m = field w 6 2; b = field w 2 2 }

-- one of four; a number above 3 is as 3
abbrev pub pick : {A : Type 0} → ℕ → A → A → A → A → A
pick k a b c d = if k == 0 then a else if k == 1 then b else if k == 2 then c else d
