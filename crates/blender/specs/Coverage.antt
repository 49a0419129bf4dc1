-- To be believed. Coverage: when a pixel blends, and what memory keeps of its samples. Definitions only.
-- Source: N64 Programming Manual, RDP chapter, the blender and the coverage unit; N64brew wiki, Reality Display Processor, Set Other Modes
-- (force_blend, antialias_en, cvg_dest). Memory has three bits of coverage: c stands for c + 1 of the 8 samples of a pixel.
use Rattle.std.specs.Prelude.{ℕ, ◌+◌, ◌-◌, ◌%◌, min, Bool, false, not, ◌&&◌, ◌||◌, Option, Some, None, if◌then◌else◌, nat_le}
use Rattle.state.specs.declared.RenderMode.{RenderMode}
use Rattle.blender.specs.Mux.{pick}

-- a pixel's coverage in memory, if it is known
abbrev pub Coverage : Type 0
Coverage = Option ℕ

-- n samples and the c + 1 of memory are more than 8: bit 3 of n + c, which is at most 15
abbrev pub overflow : ℕ → ℕ → Bool
overflow n c = nat_le 8 (n + c)

-- an unknown coverage is taken not to overflow
abbrev pub overflows : ℕ → Coverage → Bool
overflows n None = false
overflows n (Some c) = overflow n c

-- a pixel with n samples is blended: always if it is forced, and with antialiasing where the samples do not overflow
unfoldable pub blends : RenderMode → ℕ → Coverage → Bool
blends mode n coverage = mode.force_blend || (mode.antialias && not (overflows n coverage))

-- clamp: the sum, at most full, if the pixel is blended; else the pixel's own samples
unfoldable pub clamp_of : Bool → ℕ → ℕ → ℕ
clamp_of blend n c = if blend then min (n + c) 7 else n - 1

-- cvg_dest: clamp, wrap, full, save. A cvg_dst above 3 is as save
unfoldable pub destination_of : RenderMode → ℕ → ℕ → ℕ
destination_of mode n c = pick mode.cvg_dst (clamp_of (blends mode n (Some c)) n c) ((n + c) % 8) 7 c
