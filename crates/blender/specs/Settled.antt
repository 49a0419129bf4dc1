-- Inner vocabulary. The coverage that memory keeps whatever it had: the number that `destination` gives for every memory coverage 0 to 7, where it gives one.
-- Definitions only, for the code that decides it without asking eight times; that it is exactly so is proofs/Settled.
use Rattle.std.specs.Prelude.{ℕ, ◌-◌, Bool, Some, None, if◌then◌else◌, nat_le}
use Rattle.state.specs.declared.RenderMode.{RenderMode}
use Rattle.blender.specs.Coverage.{Coverage}
use Rattle.blender.specs.Mux.{pick}

-- full from this many samples on
abbrev pub full_from : ℕ → ℕ → Coverage
full_from least n = if nat_le least n then Some 7 else None

-- clamp, by force_blend and antialias: forced, the sum is cut at 7 from seven samples on; with antialiasing all eight samples overflow, and fewer may or may not; else
-- the pixel's own samples
abbrev pub settled_clamp : Bool → Bool → ℕ → Coverage
settled_clamp forced antialias n = if forced then full_from 7 n else if antialias then full_from 8 n else Some (n - 1)

-- cvg_dest: clamp, wrap, full, save. What is wrapped or saved turns on memory
unfoldable pub settled_of : RenderMode → ℕ → Coverage
settled_of mode n = pick mode.cvg_dst (settled_clamp mode.force_blend mode.antialias n) None (Some 7) None
