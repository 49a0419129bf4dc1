-- Inner vocabulary. The engine that C names by a number, and the format of its words. Definitions only.
use Rattle.std.specs.Prelude.{ℕ, Bool, [], ◌∷◌}
use Rattle.frame_draw.specs.declared.Engine.{Engine}
use Rattle.frame_draw.specs.declared.Engine.TheVariants.{Fast, Slow}
use Rattle.words_read.specs.declared.Format.{Format}
use Rattle.c_types.specs.Convert.{numbered, encoding_of}

-- 0 is the fast engine, and every other number the slow one
abbrev pub engine_of : ℕ → Engine
engine_of n = numbered (Fast ∷ []) Slow n

abbrev pub format_from : ℕ → ℕ → ℕ → Bool → Format
format_from fmt siz dither big = record { fmt = fmt; siz = siz; rgb_dither = dither; encoding = encoding_of big }
