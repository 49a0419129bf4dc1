-- To be believed. What a word read is asked for: a pixel, and a format as a call is given it. Definitions only.
use Rattle.std.specs.Prelude.{ℕ}
use Rattle.words_read.specs.declared.Format.{Format}
use Rattle.words_read.specs.Read.{ReadArgs, read_args}

abbrev pub args_of : Format → ℕ → ReadArgs
args_of format pixel = read_args pixel format.fmt format.siz format.rgb_dither format.encoding
