-- To be believed. The number of ones of a mask. Definitions only. Source: Rust's `count_ones`.
use Rattle.std.specs.Prelude.{ℕ}
use Rattle.std.specs.Int.Count.{ones}

-- how many of the binary digits of m are 1: how many of a pixel's eight samples its mask has
abbrev pub ones_of : ℕ → ℕ
ones_of m = ones m
