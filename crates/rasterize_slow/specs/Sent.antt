-- Inner vocabulary. What a part of a walk does with the pixels that it emits. Definitions only.
use Rattle.std.specs.Prelude.{ℕ, ◌≡◌, List, length, min}
use Rattle.raster_pixel.specs.Emitted.{Emit}

-- a count as far as 64 bits go
abbrev pub counted : ℕ → ℕ
counted n = min n 18446744073709551615

-- a sink, of which `took` says what pixels do to it, took these, and they were counted
pub record Sent {S : Type 0} (took : List Emit → S → S → Type 0) (es : List Emit) (before after : S) (n : ℕ) : Type 0 where
  pub taken : took es before after
  pub count : n ≡ counted (length es)
