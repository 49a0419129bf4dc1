-- To be believed. A depth as a 16-bit word. Source: the N64 Programming Manual's Z buffer format, a floating format of eight ranges, and
-- docs/RULES.md, Packing, for `pack_depth`, whose Rust cannot be had; that the depth is cut and not rounded is a reading (docs/DECISIONS.md). Definitions only.
use Rattle.std.specs.Prelude.{ℕ, ◌+◌, ◌-◌, ◌*◌, ◌/◌, ◌^◌, ◌<◌, ◌≤◌, List, [], ◌∷◌, nat_le, Float, if◌then◌else◌}
use Rattle.num_float.specs.Whole.{whole}

-- The largest depth of eighteen bits
abbrev pub deepest : ℕ
deepest = 0x3ffff

-- The depths of one exponent: the first of them, and how many low bits are cut off
pub record Range : Type 0 where
  pub exponent : ℕ
  pub first : ℕ
  pub shift : ℕ

abbrev pub range : ℕ → ℕ → ℕ → Range
range exponent first shift = record { exponent = exponent; first = first; shift = shift }

-- The manual's table
abbrev pub lowest : Range
lowest = range 0 0x00000 6

abbrev pub ranges : List Range
ranges =
    lowest
    ∷ range 1 0x20000 5
    ∷ range 2 0x30000 4
    ∷ range 3 0x38000 3
    ∷ range 4 0x3c000 2
    ∷ range 5 0x3e000 1
    ∷ range 6 0x3f000 0
    ∷ range 7 0x3f800 0
    ∷ []

-- A depth lies in a range where what is left of its distance from the first is a mantissa of eleven bits
abbrev pub Within : Range → ℕ → Type 0
Within r d = (r.first ≤ d) × ((d - r.first) / 2 ^ r.shift < 2048)

-- The last range of the table whose first depth is at or below d
unfoldable pub last_from : Range → List Range → ℕ → Range
last_from r [] d = r
last_from r (s ∷ rs) d = last_from (if nat_le s.first d then s else r) rs d

unfoldable pub range_of : ℕ → Range
unfolding last_from
range_of d = last_from lowest ranges d

-- Three bits of exponent, eleven of mantissa, and two that stay 0
abbrev pub word_in : Range → ℕ → ℕ
word_in r d = (d - r.first) / 2 ^ r.shift * 4 + 8192 * r.exponent

unfoldable pub depth_word : ℕ → ℕ
unfolding range_of
depth_word d = word_in (range_of d) d

-- A float's depth in eighteen bits: 262,144ths, cut to a whole number. A NaN and what is below zero give 0, and 1.0 or more gives the largest.
abbrev pub units : ℕ → ℕ → ℕ
units a b = a * 262144 / b

unfoldable pub depth_of : Float → ℕ
depth_of x = whole units deepest x

unfoldable pub pack_depth_of : Float → ℕ
unfolding depth_word depth_of
pack_depth_of x = depth_word (depth_of x)
