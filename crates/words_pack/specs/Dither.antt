-- To be believed. The thresholds of ordered dithering, by the pixel's place in a square of 4 x 4. Source: the N64 Programming Manual's RGB dither
-- modes (0 magic square, 1 Bayer, 2 noise, 3 none) and N64brew's RDP pages for the two squares. Definitions only.
use Rattle.std.specs.Prelude.{ℕ, ◌+◌, ◌*◌, ◌%◌, ◌||◌, List, [], ◌∷◌, ◌==◌, slice_index, if◌then◌else◌}

-- four rows of four
abbrev pub magic : List ℕ
magic = 0 ∷ 6 ∷ 1 ∷ 7 ∷ 4 ∷ 2 ∷ 5 ∷ 3 ∷ 3 ∷ 5 ∷ 2 ∷ 4 ∷ 7 ∷ 1 ∷ 6 ∷ 0 ∷ []

abbrev pub bayer : List ℕ
bayer = 0 ∷ 4 ∷ 1 ∷ 5 ∷ 4 ∷ 0 ∷ 5 ∷ 1 ∷ 3 ∷ 7 ∷ 2 ∷ 6 ∷ 7 ∷ 3 ∷ 6 ∷ 2 ∷ []

-- the place in a square of the pixel in column x and row y, and its entry
abbrev pub place_of : ℕ → ℕ → ℕ
place_of x y = y % 4 * 4 + x % 4

abbrev pub entry_at : List ℕ → ℕ → ℕ → ℕ
entry_at square x y = slice_index square (place_of x y)

-- Noise has no reproducible guest RNG and takes the magic square, as the Rust does. No three bits are above 7.
unfoldable pub threshold_of : ℕ → ℕ → ℕ → ℕ
threshold_of mode x y = if mode == 0 || mode == 2 then entry_at magic x y else if mode == 1 then entry_at bayer x y else 7
