-- The two bits of a row are below 4, and how they and the four rows are put together by shifts. Assumes nothing.
use Prim.Native.Nat.{ℕ, ◌+◌, ◌*◌, ◌%◌, ◌^◌, ◌<◌}
use mathlib.Core.Path.{◌≡◌, ap, ◌∙◌}
use mathlib.Core.Bool.{Bool, true, false}
use native.Mathlib.Omega.{arith}
use lib.Bits.{bit_or}
use lib.ListN.{get_or}
use lib.IntN.{ℤ, pos}
use Rattle.raster_edge.proofs.Bits.{or_next}
use Rattle.raster_edges.specs.declared.Edges.{Edges}
use Rattle.raster_edges.specs.Sample.{inside, bit_of, two_of, pair_of, sample_at}

pub bit_lt : (t : Bool) → bit_of t < 2
bit_lt true = omega arith
bit_lt false = omega arith

two_lt : (l r : ℤ) (n : ℕ) → two_of l r n < 4
unfolding two_of
two_lt l r n = omega (arith, bit_lt (inside l r n), bit_lt (inside l r (n + 4)))

pub pair_lt : (e : Edges) (x s : ℕ) → pair_of e x s < 4
unfolding pair_of
pair_lt e x s = two_lt (get_or e.left s (pos 0)) (get_or e.right s (pos 0)) (sample_at x s)

-- ---- four pairs, put together by shifts, as code does it
abbrev pub bits : ℕ → ℕ → ℕ → ℕ → ℕ
bits a b c d = bit_or (bit_or (bit_or ((a * 64) % 2 ^ 8) ((b * 16) % 2 ^ 8)) ((c * 4) % 2 ^ 8)) d

pub four_pairs : (a b c d : ℕ) → a < 4 → b < 4 → c < 4 → d < 4 → bits a b c d ≡ 64 * a + 16 * b + 4 * c + d
four_pairs a b c d ha hb hc hd =
    let e₁ : bit_or ((a * 64) % 2 ^ 8) ((b * 16) % 2 ^ 8) ≡ 64 * a + 16 * b = or_next 6 ((a * 64) % 2 ^ 8) ((b * 16) % 2 ^ 8) (omega arith) (omega arith) ∙ omega arith in
    let e₂ : bit_or (64 * a + 16 * b) ((c * 4) % 2 ^ 8) ≡ 64 * a + 16 * b + 4 * c = or_next 4 (64 * a + 16 * b) ((c * 4) % 2 ^ 8) (omega arith) (omega arith) ∙ omega arith in
    ap (λ (t : ℕ). bit_or (bit_or t ((c * 4) % 2 ^ 8)) d) e₁ ∙ ap (λ (t : ℕ). bit_or t d) e₂ ∙ or_next 2 (64 * a + 16 * b + 4 * c) d (omega arith) (omega arith)
