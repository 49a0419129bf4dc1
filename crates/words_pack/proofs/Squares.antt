-- The squares' words hold their entries, four bits each: one test computes that of a whole square. Assumes nothing.
use Rattle.std.proofs.Common.{◌≡◌, ℕ, zero, suc, ◌+◌, ◌*◌, ◌/◌, ◌^◌, ◌<◌, Bool, true, ◌&&◌, T, eqb, List, [], ◌∷◌, length, get_or, ap, ◌∙◌, le_of_suc-le-suc, not-suc-le-zero, add-zero, zero-add, arith, eqb→eq}
use lib.Bits.{bit_and, and_mask}
use lib.Ieee.Fits.{and_l, and_r}
use Rattle.num_bits.specs.Field.{field}
use Rattle.words_pack.specs.Dither.{magic, bayer}

abbrev holds : ℕ → ℕ → List ℕ → Bool
holds w j [] = true
holds w j (e ∷ es) = eqb (field w (4 * j) 3) e && holds w (suc j) es

held : (w j : ℕ) (es : List ℕ) → T (holds w j es) → (k : ℕ) → k < length es → field w (4 * (k + j)) 3 ≡ get_or es k 0
held w j [] t k h = absurd (not-suc-le-zero h)
held w j (e ∷ es) t zero h = ap (λ (n : ℕ). field w (4 * n) 3) (zero-add j) ∙ eqb→eq (field w (4 * j) 3) e (and_l (eqb (field w (4 * j) 3) e) (holds w (suc j) es) t)
held w j (e ∷ es) t (suc k) h =
    let step : suc k + j ≡ k + suc j = omega arith in
    ap (λ (n : ℕ). field w (4 * n) 3) step ∙ held w (suc j) es (and_r (eqb (field w (4 * j) 3) e) (holds w (suc j) es) t) k (le_of_suc-le-suc h)

pub magic_entry : (k : ℕ) → k < 16 → field 0x0617425335247160 (4 * k) 3 ≡ get_or magic k 0
unfolding field
magic_entry k h = rw add-zero at (held 0x0617425335247160 0 magic tt k h)

pub bayer_entry : (k : ℕ) → k < 16 → field 0x2637627315045140 (4 * k) 3 ≡ get_or bayer k 0
unfolding field
bayer_entry k h = rw add-zero at (held 0x2637627315045140 0 bayer tt k h)

-- an entry as a shift and a mask give it
pub masked : (square k : ℕ) → bit_and (square / 2 ^ k) 7 ≡ field square k 3
unfolding field
masked square k = and_mask (square / 2 ^ k) 3
