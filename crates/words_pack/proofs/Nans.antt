-- Which bit patterns are a NaN's: those above infinity's, the sign left out; and a NaN packs to 0. Assumes nothing.
use Rattle.std.proofs.Common.{◌≡◌, ℕ, ◌%◌, ◌<◌, ◌≤◌, Bool, true, not, T, sym, refl, ◌∙◌, subst, true≢false, le-ltb, lt-ltb}
use lib.Ieee.{Float, nan, inf, fin, binary32, is_nan, of_bits, nan_bits}
use lib.Ieee.Bits.{nan_bits_is, nan_bits_above}
use Rattle.words_pack.specs.Depth.{pack_depth_of}

pub no_nan : (n : ℕ) → n % 0x8000_0000 ≤ 0x7f80_0000 → T (not (nan_bits binary32 n))
no_nan n h = subst (λ (b : Bool). T (not b)) (sym (nan_bits_above binary32 n ∙ le-ltb 0x7f80_0000 (n % 0x8000_0000) h)) tt

packs : (x : Float) → is_nan x ≡ true → pack_depth_of x ≡ 0
unfolding is_nan pack_depth_of
packs nan h = refl
packs (inf s) h = absurd (true≢false (sym h))
packs (fin s m e) h = absurd (true≢false (sym h))

pub nan_packs : (n : ℕ) → 0x7f80_0000 < n % 0x8000_0000 → pack_depth_of (of_bits binary32 n) ≡ 0
nan_packs n h = packs (of_bits binary32 n) (sym (nan_bits_is binary32 n) ∙ nan_bits_above binary32 n ∙ lt-ltb 0x7f80_0000 (n % 0x8000_0000) h)
