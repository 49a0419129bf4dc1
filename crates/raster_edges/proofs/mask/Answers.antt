-- Four fields of two bits, put together by shifts.
use Prim.Native.Nat.{ℕ}
use mathlib.Core.Path.{◌≡◌, ◌∙◌}
use Rattle.raster_edges.specs.declared.Edges.{Edges}
use Rattle.raster_edges.specs.Sample.{pair_of, mask_of}
use Rattle.raster_edges.proofs.Pairs.{pair_lt, bits, four_pairs}
use Rattle.raster_edges.proofs.mask.Goals as goal

-- the four pairs of a pixel
met : (e : Edges) (x : ℕ) {a b c d : ℕ} → a ≡ pair_of e x 0 → b ≡ pair_of e x 1 → c ≡ pair_of e x 2 → d ≡ pair_of e x 3 → bits a b c d ≡ mask_of e x
unfolding mask_of
met e x p q r s =
    (λ i. bits (p i) (q i) (r i) (s i))
    ∙ four_pairs (pair_of e x 0) (pair_of e x 1) (pair_of e x 2) (pair_of e x 3) (pair_lt e x 0) (pair_lt e x 1) (pair_lt e x 2) (pair_lt e x 3)

pub returns : goal.returns
returns c = met c.args.e c.args.x c.pair-a.ensures c.pair-b.ensures c.pair-c.ensures c.pair-d.ensures
