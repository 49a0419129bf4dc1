-- The pixels between the innermost edges have all eight samples: each sample lies right of the larger left edge of its two rows, and left of the smaller
-- right one. Assumes nothing.
use Prim.Native.Nat.{ℕ, ◌+◌, ◌≤◌, ◌<◌}
use mathlib.Core.Path.{◌≡◌, refl}
use mathlib.Core.Bool.{Bool, true, false}
use mathlib.Core.List.{List}
use native.Mathlib.Omega.{arith}
use lib.ListN.{get_or}
use lib.IntN.{ℤ, pos, negsuc}
use lib.Signed.{lt_z, le_z}
use borrow.Author.Tests.{lt-ltb, le-leb, ltb-true, leb-true}
use Rattle.raster_edges.specs.declared.Edges.{Edges}
use Rattle.raster_edges.specs.Sample.{sample_at, two_of, pair_of, mask_of}
use Rattle.raster_range.specs.Inner.{Inner}
use Rattle.raster_edge.specs.Bound.{pick_z, outer_of, range_of, edge_of_rows, full_from, full_to}
use Rattle.raster_edges.specs.Bound.{all_samples}
use Rattle.raster_edge.proofs.Clamped.{below_clamp, above_clamp}
use Rattle.raster_edges.proofs.Outside.{le_flip}
use Rattle.raster_edges.proofs.Lines.{lt_down}

-- ---- order
le_le : (a b : ℤ) (n : ℕ) → le_z a b ≡ true → le_z b (pos n) ≡ true → le_z a (pos n) ≡ true
le_le (pos a) (pos b) n s t = le-leb a n (omega (arith, leb-true a b s, leb-true b n t))
le_le (pos a) (negsuc b) n s t = cc
le_le (negsuc a) b n s t = refl

lt_le : (a b : ℤ) (n : ℕ) → le_z a b ≡ true → lt_z (pos n) a ≡ true → lt_z (pos n) b ≡ true
lt_le (pos a) (pos b) n s t = lt-ltb n b (omega (arith, leb-true a b s, ltb-true n a t))
lt_le (pos a) (negsuc b) n s t = cc
lt_le (negsuc a) b n s t = cc

le_up : (z : ℤ) (m n : ℕ) → m ≤ n → le_z z (pos m) ≡ true → le_z z (pos n) ≡ true
le_up z m n h t = le_le z (pos m) n t (le-leb m n h)

-- from the larger of two on, and before the smaller
module _ (a b : ℤ) (n : ℕ) where
  from_both : le_z (outer_of false a b) (pos n) ≡ true → (le_z a (pos n) ≡ true) × (le_z b (pos n) ≡ true)
  from_both = by (le_z a b) refl
    where
      by : (t : Bool) → le_z a b ≡ t → le_z (pick_z t false a b) (pos n) ≡ true → (le_z a (pos n) ≡ true) × (le_z b (pos n) ≡ true)
      by true e h = (le_le a b n e h, h)
      by false e h = (h, le_le b a n (le_flip a b e) h)

  before_both : lt_z (pos n) (outer_of true a b) ≡ true → (lt_z (pos n) a ≡ true) × (lt_z (pos n) b ≡ true)
  before_both = by (le_z a b) refl
    where
      by : (t : Bool) → le_z a b ≡ t → lt_z (pos n) (pick_z t true a b) ≡ true → (lt_z (pos n) a ≡ true) × (lt_z (pos n) b ≡ true)
      by true e h = (h, lt_le a b n e h)
      by false e h = (lt_le b a n (le_flip a b e) h, h)

-- ---- the edges of two rows
module _ (e : List ℤ) (i j : ℕ) where
  from_rows : (n : ℕ) → edge_of_rows false e i j ≤ n → n < 8192 → (le_z (get_or e i (pos 0)) (pos n) ≡ true) × (le_z (get_or e j (pos 0)) (pos n) ≡ true)
  unfolding edge_of_rows
  from_rows n h k =
      let a = get_or e i (pos 0) in
      let b = get_or e j (pos 0) in
      from_both a b n (above_clamp (outer_of false a b) 0 8192 n h k)

  before_rows : (n : ℕ) → n < edge_of_rows true e i j → (lt_z (pos n) (get_or e i (pos 0)) ≡ true) × (lt_z (pos n) (get_or e j (pos 0)) ≡ true)
  unfolding edge_of_rows
  before_rows n h =
      let a = get_or e i (pos 0) in
      let b = get_or e j (pos 0) in
      before_both a b n (below_clamp (outer_of true a b) 0 8192 n (omega arith) h)

-- ---- samples
pair_full : (e : Edges) (x s : ℕ) → le_z (get_or e.left s (pos 0)) (pos (sample_at x s)) ≡ true → lt_z (pos (sample_at x s + 4)) (get_or e.right s (pos 0)) ≡ true
    → pair_of e x s ≡ 3
unfolding pair_of two_of
pair_full e x s h k =
    let l = get_or e.left s (pos 0) in
    let r = get_or e.right s (pos 0) in
    let n = sample_at x s in
    rw (h, lt_down r n (n + 4) (omega arith) k, le_up l n (n + 4) (omega arith) h, k)

mask_full : (e : Edges) (x : ℕ) → x < 1024 → full_from e.left ≤ x → x < full_to e.right → mask_of e x ≡ 255
unfolding full_from full_to mask_of
mask_full e x h k l =
    let a = from_rows e.left 0 2 (sample_at x 0) (omega arith) (omega arith) in
    let b = from_rows e.left 1 3 (sample_at x 1) (omega arith) (omega arith) in
    let c = before_rows e.right 0 2 (sample_at x 0 + 4) (omega arith) in
    let d = before_rows e.right 1 3 (sample_at x 1 + 4) (omega arith) in
    omega (arith, pair_full e x 0 a.0 c.0, pair_full e x 1 b.0 d.0, pair_full e x 2 a.1 c.1, pair_full e x 3 b.1 d.1)

-- Every pixel of the part of x0..x1 between the innermost edges has all eight samples.
pub full_pixels : (e : Edges) (x0 x1 : ℕ) → x0 ≤ x1 → x1 ≤ 1024 → Inner (all_samples e) x0 x1 (range_of (pos (full_from e.left)) (pos (full_to e.right)) x0 x1)
unfolding range_of
full_pixels e x0 x1 h k =
    record {
      from = omega arith;
      order = omega arith;
      to = omega arith;
      all = λ i l m. mask_full e i (omega arith) (omega arith) (omega arith);
    }
