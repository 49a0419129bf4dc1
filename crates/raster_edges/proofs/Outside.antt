-- What lies outside the outermost edges has no sample, and a row above or below the triangle has none: so a walk over the pixels and the rows
-- need not look there. A bound is a floor division, of a line's first or last eighth by 8 or of a quarter line by 4, and one law serves them. Assumes nothing.
use Prim.Native.Nat.{ℕ, zero, suc, ◌+◌, ◌*◌, ◌/◌, ◌≤◌, ◌<◌}
use mathlib.Core.Path.{◌≡◌, refl, sym, ◌∙◌}
use mathlib.Core.Bool.{Bool, true, false, ◌&&◌}
use native.Mathlib.Omega.{arith}
use native.Mathlib.Nat.{le_trans, mul-le-mul_right, div-mul-le_self, add-mul, div-lt_iff_lt-mul}
use lib.ListN.{get_or}
use lib.IntN.{ℤ, pos, negsuc, ◌+ℤ◌, ◌-ℤ◌}
use lib.Signed.{shr_z, lt_z, le_z}
use borrow.Author.Tests.{lt-ltb, le-ltb, le-leb, lt-leb, ltb-true, leb-true, leb-false}
use Rattle.std.proofs.Math.Bool.{and-false}
use Rattle.raster_edges.specs.declared.Edges.{Edges}
use Rattle.raster_edges.specs.declared.Tri.{Tri}
use Rattle.raster_edges.specs.Span.{line_of, edges_of, pick_span, no_span}
use Rattle.raster_edges.specs.Sample.{inside, sample_at, two_of, pair_of, mask_of}
use Rattle.raster_range.specs.declared.Range.{Range}
use Rattle.raster_range.specs.Kept.{Kept}
use Rattle.raster_edge.proofs.Size.{less_one}
use Rattle.raster_edge.proofs.Clamped.{clamp_in, below_clamp, above_clamp}
use Rattle.raster_edge.specs.Bound.{pick_z, outer_of, tip_by, tip_of, outermost_of, clamp_of, range_of}
use Rattle.raster_edges.specs.Bound.{no_sample, no_row}

-- ---- order of signed numbers
pub le_flip : (a b : ℤ) → le_z a b ≡ false → le_z b a ≡ true
le_flip (pos a) (pos b) t = le-leb b a (omega (arith, leb-false a b t))
le_flip (pos a) (negsuc b) t = refl
le_flip (negsuc a) (pos b) t = cc
le_flip (negsuc a) (negsuc b) t = le-leb a b (omega (arith, leb-false b a t))

lt_not_le : (z : ℤ) (n : ℕ) → lt_z (pos n) z ≡ true → le_z z (pos n) ≡ false
lt_not_le (pos a) n t = lt-leb a n (ltb-true n a t)
lt_not_le (negsuc a) n t = cc

lt_le : (z : ℤ) (n : ℕ) → lt_z z (pos n) ≡ true → le_z z (pos n) ≡ true
lt_le (pos a) n t = le-leb a n (omega (arith, ltb-true a n t))
lt_le (negsuc a) n t = refl

-- what ends by n does not reach n
ended : (z : ℤ) (n : ℕ) → lt_z (z -ℤ pos 1) (pos n) ≡ true → lt_z (pos n) z ≡ false
ended (pos zero) n t = le-ltb n 0 (omega arith)
ended (pos (suc a)) n t = le-ltb n (suc a) (omega (arith, ltb-true a n (rw less_one at t)))
ended (negsuc a) n t = refl

plus_one : (z : ℤ) (x : ℕ) → le_z (z +ℤ pos 1) (pos x) ≡ true → lt_z z (pos x) ≡ true
plus_one (pos a) x t = lt-ltb a x (omega (arith, leb-true (a + 1) x t))
plus_one (negsuc a) x t = refl

-- ---- a number and the m numbers of cell x, x * m and on: before the cell that holds z, and after it
module _ (m : ℕ) (p : 0 < m) where
  cell_before : (z : ℤ) (x n : ℕ) → lt_z (pos x) (shr_z z m) ≡ true → n < x * m + m → lt_z (pos n) z ≡ true
  cell_before (pos a) x n t h =
      let k : (x + 1) * m ≤ a = le_trans (mul-le-mul_right m (omega (arith, ltb-true x (a / m) t))) (div-mul-le_self a m) in
      lt-ltb n a (omega (arith, add-mul x 1 m))
  cell_before (negsuc a) x n t h = cc

  cell_after : (z : ℤ) (x n : ℕ) → lt_z (shr_z z m) (pos x) ≡ true → x * m ≤ n → lt_z z (pos n) ≡ true
  cell_after (pos a) x n t h = lt-ltb a n (omega (arith, (div-lt_iff_lt-mul p).0 (ltb-true (a / m) x t)))
  cell_after (negsuc a) x n t h = refl

-- ---- pixels. The side is the left one if `low`; pixel x lies beyond z if it is on that side of the pixel that holds z
abbrev beyond : Bool → ℤ → ℕ → Bool
beyond true z x = lt_z (pos x) (shr_z z 8)
beyond false z x = lt_z (shr_z z 8) (pos x)

beyond_mono : (low : Bool) (a b : ℤ) (x : ℕ) → le_z a b ≡ true → beyond low (pick_z true low a b) x ≡ true → beyond low (pick_z false low a b) x ≡ true
beyond_mono true (pos a) (pos b) x h t = lt-ltb x (b / 8) (omega (arith, leb-true a b h, ltb-true x (a / 8) t))
beyond_mono true (pos a) (negsuc b) x h t = cc
beyond_mono true (negsuc a) (pos b) x h t = cc
beyond_mono true (negsuc a) (negsuc b) x h t = cc
beyond_mono false (pos a) (pos b) x h t = lt-ltb (a / 8) x (omega (arith, leb-true a b h, ltb-true (b / 8) x t))
beyond_mono false (pos a) (negsuc b) x h t = cc
beyond_mono false (negsuc a) (pos b) x h t = refl
beyond_mono false (negsuc a) (negsuc b) x h t = refl

-- beyond the outer of two is beyond both
module _ (a b : ℤ) (x : ℕ) where
  outer_both : (low : Bool) → beyond low (outer_of low a b) x ≡ true → (beyond low a x ≡ true) × (beyond low b x ≡ true)
  outer_both low = by low (le_z a b) refl
    where
      by : (low t : Bool) → le_z a b ≡ t → beyond low (pick_z t low a b) x ≡ true → (beyond low a x ≡ true) × (beyond low b x ≡ true)
      by true true e h = (h, beyond_mono true a b x e h)
      by true false e h = (beyond_mono true b a x (le_flip a b e) h, h)
      by false true e h = (beyond_mono false a b x e h, h)
      by false false e h = (h, beyond_mono false b a x (le_flip a b e) h)

-- a line that covers nothing has no sample
le_lt : (l r : ℤ) (n : ℕ) → le_z l (pos n) ≡ true → lt_z (pos n) r ≡ true → lt_z l r ≡ true
le_lt (pos a) (pos b) n p q = lt-ltb a b (omega (arith, leb-true a n p, ltb-true n b q))
le_lt (negsuc a) (pos b) n p q = refl
le_lt l (negsuc b) n p q = cc

none_inside : (l r : ℤ) (n : ℕ) → lt_z l r ≡ false → inside l r n ≡ false
none_inside l r n t = by (le_z l (pos n)) (lt_z (pos n) r) refl refl
  where
    by : (a b : Bool) → le_z l (pos n) ≡ a → lt_z (pos n) r ≡ b → a && b ≡ false
    by false b p q = refl
    by true false p q = refl
    by true true p q = sym (le_lt l r n p q) ∙ t

none_two : (l r : ℤ) (n : ℕ) → lt_z l r ≡ false → two_of l r n ≡ 0
unfolding two_of
none_two l r n t = rw (none_inside l r n t, none_inside l r (n + 4) t)

row_beyond : (low : Bool) (e : Edges) (x s : ℕ) → beyond low (tip_of low e.left e.right s) x ≡ true → pair_of e x s ≡ 0
unfolding pair_of two_of
row_beyond low e x s = by low (lt_z l r) refl
  where
    l : ℤ
    l = get_or e.left s (pos 0)

    r : ℤ
    r = get_or e.right s (pos 0)

    by : (low t : Bool) → lt_z l r ≡ t → beyond low (tip_by t low l r) x ≡ true → two_of l r (sample_at x s) ≡ 0
    by low false e h = none_two l r (sample_at x s) e
    by true true e h =
        let n = sample_at x s in
        rw (lt_not_le l n (cell_before 8 (omega arith) l x n h (omega arith)), lt_not_le l (n + 4) (cell_before 8 (omega arith) l x (n + 4) h (omega arith)))
    by false true e h =
        let n = sample_at x s in
        rw (ended r n (cell_after 8 (omega arith) (r -ℤ pos 1) x n h (omega arith)), ended r (n + 4) (cell_after 8 (omega arith) (r -ℤ pos 1) x (n + 4) h (omega arith)), and-false (le_z l (pos n)), and-false (le_z l (pos (n + 4))))

mask_beyond : (low : Bool) (e : Edges) (x : ℕ) → beyond low (outermost_of low e.left e.right) x ≡ true → mask_of e x ≡ 0
unfolding outermost_of mask_of
mask_beyond low e x t =
    let z : ℕ → ℤ = tip_of low e.left e.right in
    let p = outer_both (outer_of low (z 0) (z 1)) (outer_of low (z 2) (z 3)) x low t in
    let q = outer_both (z 0) (z 1) x low p.0 in
    let o = outer_both (z 2) (z 3) x low p.1 in
    omega (arith, row_beyond low e x 0 q.0, row_beyond low e x 1 q.1, row_beyond low e x 2 o.0, row_beyond low e x 3 o.1)

-- ---- rows
line_above : (t : Tri) (n : ℕ) → lt_z (pos n) t.top ≡ true → line_of t n ≡ no_span
unfolding line_of
line_above t n h = rw h

line_past : (t : Tri) (n : ℕ) → le_z t.end (pos n) ≡ true → line_of t n ≡ no_span
unfolding line_of
line_past t n h = rw h (either (lt_z (pos n) t.top))
  where
    either : (b : Bool) → pick_span b no_span no_span ≡ no_span
    either true = refl
    either false = refl

row_empty : (t : Tri) (y : ℕ) → ((s : ℕ) → s < 4 → line_of t (y * 4 + s) ≡ no_span) → no_row t y
unfolding mask_of pair_of edges_of
row_empty t y h x = omega (arith, at 0 (omega arith), at 1 (omega arith), at 2 (omega arith), at 3 (omega arith))
  where
    at : (s : ℕ) → s < 4 → two_of (line_of t (y * 4 + s)).l (line_of t (y * 4 + s)).r (sample_at x s) ≡ 0
    at s k = (λ i. two_of (h s k i).l (h s k i).r (sample_at x s)) ∙ none_two (pos 0) (pos 0) (sample_at x s) refl

-- ---- a range
-- the part of lo..hi in from..to leaves nothing out, where what is below from and what is not below to is empty
pub kept : (empty : ℕ → Type 0) (from to : ℤ) (lo hi : ℕ) → lo ≤ hi
    → ((i : ℕ) → lt_z (pos i) from ≡ true → empty i) → ((i : ℕ) → le_z to (pos i) ≡ true → empty i) → Kept empty lo hi (range_of from to lo hi)
unfolding range_of
kept empty from to lo hi h f g =
    let s = clamp_of from lo hi in
    let p = clamp_in from lo hi h in
    let q = clamp_in to s hi p.1 in
    record {
      from = p.0;
      order = q.0;
      to = q.1;
      before = λ i a b. f i (below_clamp from lo hi i a b);
      after = λ i a b. g i (above_clamp to s hi i a b);
    }

-- the pixels from the first eighth that a line covers to the last
abbrev pub pixels_of : Edges → ℕ → ℕ → Range
pixels_of e x0 x1 = range_of (shr_z (outermost_of true e.left e.right) 8) (shr_z (outermost_of false e.left e.right) 8 +ℤ pos 1) x0 x1

pub kept_pixels : (e : Edges) (x0 x1 : ℕ) → x0 ≤ x1 → Kept (no_sample e) x0 x1 (pixels_of e x0 x1)
kept_pixels e x0 x1 h =
    let r = shr_z (outermost_of false e.left e.right) 8 in
    kept (no_sample e) (shr_z (outermost_of true e.left e.right) 8) (r +ℤ pos 1) x0 x1 h (λ i t. mask_beyond true e i t) (λ i t. mask_beyond false e i (plus_one r i t))

-- the rows from the top corner's to the bottom corner's
pub kept_rows : (t : Tri) (y0 y1 : ℕ) → y0 ≤ y1 → Kept (no_row t) y0 y1 (range_of (shr_z t.top 4) (shr_z t.end 4 +ℤ pos 1) y0 y1)
kept_rows t y0 y1 h =
    let b = shr_z t.end 4 in
    kept (no_row t) (shr_z t.top 4) (b +ℤ pos 1) y0 y1 h
    (λ y k. row_empty t y (λ s l. line_above t (y * 4 + s) (cell_before 4 (omega arith) t.top y (y * 4 + s) k (omega arith))))
    (λ y k. row_empty t y (λ s l. line_past t (y * 4 + s) (lt_le t.end (y * 4 + s) (cell_after 4 (omega arith) t.end y (y * 4 + s) (plus_one b y k) (omega arith)))))
