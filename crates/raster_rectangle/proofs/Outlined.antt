-- Upright edges at a rectangle's first quarters have between them the samples that the rectangle holds: a sample at quarter p lies between the edges at quarters l and r, on a quarter
-- line from t up to b, exactly if l ≤ p < r. Assumes nothing.
use mathlib.Core.Path.{◌≡◌, refl, sym, ap, ◌∙◌}
use Prim.Native.Nat.{ℕ, ◌+◌, ◌*◌, ◌/◌, ◌%◌, ◌≤◌, ◌<◌}
use native.Mathlib.Omega.{arith}
use mathlib.Core.Bool.{Bool, true, false, cond, ◌&&◌}
use borrow.Author.Tests.{lt-ltb, le-ltb, lt-leb, le-leb, ltb-true, ltb-false, leb-true, leb-false}
use lib.Dec.{ltb, leb}
use lib.IntN.{pos, ◌+ℤ◌}
use Rattle.std.proofs.Math.Bool.{and-false, and-true}
use Rattle.raster_edge.specs.declared.Span.{Span}
use Rattle.raster_edge.specs.Edge.{sticky, quantized, edge_at, cross_of}
use Rattle.raster_edge.specs.Span.{span_of}
use Rattle.raster_edge.specs.Limits.{Tame}
use Rattle.raster_edges.specs.declared.Tri.{Tri}
use Rattle.raster_edges.specs.Span.{pick_span, no_span, line_of, edges_of}
use Rattle.raster_edges.specs.Sample.{bit_of, inside, sample_at, two_of, pair_of, mask_of}
use Rattle.raster_rectangle.specs.declared.Sides.{Sides}
use Rattle.raster_rectangle.specs.Rectangle.{quarters, sample_x, sample_y, inside_of, sample_bit, row_bits, rect_mask}
use Rattle.raster_rectangle.specs.Outline.{Before, From, upright_of, Outlines}

-- ---- an upright edge
upright_tame : (q : ℕ) → q ≤ 4096 → Tame (upright_of q)
upright_tame q h = record { start_small = omega arith; step_small = omega arith; base_small = omega arith }

-- in eighths of a pixel
upright_cross : (q n : ℕ) → cross_of (upright_of q) n ≡ pos (q * 2)
unfolding cross_of edge_at quantized
upright_cross q n = ap quantized still ∙ (λ i. pos (even i) +ℤ sticky (none i)) ∙ ap pos (omega arith)
  where
    still : edge_at (upright_of q) n ≡ pos (q * 16384)
    still = ap pos (omega arith)

    even : q * 16384 / 8192 / 2 * 2 ≡ q * 2
    even = omega arith

    none : q * 16384 % 16384 / 2 ≡ 0
    none = omega arith

-- ---- a rectangle's edges
abbrev pub box_of : ℕ → ℕ → ℕ → ℕ → Tri
box_of l t r b = record { major = upright_of l; upper = upright_of r; lower = upright_of r; top = pos t; mid = pos b; end = pos b; rightward = true }

double_le : (a b : ℕ) → leb (a * 2) (b * 2) ≡ leb a b
double_le a b = by (leb a b) refl
  where
    by : (t : Bool) → leb a b ≡ t → leb (a * 2) (b * 2) ≡ t
    by true e = le-leb (a * 2) (b * 2) (omega (arith, leb-true a b e))
    by false e = lt-leb (a * 2) (b * 2) (omega (arith, leb-false a b e))

double_lt : (a b : ℕ) → ltb (a * 2) (b * 2) ≡ ltb a b
double_lt a b = by (ltb a b) refl
  where
    by : (t : Bool) → ltb a b ≡ t → ltb (a * 2) (b * 2) ≡ t
    by true e = lt-ltb (a * 2) (b * 2) (omega (arith, ltb-true a b e))
    by false e = le-ltb (a * 2) (b * 2) (omega (arith, ltb-false a b e))

-- whether quarter p of line n lies between the edges
module _ (l t r b n p : ℕ) where
  in_span : Span → Bool
  in_span s = inside s.l s.r (p * 2)

  nothing : in_span no_span ≡ false
  unfolding in_span
  nothing = (λ i. leb 0 (p * 2) && le-ltb (p * 2) 0 (omega arith) i) ∙ and-false (leb 0 (p * 2))

  something : in_span (span_of (upright_of l) (upright_of r) true n) ≡ leb l p && ltb p r
  unfolding in_span span_of
  something = (λ i. inside (upright_cross l n i) (upright_cross r n i) (p * 2)) ∙ (λ i. double_le l p i && double_lt p r i)

  in_line : in_span (line_of (box_of l t r b) n) ≡ (leb l p && ltb p r) && (leb t n && ltb n b)
  unfolding line_of
  in_line = by (ltb n t) (leb b n) refl refl
    where
      either : (u : Bool) → in_span (pick_span u (span_of (upright_of l) (upright_of r) true n) (span_of (upright_of l) (upright_of r) true n)) ≡ leb l p && ltb p r
      either true = something
      either false = something

      by : (u v : Bool) → ltb n t ≡ u → leb b n ≡ v
          → in_span (pick_span u no_span (pick_span v no_span (pick_span (ltb n b) (span_of (upright_of l) (upright_of r) true n) (span_of (upright_of l) (upright_of r) true n)))) ≡ (leb l p && ltb p r) && (leb t n && ltb n b)
      by true v e f = nothing ∙ sym ((λ i. (leb l p && ltb p r) && (lt-leb t n (ltb-true n t e) i && ltb n b)) ∙ and-false (leb l p && ltb p r))
      by false true e f =
          nothing
          ∙ sym ((λ i. (leb l p && ltb p r) && (le-leb t n (ltb-false n t e) i && le-ltb n b (leb-true b n f) i)) ∙ and-false (leb l p && ltb p r))
      by false false e f =
          either (ltb n b)
          ∙ sym ((λ i. (leb l p && ltb p r) && (le-leb t n (ltb-false n t e) i && lt-ltb n b (leb-false b n f) i)) ∙ and-true (leb l p && ltb p r))

weight : (b : Bool) (w : ℕ) → cond b w 0 ≡ w * bit_of b
weight true w = omega arith
weight false w = omega arith

module _ (s : Sides) (l t r b : ℕ) (L : From s.left l) (T : From s.top t) (R : Before s.right r) (B : Before s.bottom b) where
  -- the sample at quarter p of line n
  one : (n p : ℕ) → n < 4096 → p < 4096 → inside (line_of (box_of l t r b) n).l (line_of (box_of l t r b) n).r (p * 2) ≡ inside_of s (quarters p) (quarters n)
  unfolding in_span inside_of
  one n p h k = in_line l t r b n p ∙ sym (λ i. (L.is p k i && R.is p k i) && (T.is n h i && B.is n h i))

  -- the two of row sub
  two : (x y sub : ℕ) → x < 1024 → y < 1024 → sub < 4
      → two_of (line_of (box_of l t r b) (y * 4 + sub)).l (line_of (box_of l t r b) (y * 4 + sub)).r (sample_at x sub) ≡ 2 * bit_of (inside_of s (sample_x x sub 0) (sample_y y sub)) + bit_of (inside_of s (sample_x x sub 1) (sample_y y sub))
  unfolding two_of
  two x y sub h k m =
      let n = y * 4 + sub in
      let z : Span = line_of (box_of l t r b) n in
      let p : x * 8 + sub % 2 * 2 ≡ (x * 4 + (sub % 2 + 0 * 2)) * 2 = omega arith in
      let q : x * 8 + sub % 2 * 2 + 4 ≡ (x * 4 + (sub % 2 + 1 * 2)) * 2 = omega arith in
      (λ i. 2 * bit_of (inside z.l z.r (p i)) + bit_of (inside z.l z.r (q i)))
      ∙ (λ i. 2 * bit_of (one n (x * 4 + (sub % 2 + 0 * 2)) (omega arith) (omega arith) i) + bit_of (one n (x * 4 + (sub % 2 + 1 * 2)) (omega arith) (omega arith) i))

  mask : (x y : ℕ) → x < 1024 → y < 1024 → mask_of (edges_of (box_of l t r b) y) x ≡ rect_mask s x y
  unfolding mask_of pair_of edges_of rect_mask row_bits sample_bit
  mask x y h k =
      let at : ℕ → ℕ → Bool = λ sub j. inside_of s (sample_x x sub j) (sample_y y sub) in
      omega (
        arith,
        two x y 0 h k (omega arith),
        two x y 1 h k (omega arith),
        two x y 2 h k (omega arith),
        two x y 3 h k (omega arith),
        weight (at 0 0) 128,
        weight (at 0 1) 64,
        weight (at 1 0) 32,
        weight (at 1 1) 16,
        weight (at 2 0) 8,
        weight (at 2 1) 4,
        weight (at 3 0) 2,
        weight (at 3 1) 1,
      )

  pub outlines : Outlines s (box_of l t r b)
  outlines = record {
    tame = record {
      major_tame = upright_tame l L.most;
      upper_tame = upright_tame r R.most;
      lower_tame = upright_tame r R.most;
      top_small = omega (arith, T.most);
      mid_small = omega (arith, B.most);
      end_small = omega (arith, B.most);
    };
    same = mask;
  }
