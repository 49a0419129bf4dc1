-- In a row without a corner the same two edges bound the four quarter lines, so that they need no test each. Assumes nothing.
use Prim.Native.Nat.{ℕ, ◌+◌, ◌*◌, ◌≤◌, ◌<◌}
use mathlib.Core.Path.{◌≡◌, refl, sym}
use mathlib.Core.Bool.{Bool, true, false}
use mathlib.Core.List.{[], ◌∷◌}
use native.Mathlib.Omega.{arith}
use lib.IntN.{ℤ, pos, negsuc}
use lib.Signed.{lt_z, le_z}
use borrow.Author.Tests.{lt-ltb, le-ltb, lt-leb, ltb-true, leb-true}
use Rattle.raster_edge.specs.declared.Edge.{Edge}
use Rattle.raster_edges.specs.declared.Tri.{Tri}
use Rattle.raster_edge.specs.Span.{span_of}
use Rattle.raster_edge.specs.Lines.{four_of}
use Rattle.raster_edges.specs.Span.{line_of, edges_of}
use Rattle.raster_edges.specs.Lines.{row_of}

-- ---- order
not_lt_up : (z : ℤ) (m n : ℕ) → m ≤ n → le_z z (pos m) ≡ true → lt_z (pos n) z ≡ false
not_lt_up (pos a) m n h t = le-ltb n a (omega (arith, leb-true a m t))
not_lt_up (negsuc a) m n h t = refl

not_le_down : (z : ℤ) (m n : ℕ) → m ≤ n → lt_z (pos n) z ≡ true → le_z z (pos m) ≡ false
not_le_down (pos a) m n h t = lt-leb a m (omega (arith, ltb-true n a t))
not_le_down (negsuc a) m n h t = cc

pub lt_down : (z : ℤ) (m n : ℕ) → m ≤ n → lt_z (pos n) z ≡ true → lt_z (pos m) z ≡ true
lt_down (pos a) m n h t = lt-ltb m a (omega (arith, ltb-true n a t))
lt_down (negsuc a) m n h t = cc

-- ---- the four lines between two edges
together : (t : Tri) (other : Edge) (y : ℕ) (rightward : Bool) → ((s : ℕ) → s < 4 → line_of t (y * 4 + s) ≡ span_of t.major other rightward (y * 4 + s))
    → edges_of t y ≡ row_of t.major other rightward (y * 4)
unfolding edges_of row_of four_of span_of
together t other y true h = λ i. record {
  left = (h 0 (omega arith) i).l ∷ (h 1 (omega arith) i).l ∷ (h 2 (omega arith) i).l ∷ (h 3 (omega arith) i).l ∷ [];
  right = (h 0 (omega arith) i).r ∷ (h 1 (omega arith) i).r ∷ (h 2 (omega arith) i).r ∷ (h 3 (omega arith) i).r ∷ [];
}
together t other y false h = λ i. record {
  left = (h 0 (omega arith) i).l ∷ (h 1 (omega arith) i).l ∷ (h 2 (omega arith) i).l ∷ (h 3 (omega arith) i).l ∷ [];
  right = (h 0 (omega arith) i).r ∷ (h 1 (omega arith) i).r ∷ (h 2 (omega arith) i).r ∷ (h 3 (omega arith) i).r ∷ [];
}

module _ (t : Tri) (y : ℕ) (p : le_z t.top (pos (y * 4)) ≡ true) (q : lt_z (pos (y * 4 + 3)) t.end ≡ true) where
  -- above the middle corner, and from it on
  pub upper_row : lt_z (pos (y * 4 + 3)) t.mid ≡ true → row_of t.major t.upper t.rightward (y * 4) ≡ edges_of t y
  unfolding line_of
  upper_row r = sym (together t t.upper y t.rightward line)
    where
      line : (s : ℕ) → s < 4 → line_of t (y * 4 + s) ≡ span_of t.major t.upper t.rightward (y * 4 + s)
      line s h =
          rw (not_lt_up t.top (y * 4) (y * 4 + s) (omega arith) p, not_le_down t.end (y * 4 + s) (y * 4 + 3) (omega arith) q, lt_down t.mid (y * 4 + s) (y * 4 + 3) (omega arith) r)

  pub lower_row : le_z t.mid (pos (y * 4)) ≡ true → row_of t.major t.lower t.rightward (y * 4) ≡ edges_of t y
  unfolding line_of
  lower_row r = sym (together t t.lower y t.rightward line)
    where
      line : (s : ℕ) → s < 4 → line_of t (y * 4 + s) ≡ span_of t.major t.lower t.rightward (y * 4 + s)
      line s h =
          rw (not_lt_up t.top (y * 4) (y * 4 + s) (omega arith) p, not_le_down t.end (y * 4 + s) (y * 4 + 3) (omega arith) q, not_lt_up t.mid (y * 4) (y * 4 + s) (omega arith) r)
