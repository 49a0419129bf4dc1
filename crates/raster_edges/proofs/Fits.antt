-- The pixels that `bounds` keeps lie between the outermost edges of the lines that cover something: the outermost of four tips is one of them, and a line that covers nothing
-- has its tip where no pixel of a frame lies. Assumes nothing.
use Prim.Native.Nat.{ℕ, zero, suc, ◌+◌, ◌*◌, ◌/◌, ◌≤◌, ◌<◌}
use mathlib.Core.Path.{◌≡◌, refl, sym}
use mathlib.Core.Bool.{Bool, true, false, true≢false}
use mathlib.Core.List.{List}
use native.Mathlib.Omega.{arith}
use lib.ListN.{get_or}
use lib.IntN.{ℤ, pos, negsuc, ◌+ℤ◌, ◌-ℤ◌}
use lib.Signed.{shr_z, lt_z, le_z}
use borrow.Author.Tests.{lt-ltb, le-leb, ltb-true, leb-true}
use Rattle.raster_range.specs.Inner.{Inner}
use Rattle.raster_edge.specs.Bound.{pick_z, outer_of, tip_by, tip_of, outermost_of, clamp_of, range_of}
use Rattle.raster_edge.proofs.Size.{less_one}
use Rattle.raster_edge.proofs.Clamped.{clamp_in, below_clamp, above_clamp}
use Rattle.raster_edges.specs.declared.Edges.{Edges}
use Rattle.raster_edges.specs.Bound.{Between}
use Rattle.raster_edges.proofs.Outside.{pixels_of}

-- ---- the outermost is one of the four
outer_one : (P : ℤ → Type 0) (low : Bool) (a b : ℤ) → P a → P b → P (outer_of low a b)
outer_one P low a b p q = by low (le_z a b)
  where
    by : (low t : Bool) → P (pick_z t low a b)
    by true true = p
    by true false = q
    by false true = q
    by false false = p

one_of : (low : Bool) (l r : List ℤ) → (s : ℕ) × (outermost_of low l r ≡ tip_of low l r s)
unfolding outermost_of
one_of low l r =
    let is : ℤ → Type 0 = λ z. (s : ℕ) × (z ≡ tip_of low l r s) in
    outer_one is low _ _ (outer_one is low _ _ (0, refl) (1, refl)) (outer_one is low _ _ (2, refl) (3, refl))

-- below one more than z is not above z
next : (z : ℤ) (x : ℕ) → lt_z (pos x) (z +ℤ pos 1) ≡ true → le_z (pos x) z ≡ true
next (pos a) x t = le-leb x a (omega (arith, ltb-true x (a + 1) t))
next (negsuc zero) x t = absurd (omega (arith, ltb-true x 0 t))
next (negsuc (suc a)) x t = rw (lt-ltb 1 (suc (suc a)) (omega arith)) at t

-- ---- a pixel that lies at a tip or within it
module _ (l r : ℤ) (x : ℕ) where
  begins : (t : Bool) → x < 1024 → le_z (shr_z (tip_by t true l r) 8) (pos x) ≡ true → (t ≡ true) × (lt_z l (pos (x * 8 + 8)) ≡ true)
  begins true h k = (refl, by l k)
    where
      by : (z : ℤ) → le_z (shr_z z 8) (pos x) ≡ true → lt_z z (pos (x * 8 + 8)) ≡ true
      by (pos a) k = lt-ltb a (x * 8 + 8) (omega (arith, leb-true (a / 8) x k))
      by (negsuc a) k = refl
  begins false h k = absurd (omega (arith, leb-true 1024 x k))

  ends : (t : Bool) → le_z (pos x) (shr_z (tip_by t false l r) 8) ≡ true → (t ≡ true) × (lt_z (pos (x * 8)) r ≡ true)
  ends true k = (refl, by r k)
    where
      by : (z : ℤ) → le_z (pos x) (shr_z (z -ℤ pos 1) 8) ≡ true → lt_z (pos (x * 8)) z ≡ true
      by (pos zero) k = cc
      by (pos (suc a)) k = lt-ltb (x * 8) (suc a) (omega (arith, leb-true x (a / 8) (rw less_one at k)))
      by (negsuc a) k = cc
  ends false k = absurd (true≢false (sym k))

-- Every pixel of the part that `bounds` keeps of x0..x1 lies between the outermost edges of the lines that cover something.
pub between_pixels : (e : Edges) (x0 x1 : ℕ) → x0 ≤ x1 → x1 ≤ 1024 → Inner (Between e) x0 x1 (pixels_of e x0 x1)
unfolding range_of
between_pixels e x0 x1 h k =
    let from = shr_z (outermost_of true e.left e.right) 8 in
    let last = shr_z (outermost_of false e.left e.right) 8 in
    let to = last +ℤ pos 1 in
    let start = clamp_of from x0 x1 in
    let p = clamp_in from x0 x1 h in
    let q = clamp_in to start x1 p.1 in
    let f = one_of true e.left e.right in
    let g = one_of false e.left e.right in
    record {
      from = p.0;
      order = q.0;
      to = q.1;
      all = λ i a b.
          let u = begins (get_or e.left f.0 (pos 0)) (get_or e.right f.0 (pos 0)) i _ (omega arith) (rw f.1 at (above_clamp from x0 x1 i a (omega arith))) in
          let v = ends (get_or e.left g.0 (pos 0)) (get_or e.right g.0 (pos 0)) i _ (rw g.1 at (next last i (below_clamp to start x1 i a b))) in
          record { begun = (f.0, u.0, u.1); unended = (g.0, v.0, v.1) };
    }
