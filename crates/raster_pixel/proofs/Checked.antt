-- Triangles without a failing check: the loop over them, and what holds of each. Assumes nothing.
use mathlib.Core.Path.{◌≡◌, refl, ap, ◌∙◌}
use mathlib.Core.Bool.{Bool, true, false, cond, not, ◌&&◌, ◌||◌, true≢false}
use mathlib.Core.List.{List, [], ◌∷◌, map}
use Prim.Native.Nat.{ℕ, zero, suc, ◌+◌, ◌/◌, ◌≤◌, ◌<◌}
use native.Mathlib.Omega.{arith}
use native.Mathlib.Decide.{dec_le}
use borrow.Author.Tests.{eqb-true, not-false}
use lib.Dec.{eqb}
use lib.Ieee.{Float}
use lib.ListN.{length}
use Rattle.combiner.specs.declared.Combiner.{Combiner}
use Rattle.raster_vertex.specs.declared.Vertex.{Vertex}
use Rattle.raster_vertex.specs.declared.Triangle.{Triangle}
use Rattle.raster_vertex.specs.Range.{in_range}
use Rattle.raster_vertex.specs.Sorted.{sorted}
use Rattle.std.proofs.lemmas.Bool.{and_parts}
use Rattle.raster_vertex.proofs.Quarters.{quarter_x, quarter_y}
use Rattle.raster_vertex.proofs.Ordered.{Each, InRange, sorted_length, sorted_each}
use Rattle.raster_edges.specs.Limits.{Near, AllNear}
use Rattle.std.specs.Prelude.{Option, Some, None, Result, Ok, Err}
use Rattle.std.specs.Result.{is_ok}
use Rattle.std.specs.List.{list_all, range_with_len}
use Rattle.raster_pixel.specs.declared.Geometry.TheVariants.{Triangles}
use Rattle.raster_admitted.specs.declared.Check.{Check}
use Rattle.raster_admitted.specs.declared.Check.TheVariants as check
use Rattle.raster_admitted.specs.Check.{any, check_of}
use Rattle.raster_admitted.specs.Checked.{check_number}
use Rattle.raster_pixel.specs.Admitted.{triangle_at, check_three, failing, all, admitted_of}
use Rattle.raster_pixel.specs.Emitted.{corner_of}

-- triangle i has no failing check
abbrev pub sound : Combiner → List Float → List ℕ → List ℕ → ℕ → Bool
sound k vs ps is i = eqb (failing k vs ps is i) 0

-- an answer is there where its check's number is 0
pub is_ok-number : (r : Result Unit Check) → is_ok r ≡ eqb (check_number r) 0
is_ok-number (Ok u) = refl
is_ok-number (Err check.Missing) = refl
is_ok-number (Err check.OutOfRange) = refl
is_ok-number (Err check.ShadesDiffer) = refl
is_ok-number (Err check.NotFinite) = refl
is_ok-number (Err check.NoColor) = refl
is_ok-number (Err check.AlphasDiffer) = refl

-- ---- p of n numbers from i on
pub list_all-range : (p : ℕ → Bool) (n i : ℕ) → list_all p (range_with_len i n) ≡ all p n i
unfolding all
list_all-range p zero i = refl
list_all-range p (suc n) i = ap (λ (b : Bool). p i && b) (list_all-range p n (i + 1))

-- p of all is p of each
pub all_at : (p : ℕ → Bool) (n i : ℕ) → all p n i ≡ true → (j : ℕ) → i ≤ j → j < i + n → p j ≡ true
unfolding all
all_at p zero i h j a b = absurd (omega arith)
all_at p (suc n) i h j a b = by (dec_le (i + 1) j) (λ k. all_at p n (i + 1) (and_parts (p i) (all p n (i + 1)) h).1 j k (omega arith))
  where
    by : Dec (i + 1 ≤ j) → (i + 1 ≤ j → p j ≡ true) → p j ≡ true
    by (yes k) later = later k
    by (no k) later =
        let e : j ≡ i = omega arith in
        ap p e ∙ (and_parts (p i) (all p n (i + 1)) h).0

-- ---- a triangle with no failing check: its vertices are there and in range
abbrev pub AllIn : Option Triangle → Type 0
AllIn None = ⊥
AllIn (Some t) = Each InRange (t.a ∷ t.b ∷ t.c ∷ [])

-- a check's number is not 0
not_chosen : (t : Bool) (x : ℕ) → cond t 2 x ≡ 0 → t ≡ false
not_chosen true x h = absurd (omega arith)
not_chosen false x h = refl

neither : (s t : Bool) → s || t ≡ false → (s ≡ false) × (t ≡ false)
neither true t h = absurd (true≢false h)
neither false t h = (refl, h)

pub placed : (t : Triangle) → any (λ (v : Vertex). not (in_range v)) t.a t.b t.c ≡ false → AllIn (Some t)
placed t h =
    let p = neither (not (in_range t.a) || not (in_range t.b)) (not (in_range t.c)) h in
    let q = neither (not (in_range t.a)) (not (in_range t.b)) p.0 in
    (not-false (in_range t.a) q.0, (not-false (in_range t.b) q.1, (not-false (in_range t.c) p.1, tt)))

all_in : (k : Combiner) (t : Option Triangle) → check_three k t ≡ 0 → AllIn t
unfolding check_of
all_in k None h = absurd (omega arith)
all_in k (Some t) h = placed t (not_chosen _ _ h)

pub sound_in : (k : Combiner) (vs : List Float) (ps is : List ℕ) (i : ℕ) → failing k vs ps is i ≡ 0 → AllIn (triangle_at vs ps is i)
unfolding failing
sound_in k vs ps is i h = all_in k (triangle_at vs ps is i) h

pub admitted_in : (k : Combiner) (vs : List Float) (ps is : List ℕ) → admitted_of k Triangles vs ps is ≡ true → (i : ℕ) → i < length is / 3 → AllIn (triangle_at vs ps is i)
unfolding admitted_of
admitted_in k vs ps is h i l =
    sound_in k vs ps is i (eqb-true (failing k vs ps is i) 0 (all_at (sound k vs ps is) (length is / 3) 0 h i (omega arith) (omega arith)))

-- ---- in quarter units, sorted
near : (v : Vertex) → InRange v → Near (corner_of v)
near v h = record { x_near = omega (arith, quarter_x v h); y_near = quarter_y v h }

near_three : (v : List Vertex) → length v ≡ 3 → Each InRange v → AllNear (map corner_of v)
near_three [] h r = absurd (omega arith)
near_three (a ∷ []) h r = absurd (omega arith)
near_three (a ∷ b ∷ []) h r = absurd (omega arith)
near_three (a ∷ b ∷ c ∷ []) h r = record { a_near = near a r.0; b_near = near b r.1.0; c_near = near c r.1.1.0 }
near_three (a ∷ b ∷ c ∷ d ∷ v) h r = absurd (omega arith)

pub sorted_near : (t : Triangle) → AllIn (Some t) → AllNear (map corner_of (sorted (t.a ∷ t.b ∷ t.c ∷ [])))
sorted_near t r = let v = t.a ∷ t.b ∷ t.c ∷ [] in near_three (sorted v) (sorted_length v) (sorted_each InRange v r)
