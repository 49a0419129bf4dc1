-- What `sorted` does to a list of vertices: as many come out, each of them one that went in, and where their places are finite, in order.
-- Each law is one induction on `insert` and one on `sorted`.
use mathlib.Core.Path.{◌≡◌, refl, sym, ap, ◌∙◌, subst}
use mathlib.Core.Bool.{Bool, true, false, cond, not, ◌&&◌, ◌||◌, true≢false}
use mathlib.Core.List.{List, [], ◌∷◌}
use Prim.Native.Nat.{ℕ, zero, suc, ◌<◌}
use native.Mathlib.Nat.{le_of_suc-le-suc, not-suc-le-zero}
use lib.IntN.{ℤ, pos, negsuc}
use lib.ListN.{length}
use lib.Signed.{◌≤ℤ◌}
use lib.Ieee.{Float, nan, inf, fin, lt, eq, le}
use Rattle.num_float.specs.Color.{is_finite, total_le}
use Rattle.num_float.specs.Whole.{quarter_of}
use Rattle.raster_vertex.specs.declared.Vertex.{Vertex}
use Rattle.raster_vertex.specs.Range.{within, in_range_x, in_range_y, in_range}
use Rattle.raster_vertex.specs.Sorted.{vertex_at, at_or_before, insert, sorted}
use Rattle.std.proofs.lemmas.Bool.{and_parts}
use Rattle.raster_vertex.proofs.Ranked.{total_or}
use Rattle.raster_vertex.proofs.Quarters.{quarter_mono}

-- what holds of each of two lists, if the test picks that one, holds of the one that it picks
picked : (Q : List Vertex → Type 0) (b : Bool) (x y : List Vertex) → (b ≡ true → Q x) → (b ≡ false → Q y) → Q (cond b x y)
picked Q true x y f g = f refl
picked Q false x y f g = g refl

-- ---- as many
insert_length : (v : Vertex) (ws : List Vertex) → length (insert v ws) ≡ suc (length ws)
unfolding insert
insert_length v [] = refl
insert_length v (w ∷ ws) =
    picked (λ (l : List Vertex). length l ≡ suc (suc (length ws))) (at_or_before v w) (v ∷ w ∷ ws) (w ∷ insert v ws) (λ h. refl) (λ h. ap suc (insert_length v ws))

pub sorted_length : (vs : List Vertex) → length (sorted vs) ≡ length vs
unfolding sorted
sorted_length [] = refl
sorted_length (v ∷ vs) = insert_length v (sorted vs) ∙ ap suc (sorted_length vs)

-- ---- the same ones
-- what holds of each
abbrev pub Each : (Vertex → Type 0) → List Vertex → Type 0
Each P [] = Unit
Each P (v ∷ vs) = P v × Each P vs

module _ (P : Vertex → Type 0) where
  insert_each : (v : Vertex) (ws : List Vertex) → P v → Each P ws → Each P (insert v ws)
  unfolding insert
  insert_each v [] p ps = (p, tt)
  insert_each v (w ∷ ws) p ps = picked (Each P) (at_or_before v w) (v ∷ w ∷ ws) (w ∷ insert v ws) (λ h. (p, ps)) (λ h. (ps.0, insert_each v ws p ps.1))

  -- What holds of each vertex holds of each after sorting: each that comes out is one that went in.
  pub sorted_each : (vs : List Vertex) → Each P vs → Each P (sorted vs)
  unfolding sorted
  sorted_each [] ps = tt
  sorted_each (v ∷ vs) ps = insert_each v (sorted vs) ps.0 (sorted_each vs ps.1)

  pub each_at : (vs : List Vertex) → Each P vs → (k : ℕ) → k < length vs → P (vertex_at vs k)
  each_at [] ps k h = absurd (not-suc-le-zero h)
  each_at (v ∷ vs) ps zero h = ps.0
  each_at (v ∷ vs) ps (suc k) h = each_at vs ps.1 k (le_of_suc-le-suc h)

-- ---- in order
abbrev Placed : Vertex → Type 0
Placed v = (is_finite v.x ≡ true) × (is_finite v.y ≡ true)

-- by the answers for y, each way, and for x
swap : (p q r s : Bool) → (p ≡ false → q ≡ true) → (r ≡ false → s ≡ true) → (p && (not q || r)) ≡ false → (q && (not p || s)) ≡ true
swap true true r s f g h = g h
swap true false r s f g h = absurd (true≢false h)
swap false true r s f g h = refl
swap false false r s f g h = f refl

-- of two vertices one is at or before the other
other_way : (a b : Vertex) → Placed a → Placed b → at_or_before a b ≡ false → at_or_before b a ≡ true
unfolding at_or_before
other_way a b p q h =
    swap (total_le a.y b.y) (total_le b.y a.y) (total_le a.x b.x) (total_le b.x a.x)
    (total_or a.y b.y p.1 q.1)
    (total_or a.x b.x p.0 q.0) h

abbrev First : Vertex → List Vertex → Type 0
First v [] = Unit
First v (w ∷ ws) = at_or_before v w ≡ true

abbrev InOrder : List Vertex → Type 0
InOrder [] = Unit
InOrder (v ∷ vs) = First v vs × InOrder vs

insert_first : (u v : Vertex) (ws : List Vertex) → at_or_before u v ≡ true → First u ws → First u (insert v ws)
unfolding insert
insert_first u v [] h f = h
insert_first u v (w ∷ ws) h f = picked (First u) (at_or_before v w) (v ∷ w ∷ ws) (w ∷ insert v ws) (λ q. h) (λ q. f)

insert_order : (v : Vertex) (ws : List Vertex) → Placed v → Each Placed ws → InOrder ws → InOrder (insert v ws)
unfolding insert
insert_order v [] p ps o = (tt, tt)
insert_order v (w ∷ ws) p ps o =
    picked InOrder (at_or_before v w) (v ∷ w ∷ ws) (w ∷ insert v ws) (λ h. (h, o))
    (λ h. (insert_first w v ws (other_way v w p ps.0 h) o.0, insert_order v ws p ps.1 o.1))

sorted_order : (vs : List Vertex) → Each Placed vs → InOrder (sorted vs)
unfolding sorted
sorted_order [] ps = tt
sorted_order (v ∷ vs) ps = insert_order v (sorted vs) ps.0 (sorted_each Placed vs ps.1) (sorted_order vs ps.1)

order_at : (vs : List Vertex) → InOrder vs → (k : ℕ) → suc k < length vs → at_or_before (vertex_at vs k) (vertex_at vs (suc k)) ≡ true
order_at [] o k h = absurd (not-suc-le-zero h)
order_at (v ∷ []) o k h = absurd (not-suc-le-zero (le_of_suc-le-suc h))
order_at (v ∷ w ∷ vs) o zero h = o.0
order_at (v ∷ w ∷ vs) o (suc k) h = order_at (w ∷ vs) o.1 k (le_of_suc-le-suc h)

-- ---- vertices in range
-- what lies between two finite floats is finite
between : (s : Bool) (m : ℕ) (e : ℤ) (t : Bool) (n : ℕ) (d : ℤ) (x : Float) → within (fin s m e) (fin t n d) x ≡ true → is_finite x ≡ true
unfolding le lt eq
between s m e t n d nan h = h
between s m e t n d (inf true) h = h
between s m e t n d (inf false) h = h
between s m e t n d (fin u k f) h = refl

-- a vertex is in range
abbrev pub InRange : Vertex → Type 0
InRange v = in_range v ≡ true

placed : (v : Vertex) → InRange v → Placed v
placed v h = (
  between true 1 (pos 10) false 4095 (negsuc 1) v.x (and_parts (in_range_x v.x) (in_range_y v.y) h).0,
  between true 1 (pos 11) false 8191 (negsuc 1) v.y (and_parts (in_range_x v.x) (in_range_y v.y) h).1,
)

each_placed : (vs : List Vertex) → Each InRange vs → Each Placed vs
each_placed [] rs = tt
each_placed (v ∷ vs) rs = (placed v rs.0, each_placed vs rs.1)

-- Sorted vertices in range stand from the top down, in `total_cmp`'s order of y ..
pub sorted_y : (vs : List Vertex) → Each InRange vs → (k : ℕ) → suc k < length vs → total_le (vertex_at (sorted vs) k).y (vertex_at (sorted vs) (suc k)).y ≡ true
unfolding at_or_before
sorted_y vs rs k h =
    let a = vertex_at (sorted vs) k in
    let b = vertex_at (sorted vs) (suc k) in
    (and_parts (total_le a.y b.y) _ (order_at (sorted vs) (sorted_order vs (each_placed vs rs)) k (subst (λ (n : ℕ). suc k < n) (sym (sorted_length vs)) h))).0

-- .. and in quarter units.
pub sorted_quarters : (vs : List Vertex) → Each InRange vs → (k : ℕ) → suc k < length vs → quarter_of (vertex_at (sorted vs) k).y ≤ℤ quarter_of (vertex_at (sorted vs) (suc k)).y
sorted_quarters vs rs k h = quarter_mono (vertex_at (sorted vs) k).y (vertex_at (sorted vs) (suc k)).y (sorted_y vs rs k h)
