-- One law for every loop of a walk: what two parts of a draw do, one after the other; and how many pixels the parts emit at most. Assumes nothing.
use Prim.Native.Nat.{ℕ, ◌+◌, ◌-◌, ◌*◌, ◌/◌, ◌≤◌}
use mathlib.Core.Path.{◌≡◌, refl, sym, ap, subst}
use mathlib.Core.Bool.{Bool}
use mathlib.Core.List.{List, [], ◌++◌}
use native.Mathlib.Omega.{arith}
use lib.Ieee.{Float}
use lib.ListN.{length, length-append}
use Rattle.std.specs.Prelude.{Option, Some, None}
use Rattle.raster_pixel.specs.declared.Fragment.{Fragment}
use Rattle.raster_pixel.specs.declared.Geometry.{Geometry}
use Rattle.raster_pixel.specs.declared.Geometry.TheVariants as geometry
use Rattle.raster_pixel.specs.Admitted.{triangle_at}
use Rattle.raster_pixel.specs.Emitted.{Emit, emits}
use Rattle.raster_pixel.specs.Parts.{from}
use Rattle.raster_pixel.specs.declared.Area.{Area}
use Rattle.raster_pixel.specs.declared.shapes.Shapes.{Shapes}
use Rattle.raster_pixel.specs.declared.view.View.{View}
use Rattle.raster_pixel.specs.Area.{area_of, Bounded}
use Rattle.raster_pixel.proofs.Inside.{bounded}
use Rattle.raster_pixel.proofs.Parts.{parts_bound, from_none, from_join, from_one}
use Rattle.rasterize_slow.specs.declared.Shape.{Shape}
use Rattle.rasterize_slow.specs.declared.Shape.TheVariants.{Rectangle}
use Rattle.rasterize_slow.specs.Shape.{walk_of, optional_fragment, pixel_emits, row_emits, shape_emits, three_shape, walk_emits}
use Rattle.rasterize_slow.specs.Sent.{counted, Sent}

module _ {S : Type 0} {took : List Emit → S → S → Type 0} where
  -- the same pixels, said otherwise
  pub sent_as : {ds es : List Emit} {s t : S} {n : ℕ} → ds ≡ es → Sent took ds s t n → Sent took es s t n
  sent_as {s = s} {t} {n} e d = subst (λ (l : List Emit). Sent took l s t n) e d

  module _ (then : (es fs : List Emit) (s t u : S) → took es s t → took fs t u → took (es ++ fs) s u) where
    -- one part and then another
    pub sent_then : {es fs : List Emit} {s t u : S} {n m r : ℕ} → r ≡ counted (n + m) → Sent took es s t n → Sent took fs t u m → Sent took (es ++ fs) s u r
    sent_then {es} {fs} {s} {t} {u} sum d e =
        record { taken = then es fs s t u d.taken e.taken; count = omega (arith, sum, d.count, e.count, length-append es fs) }

  -- a loop over the parts from a on: those up to i are done
  module _ (c : ℕ → List Emit) (a : ℕ) {s : S} where
    pub sending_start : {i : ℕ} → i ≤ a → took [] s s → Sent took (from c a i) s s 0
    sending_start {i} p none = sent_as (sym (from_none c a i p)) (record { taken = none; count = omega arith })

    pub sending_more :
        ((es fs : List Emit) (s t u : S) → took es s t → took fs t u → took (es ++ fs) s u)
        → {i : ℕ} {t u : S} {n m r : ℕ} → r ≡ counted (n + m) → a ≤ i → Sent took (from c a i) s t n → Sent took (c i) t u m → Sent took (from c a (i + 1)) s u r
    sending_more then {i} sum p l d = sent_as (from_join c a i (i + 1) p (omega arith)) (sent_then then sum l (sent_as (sym (from_one c i)) d))

    pub sending_done : {i b : ℕ} {t : S} {n : ℕ} → b ≡ i → Sent took (from c a i) s t n → Sent took (from c a b) s t n
    sending_done e l = sent_as (ap (from c a) (sym e)) l

-- ---- the most that is emitted: by a pixel one, by a frame's row 1,024, by a shape 1,024 rows, and so by a draw of so few triangles no more than can be counted
module _ (u : View) (d : Shapes) where
  pixel_most : (shape : Option Shape) (y x : ℕ) → length (pixel_emits (walk_of u d) shape y x) ≤ 1
  pixel_most shape y x = go (optional_fragment d.mode.antialias d.combiner shape y x)
    where
      go : (f : Option Fragment) → length (emits f (y * u.width + x)) ≤ 1
      go None = omega arith
      go (Some f) = omega arith

  pixels_most : (shape : Option Shape) (y a b : ℕ) → length (from (pixel_emits (walk_of u d) shape y) a b) ≤ b - a
  pixels_most shape y a b = omega (arith, parts_bound (pixel_emits (walk_of u d) shape y) 1 (pixel_most shape y) (b - a) a)

  inside : Bounded (walk_of u d).area u.width u.height
  inside = bounded u.scissor u.width u.height refl

  row_most : (shape : Option Shape) (y : ℕ) → length (row_emits (walk_of u d) shape y) ≤ 1024
  row_most shape y =
      let a = (walk_of u d).area in
      omega (arith, pixels_most shape y a.left a.right, inside.right_in, u.sized.width_small)

  rows_most : (shape : Option Shape) (a b : ℕ) → length (from (row_emits (walk_of u d) shape) a b) ≤ (b - a) * 1024
  rows_most shape a b = parts_bound (row_emits (walk_of u d) shape) 1024 (row_most shape) (b - a) a

  shape_most : (shape : Option Shape) → length (shape_emits (walk_of u d) shape) ≤ 1048576
  shape_most shape =
      let a = (walk_of u d).area in
      omega (arith, rows_most shape a.top a.bottom, inside.bottom_in, u.sized.height_small)

  shapes_most : (t : ℕ → Option Shape) (a b : ℕ) → length (from (λ (i : ℕ). shape_emits (walk_of u d) (t i)) a b) ≤ (b - a) * 1048576
  shapes_most t a b = parts_bound (λ (i : ℕ). shape_emits (walk_of u d) (t i)) 1048576 (λ i. shape_most (t i)) (b - a) a

  pub walk_most :
      (cull : Bool) (vs : List Float) (ps is : List ℕ) (g : Geometry) → length is ≤ 12288 → length (walk_emits (walk_of u d) cull vs ps is g) ≤ 4294967296
  walk_most cull vs ps is geometry.Nothing few = omega arith
  walk_most cull vs ps is (geometry.Rectangle sides) few = omega (arith, shape_most (Some (Rectangle sides)))
  walk_most cull vs ps is geometry.Triangles few = omega (arith, few, shapes_most (λ (i : ℕ). three_shape cull (triangle_at vs ps is i)) 0 (length is / 3))

-- the area of the same view
pub area_same : {u v : View} → u ≡ v → {a : Area} → a ≡ area_of u.scissor u.width u.height → a ≡ area_of v.scissor v.width v.height
area_same e {a} p = subst (λ (w : View). a ≡ area_of w.scissor w.width w.height) e p
