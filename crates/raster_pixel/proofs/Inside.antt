-- A scissor's area: it lies inside the frame, and going over its rows and columns is going over the pixels inside the scissor. Where the scissor starts
-- past the frame's end, both are empty. Assumes nothing.
use mathlib.Core.Path.{◌≡◌, sym, ap, subst, ◌∙◌}
use mathlib.Core.List.{List}
use Prim.Native.Nat.{ℕ, ◌≤◌, min}
use native.Mathlib.Omega.{arith}
use native.Mathlib.Decide.{dec_le}
use Rattle.raster_pixel.specs.declared.Scissor.{Scissor}
use Rattle.raster_pixel.specs.declared.Area.{Area}
use Rattle.raster_pixel.specs.Parts.{from}
use Rattle.raster_pixel.specs.Area.{right_of, bottom_of, area_of, Bounded}
use Rattle.raster_pixel.specs.Emitted.{inside}
use Rattle.raster_pixel.proofs.Parts.{from_none}

area_bounded : (s : Scissor) (w h : ℕ) → Bounded (area_of s w h) w h
unfolding area_of
area_bounded s w h = record { across = omega arith; right_in = omega arith; down = omega arith; bottom_in = omega arith }

pub bounded : (s : Scissor) (w h : ℕ) {a : Area} → a ≡ area_of s w h → Bounded a w h
bounded s w h e = subst (λ (a : Area). Bounded a w h) (sym e) (area_bounded s w h)

-- a start past the end may as well be the end
from_least : {A : Type 0} (c : ℕ → List A) (a b : ℕ) → from c a b ≡ from c (min a b) b
from_least c a b = by (dec_le a b)
  where
    by : Dec (a ≤ b) → from c a b ≡ from c (min a b) b
    by (yes h) =
        let e : a ≡ min a b = omega arith in
        ap (λ (n : ℕ). from c n b) e
    by (no h) = from_none c a b (omega arith) ∙ sym (from_none c (min a b) b (omega arith))

pub inside_area : {A : Type 0} (s : Scissor) (w h : ℕ) (pixel : ℕ → ℕ → List A)
    → (let a = area_of s w h in inside s w h pixel ≡ from (λ (y : ℕ). from (pixel y) a.left a.right) a.top a.bottom)
unfolding area_of
inside_area s w h pixel =
    (λ i. from (λ (y : ℕ). from_least (pixel y) s.left (right_of s w) i) s.top (bottom_of s h))
    ∙ from_least (λ (y : ℕ). from (pixel y) (min s.left (right_of s w)) (right_of s w)) s.top (bottom_of s h)
