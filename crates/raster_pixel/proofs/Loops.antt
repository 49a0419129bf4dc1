-- One law for every loop of a draw: over the pixels of a row, the rows of an area, the triangles of a list. A loop's body does part i. The invariant
-- says what is left: doing the rest on the state now equals doing all on the state at the start. So a turn needs no law of a list's end. Assumes nothing.
use mathlib.Core.Path.{◌≡◌, refl, sym, ap, subst, ◌∙◌}
use mathlib.Core.List.{List, foldl, foldl-append}
use Prim.Native.Nat.{ℕ, ◌+◌, ◌≤◌, ◌<◌}
use native.Mathlib.Omega.{arith}
use lib.ListN.{length, length-append}
use Rattle.raster_pixel.specs.Parts.{from}
use Rattle.raster_pixel.specs.Ran.{Ran}
use Rattle.raster_pixel.proofs.Parts.{from_none, from_join, from_one}

module _ {S E : Type 0} (step : S → E → S) where
  -- a loop over the parts from a up to b, with i the next: from s₀ to s, with n pixels counted
  pub record Going (c : ℕ → List E) (a b : ℕ) (s₀ : S) (i : ℕ) (s : S) (n : ℕ) : Type 0 where
    pub state : foldl step s (from c i b) ≡ foldl step s₀ (from c a b)
    pub count : n + length (from c i b) ≡ length (from c a b)

module _ {S E : Type 0} (step : S → E → S) (c : ℕ → List E) (a b : ℕ) (s₀ : S) where
  pub going_start : Going step c a b s₀ a s₀ 0
  going_start = record { state = refl; count = omega arith }

  -- the parts from i up to e
  module _ {i e n r : ℕ} {s t : S} (h : i ≤ e) (k : e ≤ b) (l : Going step c a b s₀ i s n) (d : Ran step (from c i e) s t r) where
    pub going_by_fits : n + r ≤ length (from c a b)
    going_by_fits = omega (arith, l.count, ap length (sym (from_join c i e b h k)) ∙ length-append (from c i e) (from c e b), d.count)

    pub going_by : Going step c a b s₀ e t (n + r)
    going_by =
        record {
          state =
              ap (λ (x : S). foldl step x (from c e b)) d.state
              ∙ sym (foldl-append step s (from c i e) (from c e b))
              ∙ ap (foldl step s) (from_join c i e b h k)
              ∙ l.state;
          count = omega (arith, l.count, ap length (sym (from_join c i e b h k)) ∙ length-append (from c i e) (from c e b), d.count);
        }

  -- part i
  module _ {i n r : ℕ} {s t : S} (h : i < b) (l : Going step c a b s₀ i s n) (d : Ran step (c i) s t r) where
    one : Ran step (from c i (i + 1)) s t r
    one = subst (λ (es : List E). Ran step es s t r) (sym (from_one c i)) d

    pub going_fits : n + r ≤ length (from c a b)
    going_fits = going_by_fits (omega arith) (omega arith) l one

    pub going_more : Going step c a b s₀ (i + 1) t (n + r)
    going_more = going_by (omega arith) (omega arith) l one

  pub going_done : {i n : ℕ} {s : S} → b ≤ i → Going step c a b s₀ i s n → Ran step (from c a b) s₀ s n
  going_done {i} {n} {s} h l =
      record {
        state = ap (foldl step s) (sym (from_none c i b h)) ∙ l.state;
        count = omega (arith, l.count, ap length (from_none c i b h));
      }
