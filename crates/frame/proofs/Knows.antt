-- A pixel stored on two frames, of which the first knows at least what the second knows, keeps them so: it changes the five bytes of one pixel and no other. The
-- slices may have any lengths: what is stored past an end is lost on both frames. A pixel of which everything is known keeps a frame on which everything is known.
-- Assumes nothing.
use Prim.Native.Nat.{ℕ, zero, suc, ◌+◌, ◌*◌, ◌<◌}
use mathlib.Core.Path.{◌≡◌, refl, sym, ap, subst, ◌∙◌}
use mathlib.Core.Bool.{Bool, true, false}
use mathlib.Core.List.{List, [], ◌∷◌}
use mathlib.Core.Logic.{◌≢◌}
use native.Mathlib.Decide.{ℕ_discrete}
use native.Mathlib.Omega.{arith}
use lib.ListN.{length, get_or, set, length-set}
use lib.Seq.{get_or-set_same, get_or-set_other}
use Rattle.frame_pixel.specs.declared.Pixel.{Pixel}
use Rattle.frame_pixel.specs.Marks.{color_marked, coverage_marked}
use Rattle.frame_pixel.specs.Knows.{KnowsPixel, AllKnownPixel}
use Rattle.std.proofs.lemmas.Bool.{false≢true}
use Rattle.frame.specs.Frame.{Frame, pixel_at, put_pixel}
use Rattle.frame.specs.Knows.{KnowsFrame, AllKnown}

-- ---- one list
-- what a test reads back is what was stored, unless nothing was
read_back : (t : ℕ → Bool) → t 0 ≡ false → (l : List ℕ) (i a : ℕ) → t (get_or (set l i a) i 0) ≡ true → t a ≡ true
read_back t z [] i a p = absurd (false≢true (sym z ∙ p))
read_back t z (x ∷ l) zero a p = p
read_back t z (x ∷ l) (suc i) a p = read_back t z l i a p

same_back : (l k : List ℕ) (i a : ℕ) → length l ≡ length k → get_or (set l i a) i 0 ≡ get_or (set k i a) i 0
same_back [] [] i a e = refl
same_back [] (y ∷ k) i a e = absurd (omega arith)
same_back (x ∷ l) [] i a e = absurd (omega arith)
same_back (x ∷ l) (y ∷ k) zero a e = refl
same_back (x ∷ l) (y ∷ k) (suc i) a e = same_back l k i a (omega arith)

-- if the second stored value passes a test whenever the first does, so it is with what is read back
read_more :
    (t : ℕ → Bool) → t 0 ≡ false → (l k : List ℕ) (i a b : ℕ) → length k ≡ length l → (t a ≡ true → t b ≡ true)
    → t (get_or (set l i a) i 0) ≡ true → t (get_or (set k i b) i 0) ≡ true
read_more t z [] k i a b e h p = absurd (false≢true (sym z ∙ p))
read_more t z (x ∷ l) [] i a b e h p = absurd (omega arith)
read_more t z (x ∷ l) (y ∷ k) zero a b e h p = h p
read_more t z (x ∷ l) (y ∷ k) (suc i) a b e h p = read_more t z l k i a b (omega arith) h p

skip : (l : List ℕ) (i j a : ℕ) → j ≢ i → get_or (set l i a) j 0 ≡ get_or l j 0
skip l i j a n = get_or-set_other l i j a 0 n

-- ---- a frame with one pixel stored: the bytes of another pixel
pub other : (f : Frame) (p q : ℕ) (x : Pixel) → q ≢ p → pixel_at (put_pixel f p x) q ≡ pixel_at f q
other f p q x n = λ i. record {
  red = color (3 * q) (omega arith) (omega arith) (omega arith) i;
  green = color (3 * q + 1) (omega arith) (omega arith) (omega arith) i;
  blue = color (3 * q + 2) (omega arith) (omega arith) (omega arith) i;
  coverage = skip f.coverages p q x.coverage n i;
  mark = skip f.marks p q x.mark n i;
}
  where
    color : (j : ℕ) → j ≢ 3 * p → j ≢ 3 * p + 1 → j ≢ 3 * p + 2 → get_or (put_pixel f p x).colors j 0 ≡ get_or f.colors j 0
    color j a b c = rw (skip, skip, skip)

-- the colour bytes of the pixel itself: stores at other places do not show
abbrev put3 : List ℕ → ℕ → ℕ → ℕ → ℕ → List ℕ
put3 l p x y z = set (set (set l (3 * p) x) (3 * p + 1) y) (3 * p + 2) z

first : (l : List ℕ) (p r g b : ℕ) → get_or (put3 l p r g b) (3 * p) 0 ≡ get_or (set l (3 * p) r) (3 * p) 0
first l p r g b =
    let h : 3 * p ≢ 3 * p + 1 = omega arith in
    let k : 3 * p ≢ 3 * p + 2 = omega arith in
    rw (skip, skip)

second : (l : List ℕ) (p r g b : ℕ) → get_or (put3 l p r g b) (3 * p + 1) 0 ≡ get_or (set (set l (3 * p) r) (3 * p + 1) g) (3 * p + 1) 0
second l p r g b = let h : 3 * p + 1 ≢ 3 * p + 2 = omega arith in rw skip

module _ (g f : Frame) (p : ℕ) (y x : Pixel) (h : KnowsFrame g f) (c : KnowsPixel y x) where
  was_marked : color_marked (get_or (set f.marks p x.mark) p 0) ≡ true → color_marked x.mark ≡ true
  was_marked t = read_back color_marked refl f.marks p x.mark t

  was_covered : coverage_marked (get_or (set f.marks p x.mark) p 0) ≡ true → coverage_marked x.mark ≡ true
  was_covered t = read_back coverage_marked refl f.marks p x.mark t

  abbrev colors_put : Frame → Pixel → List ℕ
  colors_put k z = put3 k.colors p z.red z.green z.blue

  red_back : y.red ≡ x.red → get_or (colors_put g y) (3 * p) 0 ≡ get_or (colors_put f x) (3 * p) 0
  red_back e =
      rw (first g.colors p y.red y.green y.blue, first f.colors p x.red x.green x.blue, e)
      (same_back g.colors f.colors (3 * p) x.red h.colors)

  green_back : y.green ≡ x.green → get_or (colors_put g y) (3 * p + 1) 0 ≡ get_or (colors_put f x) (3 * p + 1) 0
  green_back e =
      rw (second g.colors p y.red y.green y.blue, second f.colors p x.red x.green x.blue, e)
      (same_back (set g.colors (3 * p) y.red) (set f.colors (3 * p) x.red) (3 * p + 1) x.green (simp length-set h.colors))

  blue_back : y.blue ≡ x.blue → get_or (colors_put g y) (3 * p + 2) 0 ≡ get_or (colors_put f x) (3 * p + 2) 0
  blue_back e =
      rw e
      (same_back
      (set (set g.colors (3 * p) y.red) (3 * p + 1) y.green)
      (set (set f.colors (3 * p) x.red) (3 * p + 1) x.green)
      (3 * p + 2)
      x.blue
      (simp length-set h.colors))

  here : KnowsPixel (pixel_at (put_pixel g p y) p) (pixel_at (put_pixel f p x) p)
  here =
      record {
        mark1 = λ t. read_more color_marked refl f.marks g.marks p x.mark y.mark h.marks c.mark1 t;
        red = λ t. red_back (c.red (was_marked t));
        green = λ t. green_back (c.green (was_marked t));
        blue = λ t. blue_back (c.blue (was_marked t));
        mark2 = λ t. read_more coverage_marked refl f.marks g.marks p x.mark y.mark h.marks c.mark2 t;
        coverage = λ t. rw (c.coverage (was_covered t)) (same_back g.coverages f.coverages p x.coverage h.coverages);
      }

  pub put_knows : KnowsFrame (put_pixel g p y) (put_pixel f p x)
  put_knows =
      record {
        colors = simp length-set h.colors;
        coverages = simp length-set h.coverages;
        marks = simp length-set h.marks;
        pixels = λ (q : ℕ). at q (ℕ_discrete q p);
      }
    where
      at : (q : ℕ) → Dec (q ≡ p) → KnowsPixel (pixel_at (put_pixel g p y) q) (pixel_at (put_pixel f p x) q)
      at q (yes e) = subst (λ (j : ℕ). KnowsPixel (pixel_at (put_pixel g p y) j) (pixel_at (put_pixel f p x) j)) (sym e) here
      at q (no n) = rw (other g p q y n, other f p q x n) (h.pixels q)

-- ---- a frame on which everything is known
pub put_all_known : (f : Frame) (p : ℕ) (x : Pixel) → (p < length f.marks → AllKnownPixel x) → AllKnown f → AllKnown (put_pixel f p x)
put_all_known f p x h a = record { pixels = λ (q : ℕ) (l : q < length (set f.marks p x.mark)). at q (ℕ_discrete q p) (simp length-set at l) }
  where
    at : (q : ℕ) → Dec (q ≡ p) → q < length f.marks → AllKnownPixel (pixel_at (put_pixel f p x) q)
    at q (yes e) l =
        let j : p < length f.marks = omega arith in
        subst (λ (r : ℕ). AllKnownPixel (pixel_at (put_pixel f p x) r)) (sym e)
        (record {
          mark1 = ap color_marked (get_or-set_same f.marks p x.mark 0 j) ∙ (h j).mark1;
          mark2 = ap coverage_marked (get_or-set_same f.marks p x.mark 0 j) ∙ (h j).mark2;
        })
    at q (no n) l = rw (other f p q x n) (a.pixels q l)
