-- What numbers 1 to 3 leave of a frame that they do not refuse: slices of their lengths, no mark above the highest, and no known coverage above 7. A frame of
-- which that holds is not refused, and a pixel stored with such a mark and coverage keeps it so. Assumes nothing.
use Prim.Native.Nat.{ℕ, zero, suc, ◌*◌, ◌≤◌}
use mathlib.Core.Path.{◌≡◌, refl, sym, ◌∙◌}
use mathlib.Core.Bool.{Bool, true, false, cond, not, ◌&&◌, ◌||◌}
use mathlib.Core.List.{List, [], ◌∷◌}
use native.Mathlib.Nat.{le_trans, mul-le-mul_left, mul-le-mul_right}
use native.Mathlib.Omega.{arith}
use borrow.Author.Tests.{leb-true, eqb-true, le-leb, eq-eqb}
use lib.Dec.{leb, eqb}
use lib.ListN.{length, get_or, set, length-set}
use Rattle.frame_pixel.specs.declared.Pixel.{Pixel}
use Rattle.frame_pixel.specs.Marks.{highest_mark, coverage_marked, coverage_of}
use Rattle.blender.specs.Blend.{or_zero}
use Rattle.std.proofs.lemmas.Bool.{and_parts}
use Rattle.std.specs.Prelude.{None, Some}
use Rattle.frame.specs.Frame.{Frame, put_pixel}
use Rattle.frame.specs.Fits.{Fit, Accepted, AllLoadable}
use Rattle.frame.specs.Shown.{seen}
use Rattle.frame.specs.declared.Frame as lent
use Rattle.frame.specs.Checks.{size_ok, sizes_ok, lengths_ok, mark_ok, marks_ok, frame_refusal}

-- ---- number 3 at one pixel: what it asks, taken apart and put together
module _ (m c : ℕ) where
  mark_low : mark_ok m c ≡ true → m ≤ highest_mark
  unfolding mark_ok
  mark_low h = leb-true m highest_mark (and_parts (leb m highest_mark) (not (coverage_marked m) || leb c 7) h).0

  mark_le : mark_ok m c ≡ true → or_zero (coverage_of m c) ≤ 7
  unfolding mark_ok
  mark_le h = go (coverage_marked m) (and_parts (leb m highest_mark) (not (coverage_marked m) || leb c 7) h).1
    where
      go : (b : Bool) → (not b || leb c 7) ≡ true → or_zero (cond b (Some c) None) ≤ 7
      go true p = leb-true c 7 p
      go false p = omega arith

  pub mark_good : m ≤ highest_mark → or_zero (coverage_of m c) ≤ 7 → mark_ok m c ≡ true
  unfolding mark_ok
  mark_good l h = λ i. le-leb m highest_mark l i && go (coverage_marked m) h i
    where
      go : (b : Bool) → or_zero (cond b (Some c) None) ≤ 7 → (not b || leb c 7) ≡ true
      go true p = le-leb c 7 p
      go false p = refl

-- ---- and at every pixel
marks_at : (cs ms : List ℕ) → length cs ≡ length ms → marks_ok cs ms ≡ true → (p : ℕ) → mark_ok (get_or ms p 0) (get_or cs p 0) ≡ true
unfolding marks_ok mark_ok
marks_at [] [] e h p = refl
marks_at [] (m ∷ ms) e h p = absurd (omega arith)
marks_at (c ∷ cs) [] e h p = absurd (omega arith)
marks_at (c ∷ cs) (m ∷ ms) e h zero = (and_parts (mark_ok m c) (marks_ok cs ms) h).0
marks_at (c ∷ cs) (m ∷ ms) e h (suc p) = marks_at cs ms (omega arith) (and_parts (mark_ok m c) (marks_ok cs ms) h).1 p

marks_all : (cs ms : List ℕ) → ((p : ℕ) → mark_ok (get_or ms p 0) (get_or cs p 0) ≡ true) → marks_ok cs ms ≡ true
unfolding marks_ok
marks_all [] ms h = refl
marks_all (c ∷ cs) [] h = refl
marks_all (c ∷ cs) (m ∷ ms) h = λ i. h 0 i && marks_all cs ms (λ p. h (suc p)) i

-- with one pixel stored
marks_put : (cs ms : List ℕ) (p c m : ℕ) → mark_ok m c ≡ true → marks_ok cs ms ≡ true → marks_ok (set cs p c) (set ms p m) ≡ true
unfolding marks_ok
marks_put [] ms p c m h t = refl
marks_put (d ∷ cs) [] zero c m h t = refl
marks_put (d ∷ cs) [] (suc p) c m h t = refl
marks_put (d ∷ cs) (l ∷ ms) zero c m h t = λ i. h i && (and_parts (mark_ok l d) (marks_ok cs ms) t).1 i
marks_put (d ∷ cs) (l ∷ ms) (suc p) c m h t =
    λ i. (and_parts (mark_ok l d) (marks_ok cs ms) t).0 i && marks_put cs ms p c m h (and_parts (mark_ok l d) (marks_ok cs ms) t).1 i

-- ---- a frame that is not refused
size_range : (n : ℕ) → size_ok n ≡ true → (1 ≤ n) × (n ≤ 1024)
size_range n p = (leb-true 1 n (and_parts (leb 1 n) (leb n 1024) p).0, leb-true n 1024 (and_parts (leb 1 n) (leb n 1024) p).1)

pub pixels_le : (w h : ℕ) → w ≤ 1024 → h ≤ 1024 → w * h ≤ 1048576
pixels_le w h a b = le_trans (mul-le-mul_left w b) (mul-le-mul_right 1024 a)

pub lengths_fit : (f : Frame) (n : ℕ) → lengths_ok f n ≡ true → marks_ok f.coverages f.marks ≡ true → Fit n f
lengths_fit f n p s =
    let a = eqb (length f.colors) (3 * n) in
    let b = eqb (length f.coverages) n in
    let c = eqb (length f.marks) n in
    let rest : (b && c) ≡ true = (and_parts a (b && c) p).1 in
    let k : length f.coverages ≡ n = eqb-true (length f.coverages) n (and_parts b c rest).0 in
    let m : length f.marks ≡ n = eqb-true (length f.marks) n (and_parts b c rest).1 in
    let at = marks_at f.coverages f.marks (k ∙ sym m) s in
    record {
      colors = eqb-true (length f.colors) (3 * n) (and_parts a (b && c) p).0;
      coverages = k;
      marks = m;
      low = λ i. mark_low (get_or f.marks i 0) (get_or f.coverages i 0) (at i);
      sound = λ i. mark_le (get_or f.marks i 0) (get_or f.coverages i 0) (at i);
    }

module _ {f : Frame} {n : ℕ} (h : Fit n f) where
  fit_lengths : lengths_ok f n ≡ true
  fit_lengths =
      λ i.
      eq-eqb (length f.colors) (3 * n) h.colors i
      && (eq-eqb (length f.coverages) n h.coverages i && eq-eqb (length f.marks) n h.marks i)

  fit_marks : marks_ok f.coverages f.marks ≡ true
  fit_marks = marks_all f.coverages f.marks (λ p. mark_good (get_or f.marks p 0) (get_or f.coverages p 0) (h.low p) (h.sound p))

  -- a pixel stored whose mark and coverage number 3 lets through keeps a frame that fits
  pub put_fit : (p : ℕ) (x : Pixel) → mark_ok x.mark x.coverage ≡ true → Fit n (put_pixel f p x)
  put_fit p x t =
      lengths_fit (put_pixel f p x) n (simp length-set fit_lengths) (marks_put f.coverages f.marks p x.coverage x.mark t fit_marks)

-- a frame that numbers 1 to 3 do not refuse is one of w by h pixels that fits
pub accepted : (f : Frame) (w h : ℕ) → frame_refusal f w h ≡ 0 → Accepted f w h
unfolding frame_refusal
accepted f w h p = go (sizes_ok w h) refl (lengths_ok f (w * h)) refl (marks_ok f.coverages f.marks) refl p
  where
    go :
        (s : Bool) → sizes_ok w h ≡ s → (l : Bool) → lengths_ok f (w * h) ≡ l → (m : Bool) → marks_ok f.coverages f.marks ≡ m
        → ◌≡◌ {A = ℕ} (cond s (cond l (cond m 0 3) 2) 1) 0
        → Accepted f w h
    go false hs l hl m hm q = absurd (omega arith)
    go true hs false hl m hm q = absurd (omega arith)
    go true hs true hl false hm q = absurd (omega arith)
    go true hs true hl true hm q =
        let a = size_range w (and_parts (size_ok w) (size_ok h) hs).0 in
        let b = size_range h (and_parts (size_ok w) (size_ok h) hs).1 in
        record { width = a; height = b; few = pixels_le w h a.1 b.1; fit = lengths_fit f (w * h) hl hm }

-- so that each pixel's bytes are there where they are known
pub all_loadable : (f : Frame) (w h : ℕ) → Accepted f w h → AllLoadable f
all_loadable f w h a p l =
    record {
      mark = l;
      color = λ _. omega (arith, l, a.fit.colors, a.fit.marks);
      coverage = λ _. omega (arith, l, a.fit.coverages, a.fit.marks);
      sound = a.fit.sound p;
    }

-- and such a frame is not refused
pub not_refused : (f : Frame) (w h : ℕ) → Accepted f w h → frame_refusal f w h ≡ 0
unfolding frame_refusal
not_refused f w h a = rw (sizes, fit_lengths a.fit, fit_marks a.fit)
  where
    size : (n : ℕ) → (1 ≤ n) × (n ≤ 1024) → size_ok n ≡ true
    size n r = λ i. le-leb 1 n r.0 i && le-leb n 1024 r.1 i

    sizes : sizes_ok w h ≡ true
    sizes = λ i. size w a.width i && size h a.height i

-- A frame that numbers 1 to 3 accept is accepted with a pixel stored whose mark is at most the highest and whose coverage, if it is known, at most 7.
pub put_accepted : (f : Frame) (w h p : ℕ) (x : Pixel) → mark_ok x.mark x.coverage ≡ true → frame_refusal f w h ≡ 0 → frame_refusal (put_pixel f p x) w h ≡ 0
put_accepted f w h p x t e =
    let a = accepted f w h e in
    not_refused (put_pixel f p x) w h (record { width = a.width; height = a.height; few = a.few; fit = put_fit a.fit p x t })

-- so is a frame to be read
pub seen_good : (f : lent.Frame) → frame_refusal (seen f) f.width f.height ≡ 0
seen_good f = not_refused (seen f) f.width f.height f.accepted
