-- A pixel stored keeps frames alike. Alike frames are frames with the same marks of which one knows at least what the other knows, so that is the law of proofs/Knows.
-- Numbers 1 to 3 are the same for alike frames. Assumes nothing.
use Prim.Native.Nat.{ℕ, suc, ◌*◌}
use mathlib.Core.Path.{◌≡◌, refl, sym, ap, ap₂, ◌∙◌}
use mathlib.Core.Bool.{Bool, true, false, not, ◌&&◌, ◌||◌}
use mathlib.Core.List.{List, [], ◌∷◌}
use native.Mathlib.Omega.{arith}
use lib.Dec.{leb}
use lib.ListN.{length, get_or, set, length-set}
use Rattle.frame_pixel.specs.declared.Pixel.{Pixel}
use Rattle.frame_pixel.specs.Marks.{highest_mark, color_marked, coverage_marked}
use Rattle.frame_pixel.specs.Alike.{AlikePixel}
use Rattle.frame_pixel.specs.Knows.{KnowsPixel}
use Rattle.frame.specs.Frame.{Frame, put_pixel}
use Rattle.frame.specs.Checks.{lengths_ok, mark_ok, marks_ok, frame_refusal}
use Rattle.frame.specs.Alike.{Alike}
use Rattle.frame.specs.Knows.{KnowsFrame}
use Rattle.frame.proofs.Knows.{put_knows}

-- ---- alike: the same marks, and no less is known
alike_knows : {x y : Pixel} → AlikePixel x y → KnowsPixel y x
alike_knows h =
    record {
      mark1 = λ t. sym (ap color_marked h.mark) ∙ t;
      red = λ t. sym (h.red t);
      green = λ t. sym (h.green t);
      blue = λ t. sym (h.blue t);
      mark2 = λ t. sym (ap coverage_marked h.mark) ∙ t;
      coverage = λ t. sym (h.coverage t);
    }

knows_alike : {x y : Pixel} → x.mark ≡ y.mark → KnowsPixel y x → AlikePixel x y
knows_alike e h =
    record {
      mark = e;
      red = λ t. sym (h.red t);
      green = λ t. sym (h.green t);
      blue = λ t. sym (h.blue t);
      coverage = λ t. sym (h.coverage t);
    }

frame_knows : {f g : Frame} → Alike f g → KnowsFrame g f
frame_knows a =
    record {
      colors = sym a.colors;
      coverages = sym a.coverages;
      marks = sym (ap length a.marks);
      pixels = λ (p : ℕ). alike_knows (a.pixels p);
    }

module _ (f g : Frame) (p : ℕ) (x y : Pixel) (h : Alike f g) (c : AlikePixel x y) where
  marks_put : set f.marks p x.mark ≡ set g.marks p y.mark
  marks_put = ap₂ (λ (l : List ℕ) (a : ℕ). set l p a) h.marks c.mark

  pub put_alike : Alike (put_pixel f p x) (put_pixel g p y)
  put_alike =
      record {
        colors = simp length-set h.colors;
        coverages = simp length-set h.coverages;
        marks = marks_put;
        pixels = λ (q : ℕ). knows_alike (ap (λ (l : List ℕ). get_or l q 0) marks_put) ((put_knows g f p y x (frame_knows h) (alike_knows c)).pixels q);
      }

-- ---- numbers 1 to 3 look at lengths, at marks and at known coverages
mark_same : (m c d : ℕ) → (coverage_marked m ≡ true → c ≡ d) → mark_ok m c ≡ mark_ok m d
unfolding mark_ok
mark_same m c d h = ap (λ (t : Bool). leb m highest_mark && t) (go (coverage_marked m) h)
  where
    go : (b : Bool) → (b ≡ true → c ≡ d) → (not b || leb c 7) ≡ (not b || leb d 7)
    go true h = ap (λ (k : ℕ). leb k 7) (h refl)
    go false h = refl

marks_same :
    (cs ds ms : List ℕ) → length cs ≡ length ds → ((p : ℕ) → coverage_marked (get_or ms p 0) ≡ true → get_or cs p 0 ≡ get_or ds p 0)
    → marks_ok cs ms ≡ marks_ok ds ms
unfolding marks_ok
marks_same [] [] ms e h = refl
marks_same [] (d ∷ ds) ms e h = absurd (omega arith)
marks_same (c ∷ cs) [] ms e h = absurd (omega arith)
marks_same (c ∷ cs) (d ∷ ds) [] e h = refl
marks_same (c ∷ cs) (d ∷ ds) (m ∷ ms) e h =
    ap₂ (λ (a b : Bool). a && b) (mark_same m c d (h 0)) (marks_same cs ds ms (omega arith) (λ (p : ℕ). h (suc p)))

module _ (w h : ℕ) {f g : Frame} (a : Alike f g) where
  pub refusal_same : frame_refusal f w h ≡ frame_refusal g w h
  unfolding frame_refusal
  refusal_same = rw (lengths, ← a.marks, marks_same f.coverages g.coverages f.marks a.coverages (λ (p : ℕ). (a.pixels p).coverage))
    where
      lengths : lengths_ok f (w * h) ≡ lengths_ok g (w * h)
      lengths = rw (a.colors, a.coverages, a.marks)
