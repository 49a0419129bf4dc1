-- A pixel's column and row, counted along a run, and its word from them, which is `encode`'s. Assumes nothing.
use Prim.Native.Nat.{ℕ, ◌/◌, ◌%◌, ◌<◌}
use mathlib.Core.Path.{◌≡◌, refl, sym, ap, subst, ◌∙◌}
use mathlib.Core.Bool.{Bool, true, false, cond, not, ◌&&◌, ◌||◌}
use native.Mathlib.Nat.{mod-eq_of_lt, div-eq_of_lt, mul-add-mod_self_right, mul-add-div_right}
use native.Mathlib.Omega.{arith}
use borrow.Author.Tests.{eqb-true}
use lib.Dec.{eqb, leb}
use lib.ListN.{length, get_or}
use Rattle.frame_pixel.specs.declared.Pixel.{Pixel}
use Rattle.frame_pixel.specs.Marks.{color_marked, coverage_marked, coverage_of}
use Rattle.blender.specs.Blend.{or_zero}
use Rattle.std.proofs.lemmas.Bool.{false≢true, and_parts}
use Rattle.words_pack.specs.declared.FramebufferEncoding.{FramebufferEncoding}
use Rattle.std.specs.Prelude.{None}
use Rattle.words_pack.specs.declared.Bytes2.{Bytes2}
use Rattle.words_pack.specs.Writer.{color_supported, supported_of, pixel_bytes_of, color_of, encode_of}
use Rattle.words_pack.proofs.Encoded.{encode_by, absent_by, color_by}
use Rattle.frame.specs.Frame.{Frame, pixel_at}
use Rattle.frame.specs.Checks.{frame_refusal}
use Rattle.frame.proofs.Loads.{marked_coverage}
use Rattle.words_read.specs.Read.{ReadArgs, WordAnswer, writer_by, writer_of, readable, bytes_of, word_by, word_of, word_or, read_answer}
use Rattle.words_run.specs.Entries.{word_at, answer_at, answer_in, At}
use Rattle.words_run.specs.declared.entry.Place.{Place}
use Rattle.words_read.proofs.Reading.{tenth, read}

-- ---- column and row
module _ {w p : ℕ} {q : Place} (a : At w p q) where
  pub column_is : p % w ≡ q.x
  column_is = ap (λ (n : ℕ). n % w) (sym a.place) ∙ mul-add-mod_self_right q.y w q.x ∙ mod-eq_of_lt a.inside

  pub row_is : p / w ≡ q.y
  row_is =
      let h : 0 < w = omega (arith, a.inside) in
      ap (λ (n : ℕ). n / w) (sym a.place) ∙ mul-add-div_right h q.y q.x ∙ (omega (arith, div-eq_of_lt a.inside))

  pub answer_here :
      (siz dither : ℕ) (e : FramebufferEncoding) (f : Frame)
      → answer_at siz q.x q.y dither e (pixel_at f p) ≡ answer_in w siz dither e f p
  answer_here siz dither e f = λ i. answer_at siz (sym column_is i) (sym row_is i) dither e (pixel_at f p)

-- ---- what number 10 leaves for 16 bits: a known coverage
marked_for_two : (mark : ℕ) → readable mark 2 ≡ true → coverage_marked mark ≡ true
marked_for_two mark h = go (coverage_marked mark) (and_parts (color_marked mark) (coverage_marked mark || not (eqb 2 2)) h).1
  where
    go : (b : Bool) → (b || false) ≡ true → b ≡ true
    go true p = refl
    go false p = p

-- ---- the word is `encode`'s
module _ (w fmt p dither : ℕ) (e : FramebufferEncoding) (c : Pixel) where
  -- a supported colour writer, with its size in numbers
  writes :
      (siz : ℕ) → supported_of (writer_by w fmt siz) ≡ true
      → encode_of (writer_by w fmt siz) (bytes_of c) (or_zero (coverage_of c.mark c.coverage)) p None dither e
      ≡ color_of (record { fmt = fmt; siz = siz; width = w }) (bytes_of c) (or_zero (coverage_of c.mark c.coverage)) p dither e
  writes siz s =
      let x = writer_by w fmt siz in
      let n = or_zero (coverage_of c.mark c.coverage) in
      encode_by x (bytes_of c) n p dither e None true s ∙ absent_by x (bytes_of c) n p dither e false refl

  two :
      supported_of (writer_by w fmt 2) ≡ true → readable c.mark 2 ≡ true
      → word_at 2 (p % w) (p / w) dither e (bytes_of c) c.coverage ≡ word_by (writer_by w fmt 2) p dither e c
  unfolding pixel_bytes_of
  two s r =
      (λ i. word_at 2 (p % w) (p / w) dither e (bytes_of c) (marked_coverage c.coverage (marked_for_two c.mark r) i))
      ∙ sym (color_by (record { fmt = fmt; siz = 2; width = w }) (bytes_of c) (or_zero (coverage_of c.mark c.coverage)) p dither e false refl)
      ∙ sym (writes 2 s)

  one :
      supported_of (writer_by w fmt 1) ≡ true
      → word_at 1 (p % w) (p / w) dither e (bytes_of c) c.coverage ≡ word_by (writer_by w fmt 1) p dither e c
  unfolding pixel_bytes_of
  one s =
      sym (color_by (record { fmt = fmt; siz = 1; width = w }) (bytes_of c) (or_zero (coverage_of c.mark c.coverage)) p dither e true refl)
      ∙ sym (writes 1 s)

  pub word_is :
      (siz : ℕ) → supported_of (writer_by w fmt siz) ≡ true → readable c.mark siz ≡ true
      → word_at siz (p % w) (p / w) dither e (bytes_of c) c.coverage ≡ word_by (writer_by w fmt siz) p dither e c
  unfolding supported_of color_supported
  word_is siz s r = go (eqb siz 2) refl (eqb siz 1) refl s
    where
      Goal : ℕ → Type 0
      Goal z =
          supported_of (writer_by w fmt z) ≡ true → readable c.mark z ≡ true
          → word_at z (p % w) (p / w) dither e (bytes_of c) c.coverage ≡ word_by (writer_by w fmt z) p dither e c

      go :
          (a : Bool) → eqb siz 2 ≡ a → (b : Bool) → eqb siz 1 ≡ b → ((a && eqb fmt 0) || (b && (leb 2 fmt && leb fmt 4))) ≡ true
          → word_at siz (p % w) (p / w) dither e (bytes_of c) c.coverage ≡ word_by (writer_by w fmt siz) p dither e c
      go true u b v h = subst Goal (sym (eqb-true siz 2 u)) two s r
      go false u true v h = subst Goal (sym (eqb-true siz 1 v)) (λ x y. one x) s r
      go false u false v h = absurd (false≢true h)

-- ---- a pixel that numbers 1 to 9 let through
module _ (a : ReadArgs) (w h : ℕ) (f : Frame) (z : frame_refusal f w h ≡ 0) (p : a.pixel < length f.marks) (s : supported_of (writer_of a w) ≡ true) where
  pub answer_is : answer_in w a.siz a.dither a.encoding f a.pixel ≡ read_answer a w h f
  unfolding answer_at word_of
  answer_is = go (readable (get_or f.marks a.pixel 0) a.siz) refl
    where
      x : Bytes2
      x = word_at a.siz (a.pixel % w) (a.pixel / w) a.dither a.encoding (bytes_of (pixel_at f a.pixel)) (get_or f.coverages a.pixel 0)

      go :
          (b : Bool) → readable (get_or f.marks a.pixel 0) a.siz ≡ b
          → ◌≡◌ {A = WordAnswer} (cond b (record { number = 0; word = x }) (record { number = 10; word = (0, 0) })) (read_answer a w h f)
      go true r =
          ap (word_or 0) (word_is w a.fmt a.pixel a.dither a.encoding (pixel_at f a.pixel) a.siz s r) ∙ read a w h f z p s r
      go false r = tenth a w h f z p s r
