-- A word read, and a run of them, on two frames of which g knows at least what f knows. A word of one byte has nothing of the coverage, so that it may be read where only
-- g knows that. Assumes nothing.
use Prim.Native.Nat.{ℕ, zero, suc, ◌+◌, ◌*◌, ◌≤◌}
use mathlib.Core.Path.{◌≡◌, refl, sym, ap, subst}
use mathlib.Core.Bool.{Bool, true, false, cond}
use mathlib.Core.List.{List}
use native.Mathlib.Omega.{arith}
use lib.Dec.{eqb, ltb}
use lib.ListN.{length, get_or}
use Rattle.blender.specs.Blend.{or_zero}
use Rattle.words_pack.specs.declared.Bytes2.{Bytes2}
use Rattle.words_pack.specs.declared.FramebufferEncoding.{FramebufferEncoding}
use Rattle.std.specs.Prelude.{None}
use Rattle.state.specs.declared.Rgba8.{Rgba8}
use Rattle.words_pack.specs.Writer.{color_supported, supported_of, pixel_bytes_of, color_of, written_of, encode_of}
use Rattle.frame_pixel.specs.declared.Pixel.{Pixel}
use Rattle.frame_pixel.specs.Marks.{color_marked, coverage_marked, coverage_of}
use Rattle.frame_pixel.specs.Knows.{KnowsPixel}
use Rattle.std.proofs.lemmas.Bool.{false≢true}
use Rattle.frame.specs.Frame.{Frame, pixel_at}
use Rattle.frame.specs.Knows.{KnowsAtLeast}
use Rattle.frame.specs.Checks.{or_else, frame_refusal}
use Rattle.words_read.specs.Read.{ReadArgs, WordAnswer, writer_by, writer_of, readable, word_refusal, read_refusal, bytes_of, word_of, word_or, read_answer}
use Rattle.words_run.specs.Run.{read_at, answers_from, read_answers, numbers_of, words_of, entry_of, one_if, count_of, unmatched, RunAnswer, run_by, run_answer}
use Rattle.theorem_truth.specs.Truth.{TellsWord, TellsEntries, TellsRun}

-- ---- a word read
one_byte :
    (w fmt : ℕ) (c : Rgba8) (i j pixel dither : ℕ) (e : FramebufferEncoding)
    → encode_of (writer_by w fmt 1) c i pixel None dither e ≡ encode_of (writer_by w fmt 1) c j pixel None dither e
unfolding encode_of written_of color_of pixel_bytes_of
one_byte w fmt c i j pixel dither e = refl

-- a supported size is 2 or 1
size_one : (r : ReadArgs) (w : ℕ) → supported_of (writer_of r w) ≡ true → eqb r.siz 2 ≡ false → r.siz ≡ 1
unfolding supported_of color_supported
size_one r w t e = grind arith

module _ {y x : Pixel} (h : KnowsPixel y x) where
  same_coverage : coverage_marked x.mark ≡ true → coverage_of y.mark y.coverage ≡ coverage_of x.mark x.coverage
  same_coverage t = rw (t, h.mark2 t, h.coverage t)

  same_color : color_marked x.mark ≡ true → bytes_of y ≡ bytes_of x
  same_color t = rw (h.red t, h.green t, h.blue t)

  readable_too : (siz : ℕ) → readable x.mark siz ≡ true → readable y.mark siz ≡ true
  readable_too siz t = grind (arith, h.mark1, h.mark2)

  module _ (r : ReadArgs) (w : ℕ) (supported : supported_of (writer_of r w) ≡ true) (t : readable x.mark r.siz ≡ true) where
    same_word : word_of r w y ≡ word_of r w x
    unfolding word_of
    same_word =
        grind (
          arith,
          same_color,
          same_coverage,
          size_one r w supported,
          one_byte w r.fmt (bytes_of y) (or_zero (coverage_of y.mark y.coverage)) (or_zero (coverage_of x.mark x.coverage)) r.pixel r.dither r.encoding,
        )

module _ (w h : ℕ) {g f : Frame} (a : KnowsAtLeast w h g f) where
  pub read_tells : (r : ReadArgs) → TellsWord (read_answer r w h g) (read_answer r w h f)
  unfolding read_answer read_refusal word_refusal
  read_tells r =
      let x = pixel_at f r.pixel in
      let y = pixel_at g r.pixel in
      let c = a.frame.pixels r.pixel in
      rw a.numbers
      (refused (frame_refusal f w h) (word_refusal r w (w * h) y) (word_refusal r w (w * h) x) (word_of r w y) (word_of r w x)
      (go (ltb r.pixel (w * h)) (supported_of (writer_of r w)) (readable x.mark r.siz) (readable y.mark r.siz)
      (readable_too c r.siz) (λ s t. same_word c r w s t)))
    where
      go :
          (i s p q : Bool) {v u : Bytes2} → (p ≡ true → q ≡ true) → (s ≡ true → p ≡ true → v ≡ u)
          → TellsWord (word_or (cond i (cond s (cond q 0 10) 9) 8) v) (word_or (cond i (cond s (cond p 0 10) 9) 8) u)
      go false s p q m e = TellsWord.same
      go true false p q m e = TellsWord.same
      go true true true true {v} m e = subst (λ (t : Bytes2). TellsWord (word_or 0 v) (word_or 0 t)) (e refl refl) TellsWord.same
      go true true true false m e = absurd (false≢true (m refl))
      go true true false true m e = TellsWord.more refl refl
      go true true false false m e = TellsWord.same

      refused : (n j i : ℕ) (v u : Bytes2) → TellsWord (word_or j v) (word_or i u) → TellsWord (word_or (or_else n j) v) (word_or (or_else n i) u)
      refused zero j i v u m = m
      refused (suc n) j i v u m = TellsWord.same

-- a word that is handed out on f is handed out on g, and is the same
pub word_again : {b a : WordAnswer} → TellsWord b a → a.number ≡ 0 → b ≡ a
word_again TellsWord.same t = refl
word_again (TellsWord.more n m) t = let e = ap (λ (v : WordAnswer). v.number) n in absurd (omega arith)

-- ---- a run: the answers one by one, and so its entries
more_words : {b a : WordAnswer} → TellsWord b a → one_if a.number ≤ one_if b.number
more_words TellsWord.same = omega arith
more_words {b} (TellsWord.more n m) = subst (λ (v : WordAnswer). one_if v.number ≤ one_if b.number) (sym n) (omega arith)

module _ (ys xs : ℕ → WordAnswer) (each : (i : ℕ) → TellsWord (ys i) (xs i)) where
  counts : (i n : ℕ) → count_of (answers_from xs i n) ≤ count_of (answers_from ys i n)
  counts i zero = omega arith
  counts i (suc n) = omega (arith, more_words (each i), counts (suc i) n)

  words_as_long : (i n : ℕ) → length (words_of (answers_from ys i n)) ≡ length (words_of (answers_from xs i n))
  words_as_long i zero = refl
  words_as_long i (suc n) = ap (λ (k : ℕ). suc (suc k)) (words_as_long (suc i) n)

  numbers_as_long : (i n : ℕ) → length (numbers_of (answers_from ys i n)) ≡ length (numbers_of (answers_from xs i n))
  numbers_as_long i zero = refl
  numbers_as_long i (suc n) = ap suc (numbers_as_long (suc i) n)

  -- entry k, whose first byte is at d and whose second at o
  abbrev entry : List WordAnswer → ℕ → ℕ → ℕ → WordAnswer
  entry l k d o = record { number = get_or (numbers_of l) k 0; word = (get_or (words_of l) d 0, get_or (words_of l) o 0) }

  entries_at : (i n k d : ℕ) → d ≡ 2 * k → TellsWord (entry (answers_from ys i n) k d (suc d)) (entry (answers_from xs i n) k d (suc d))
  entries_at i zero k d e = TellsWord.same
  entries_at i (suc n) zero zero e = each i
  entries_at i (suc n) zero (suc d) e = absurd (omega arith)
  entries_at i (suc n) (suc k) zero e = absurd (omega arith)
  entries_at i (suc n) (suc k) (suc zero) e = absurd (omega arith)
  entries_at i (suc n) (suc k) (suc (suc d)) e = entries_at (suc i) n k d (omega arith)

  run_entries : (n : ℕ) → TellsEntries (run_by (answers_from ys 0 n)) (run_by (answers_from xs 0 n))
  run_entries n =
      record {
        number = refl;
        count = counts 0 n;
        words = words_as_long 0 n;
        numbers = numbers_as_long 0 n;
        entries = λ (k : ℕ).
            let next : suc (2 * k) ≡ 2 * k + 1 = omega arith in
            subst (λ (o : ℕ). TellsWord (entry (answers_from ys 0 n) k (2 * k) o) (entry (answers_from xs 0 n) k (2 * k) o)) next (entries_at 0 n k (2 * k) refl);
      }

module _ (w h : ℕ) {g f : Frame} (a : KnowsAtLeast w h g f) where
  pub run_tells : (r : ReadArgs) (ws ns : List ℕ) → TellsRun (run_answer r w h g ws ns) (run_answer r w h f ws ns)
  unfolding run_answer
  run_tells r ws ns = go (eqb (length ws) (2 * length ns))
    where
      refused : RunAnswer
      refused = record { number = unmatched; count = 0; words = ws; numbers = ns }

      go :
          (b : Bool)
          → TellsRun (cond b (run_by (read_answers r w h g (length ns))) refused) (cond b (run_by (read_answers r w h f (length ns))) refused)
      go true =
          TellsRun.read
          (run_entries (λ (j : ℕ). read_answer (read_at r j) w h g) (λ (j : ℕ). read_answer (read_at r j) w h f) (λ (j : ℕ). read_tells w h a (read_at r j)) (length ns))
      go false = TellsRun.same

-- and so is an entry of a run
pub entry_again :
    {b a : RunAnswer} (i : ℕ) → TellsRun b a → (entry_of a.words a.numbers i).number ≡ 0
    → entry_of b.words b.numbers i ≡ entry_of a.words a.numbers i
entry_again i TellsRun.same t = refl
entry_again i (TellsRun.read e) t = word_again (e.entries i) t
