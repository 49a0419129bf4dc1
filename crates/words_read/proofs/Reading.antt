-- Laws of a word read: its answer from the number that decides it, and what `encode` needs where none does. Assumes nothing.
use mathlib.Core.Path.{◌≡◌, refl}
use mathlib.Core.Bool.{true, false}
use Prim.Native.Nat.{ℕ, zero, suc, ◌*◌, ◌≤◌, ◌<◌}
use native.Mathlib.Omega.{arith}
use lib.ListN.{length, get_or}
use Rattle.std.proofs.lemmas.Bool.Decides.{nat_tests}
use Rattle.words_pack.specs.declared.Writer.{Writer}
use Rattle.words_pack.specs.Writer.{color_supported, supported_of}
use Rattle.frame.specs.Frame.{Frame, pixel_at}
use Rattle.frame.specs.Checks.{or_else, frame_refusal}
use Rattle.words_read.specs.Read.{ReadArgs, writer_of, readable, word_refusal, read_refusal, WordAnswer, no_word, word_of, word_or, read_answer}
use Rattle.frame.proofs.Fits.{accepted}

-- a supported colour writer has 8 or 16 bits
pub supported_siz : (x : Writer) → supported_of x ≡ true → x.depth ≡ false → x.layout.siz ≤ 3
unfolding supported_of color_supported
supported_siz x h d = grind (arith, nat_tests)

-- ---- the answers
abbrev pub refused : ℕ → WordAnswer
refused k = record { number = k; word = no_word }

module _ (a : ReadArgs) (w h : ℕ) (f : Frame) where
  pub read_refused : {k : ℕ} → k ≡ frame_refusal f w h → 1 ≤ k → refused k ≡ read_answer a w h f
  unfolding read_answer read_refusal
  read_refused {k} e n = rw (← e) (go k n)
    where
      go :
          (j : ℕ) → 1 ≤ j
          → refused j ≡ word_or (or_else j (word_refusal a w (w * h) (pixel_at f a.pixel))) (word_of a w (pixel_at f a.pixel))
      go zero n = absurd (omega arith)
      go (suc j) n = refl

  module _ (z : frame_refusal f w h ≡ 0) where
    marks_are : length f.marks ≡ w * h
    marks_are = (accepted f w h z).fit.marks

    pub eighth : length f.marks ≤ a.pixel → refused 8 ≡ read_answer a w h f
    unfolding read_answer read_refusal word_refusal
    eighth p = let m = marks_are in grind (arith, nat_tests)

    module _ (p : a.pixel < length f.marks) where
      pub ninth : supported_of (writer_of a w) ≡ false → refused 9 ≡ read_answer a w h f
      unfolding read_answer read_refusal word_refusal
      ninth q = let m = marks_are in grind (arith, nat_tests)

      module _ (q : supported_of (writer_of a w) ≡ true) where
        pub tenth : readable (get_or f.marks a.pixel 0) a.siz ≡ false → refused 10 ≡ read_answer a w h f
        unfolding read_answer read_refusal word_refusal
        tenth r = let m = marks_are in grind (arith, nat_tests)

        pub read : readable (get_or f.marks a.pixel 0) a.siz ≡ true → word_or 0 (word_of a w (pixel_at f a.pixel)) ≡ read_answer a w h f
        unfolding read_answer read_refusal word_refusal
        read r = let m = marks_are in grind (arith, nat_tests)
