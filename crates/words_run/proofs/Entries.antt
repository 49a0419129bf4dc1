-- Laws of a run's entries: one stored, a part of them written, and parts put together. Assumes nothing.
use Prim.Native.Nat.{ℕ, ◌+◌, ◌*◌, ◌≤◌, ◌<◌}
use mathlib.Core.Path.{◌≡◌, sym, ap, subst, ◌∙◌}
use mathlib.Core.Bool.{true, false, cond}
use mathlib.Core.Logic.{◌≢◌}
use native.Mathlib.Decide.{ℕ_discrete, dec_lt}
use native.Mathlib.Omega.{arith}
use lib.ListN.{get_or, set, length-set}
use lib.Seq.{get_or-set_same, get_or-set_other}
use Rattle.frame_pixel.specs.declared.Pixel.{Pixel}
use Rattle.words_pack.specs.declared.Bytes2.{Bytes2}
use Rattle.words_pack.specs.declared.FramebufferEncoding.{FramebufferEncoding}
use Rattle.words_read.specs.Read.{WordAnswer, readable, bytes_of}
use Rattle.words_run.specs.Run.{one_if}
use Rattle.words_run.specs.Entries.{Entries, entry_at, put_entry, Matched, Wrote, answer_of, refused_by, word_at, answer_at}

-- ---- one entry stored
module _ {n : ℕ} {s : Entries} (m : Matched n s) (i : ℕ) (x : WordAnswer) where
  pub put_matched : Matched n (put_entry s i x)
  put_matched = record { words = simp length-set m.words; numbers = simp length-set m.numbers }

  pub put_here : i < n → entry_at (put_entry s i x) i ≡ x
  put_here h = λ j. answer_of (number j) (first j, second j)
    where
      number : get_or (set s.numbers i x.number) i 0 ≡ x.number
      number = get_or-set_same s.numbers i x.number 0 (omega (arith, m.numbers))

      first : get_or (set (set s.words (2 * i) x.word.0) (2 * i + 1) x.word.1) (2 * i) 0 ≡ x.word.0
      first =
          get_or-set_other (set s.words (2 * i) x.word.0) (2 * i + 1) (2 * i) x.word.1 0 (omega arith)
          ∙ get_or-set_same s.words (2 * i) x.word.0 0 (omega (arith, m.words))

      second : get_or (set (set s.words (2 * i) x.word.0) (2 * i + 1) x.word.1) (2 * i + 1) 0 ≡ x.word.1
      second =
          get_or-set_same (set s.words (2 * i) x.word.0) (2 * i + 1) x.word.1 0
          (omega (arith, length-set s.words (2 * i) x.word.0, m.words))

  pub put_other : (j : ℕ) → j ≢ i → entry_at (put_entry s i x) j ≡ entry_at s j
  put_other j h =
      λ k. answer_of (get_or-set_other s.numbers i j x.number 0 h k) (byte (2 * j) (omega arith) (omega arith) k, byte (2 * j + 1) (omega arith) (omega arith) k)
    where
      byte : (q : ℕ) → q ≢ 2 * i → q ≢ 2 * i + 1 → get_or (put_entry s i x).words q 0 ≡ get_or s.words q 0
      byte q a b =
          get_or-set_other (set s.words (2 * i) x.word.0) (2 * i + 1) q x.word.1 0 b
          ∙ get_or-set_other s.words (2 * i) q x.word.0 0 a

-- ---- a part of the entries
module _ (answer : ℕ → WordAnswer) (lo : ℕ) {n : ℕ} {s : Entries} where
  pub wrote_more :
      {i : ℕ} {t u : Entries} {x : WordAnswer} → Wrote answer lo i n s t → lo ≤ i → i < n → x ≡ answer i → u ≡ put_entry t i x
      → Wrote answer lo (i + 1) n s u
  wrote_more {i} {t} {u} {x} w a h e p =
      subst (λ (v : Entries). Wrote answer lo (i + 1) n s v) (sym p)
      (record {
        matched = put_matched w.matched i x;
        written = λ j b c. go j b c (ℕ_discrete j i);
        kept = λ j b. put_other w.matched i x j (omega arith) ∙ w.kept j b;
      })
    where
      go : (j : ℕ) → lo ≤ j → j < i + 1 → Dec (j ≡ i) → entry_at (put_entry t i x) j ≡ answer j
      go j b c (yes q) = subst (λ (k : ℕ). entry_at (put_entry t i x) k ≡ answer k) (sym q) (put_here w.matched i x h ∙ e)
      go j b c (no q) = put_other w.matched i x j q ∙ w.written j b (omega arith)

-- other words for the answers
pub wrote_as :
    {f g : ℕ → WordAnswer} {lo hi n : ℕ} {s t : Entries} → ((i : ℕ) → lo ≤ i → i < hi → f i ≡ g i) → Wrote f lo hi n s t → Wrote g lo hi n s t
wrote_as e w = record { matched = w.matched; written = λ i a b. w.written i a b ∙ e i a b; kept = w.kept }

-- two parts, one after the other
pub wrote_both :
    {answer : ℕ → WordAnswer} {lo mid hi n m : ℕ} {s t u : Entries} → lo ≤ mid → Wrote answer lo mid n s t → Wrote answer mid hi m t u
    → Wrote answer lo hi m s u
wrote_both {answer} {lo} {mid} {hi} {n} {m} {s} {t} {u} l a b =
    record { matched = b.matched; written = λ i p q. go i p q (dec_lt i mid); kept = λ i p. b.kept i (omega arith) ∙ a.kept i p }
  where
    go : (i : ℕ) → lo ≤ i → i < hi → Dec (i < mid) → entry_at u i ≡ answer i
    go i p q (yes r) = b.kept i r ∙ a.written i p r
    go i p q (no r) = b.written i (omega arith) q

-- ---- the entry of a pixel that numbers 1 to 9 let through, by number 10
module _ (siz x y dither : ℕ) (e : FramebufferEncoding) (c : Pixel) (s : Entries) (i : ℕ) {t : Entries} where
  stored_as :
      {a b : WordAnswer} → a ≡ b → t ≡ put_entry s i a → (t ≡ put_entry s i b) × (one_if a.number ≡ one_if b.number)
  stored_as p h = (h ∙ ap (put_entry s i) p, ap (λ (a : WordAnswer). one_if a.number) p)

  pub entry_refused :
      readable c.mark siz ≡ false → t ≡ put_entry s i (refused_by 10)
      → (t ≡ put_entry s i (answer_at siz x y dither e c)) × (0 ≡ one_if (answer_at siz x y dither e c).number)
  unfolding answer_at
  entry_refused r h = stored_as {a = refused_by 10} (λ j. cond (sym r j) (answer_of 0 (word_at siz x y dither e (bytes_of c) c.coverage)) (refused_by 10)) h

  pub entry_read :
      {w : Bytes2} → readable c.mark siz ≡ true → w ≡ word_at siz x y dither e (bytes_of c) c.coverage → t ≡ put_entry s i (answer_of 0 w)
      → (t ≡ put_entry s i (answer_at siz x y dither e c)) × (1 ≡ one_if (answer_at siz x y dither e c).number)
  unfolding answer_at
  entry_read {w} r q h = stored_as {a = answer_of 0 w} (λ j. cond (sym r j) (answer_of 0 (q j)) (refused_by 10)) h
