-- Laws of a list of answers: its count, in parts and from what is left of it, and that entries which hold the answers are the list's numbers and bytes.
-- Assumes nothing.
use Prim.Native.Nat.{ℕ, zero, suc, ◌+◌, ◌-◌, ◌*◌, ◌≤◌, ◌<◌}
use mathlib.Core.Bool.{Bool}
use mathlib.Core.Path.{◌≡◌, refl, sym, ap, ap₂, ◌∙◌}
use mathlib.Core.List.{List, [], ◌∷◌}
use native.Mathlib.Omega.{arith}
use lib.ListN.{length, get_or}
use mir.Val.{bool_byte}
use Rattle.std.specs.Prelude.{Result, Ok, Err, is_ok}
use Rattle.refused.specs.declared.Refusal.{Refusal}
use Rattle.refused.specs.Numbers.{number_of}
use Rattle.words_pack.specs.declared.Bytes2.{Bytes2}
use Rattle.words_read.specs.Read.{WordAnswer, word_means}
use Rattle.refused.proofs.Numbers.{positive}
use Rattle.words_run.specs.Run.{answers_from, numbers_of, words_of, one_if, count_of, RunAnswer, run_by}
use Rattle.words_run.specs.Entries.{Entries, entries_of, entry_at, Wrote}

-- ---- counts
one_if_le : (k : ℕ) → one_if k ≤ 1
one_if_le zero = omega arith
one_if_le (suc k) = omega arith

-- a read counts where it is a word
pub one_none : (k : ℕ) → 1 ≤ k → one_if k ≡ 0
one_none zero n = absurd (omega arith)
one_none (suc k) n = refl

pub counts : (r : Result Bytes2 Refusal) {b : Bool} {n : ℕ} → n ≡ bool_byte b → b ≡ is_ok r → n ≡ one_if (word_means r).number
counts (Ok word) e f = e ∙ ap bool_byte f
counts (Err refusal) e f = e ∙ ap bool_byte f ∙ sym (one_none (number_of refusal) (positive refusal))

module _ (answer : ℕ → WordAnswer) where
  pub count_le : (i n : ℕ) → count_of (answers_from answer i n) ≤ n
  count_le i zero = omega arith
  count_le i (suc n) = omega (arith, one_if_le (answer i).number, count_le (suc i) n)

  pub count_none :
      (i n : ℕ) → ((j : ℕ) → i ≤ j → j < i + n → one_if (answer j).number ≡ 0) → count_of (answers_from answer i n) ≡ 0
  count_none i zero h = refl
  count_none i (suc n) h =
      omega (arith, h i (omega arith) (omega arith), count_none (suc i) n (λ j a b. h j (omega arith) (omega arith)))

  pub count_both :
      (i n m k l : ℕ) → k ≡ i + n → l ≡ n + m
      → count_of (answers_from answer i l) ≡ count_of (answers_from answer i n) + count_of (answers_from answer k m)
  count_both i zero m k l e d =
      let p : i ≡ k = omega arith in
      let q : l ≡ m = omega arith in
      omega (arith, ap₂ (λ (a b : ℕ). count_of (answers_from answer a b)) p q)
  count_both i (suc n) m k zero e d = absurd (omega arith)
  count_both i (suc n) m k (suc l) e d = omega (arith, count_both (suc i) n m k l (omega arith) (omega arith))

  -- entry i counted, and what is left
  pub count_next :
      (i n : ℕ) → i < n → count_of (answers_from answer i (n - i)) ≡ one_if (answer i).number + count_of (answers_from answer (i + 1) (n - (i + 1)))
  count_next i n h =
      ap (λ (k : ℕ). count_of (answers_from answer i k)) {x = n - i} {y = suc (n - (i + 1))} (omega arith)
      ∙ ap (λ (k : ℕ). one_if (answer i).number + count_of (answers_from answer k (n - (i + 1)))) {x = suc i} {y = i + 1} (omega arith)

pub answers_same :
    (f g : ℕ → WordAnswer) (i n : ℕ) → ((j : ℕ) → i ≤ j → j < i + n → f j ≡ g j) → answers_from f i n ≡ answers_from g i n
answers_same f g i zero h = refl
answers_same f g i (suc n) h =
    ap₂ (λ (x : WordAnswer) (xs : List WordAnswer). x ∷ xs) (h i (omega arith) (omega arith))
    (answers_same f g (suc i) n (λ j a b. h j (omega arith) (omega arith)))

-- ---- numbers and bytes
module _ (answer : ℕ → WordAnswer) where
  numbers_are :
      (l : List ℕ) (i n : ℕ) → length l ≡ n → ((j k : ℕ) → k ≡ i + j → j < n → get_or l j 0 ≡ (answer k).number)
      → l ≡ numbers_of (answers_from answer i n)
  numbers_are [] i zero e h = refl
  numbers_are [] i (suc n) e h = absurd (omega arith)
  numbers_are (x ∷ l) i zero e h = absurd (omega arith)
  numbers_are (x ∷ l) i (suc n) e h =
      ap₂ (λ (y : ℕ) (ys : List ℕ). y ∷ ys) (h 0 i (omega arith) (omega arith))
      (numbers_are l (suc i) n (omega arith) (λ j k a b. h (suc j) k (omega arith) (omega arith)))

  words_are :
      (l : List ℕ) (i n : ℕ) → length l ≡ 2 * n
      → ((j q k : ℕ) → q ≡ 2 * j → k ≡ i + j → j < n → get_or l q 0 ≡ (answer k).word.0)
      → ((j q k : ℕ) → q ≡ 2 * j → k ≡ i + j → j < n → get_or l (suc q) 0 ≡ (answer k).word.1)
      → l ≡ words_of (answers_from answer i n)
  words_are [] i zero e g h = refl
  words_are [] i (suc n) e g h = absurd (omega arith)
  words_are (x ∷ l) i zero e g h = absurd (omega arith)
  words_are (x ∷ []) i (suc n) e g h = absurd (omega arith)
  words_are (x ∷ y ∷ l) i (suc n) e g h =
      let first : x ≡ (answer i).word.0 = g 0 0 i (omega arith) (omega arith) (omega arith) in
      let second : y ≡ (answer i).word.1 = h 0 0 i (omega arith) (omega arith) (omega arith) in
      let rest : l ≡ words_of (answers_from answer (suc i) n) =
      words_are l (suc i) n (omega arith) (λ j q k a b c. g (suc j) (suc (suc q)) k (omega arith) (omega arith) (omega arith))
      (λ j q k a b c. h (suc j) (suc (suc q)) k (omega arith) (omega arith) (omega arith)) in
      λ t. first t ∷ second t ∷ rest t

  -- a run whose entries are all written
  pub run_is :
      {n c : ℕ} {s : Entries} {ws ns : List ℕ} → Wrote answer 0 n n s (entries_of ws ns) → c ≡ count_of (answers_from answer 0 n)
      → ◌≡◌ {A = RunAnswer} (record { number = 0; count = c; words = ws; numbers = ns }) (run_by (answers_from answer 0 n))
  run_is {n} {c} {s} {ws} {ns} w e = λ t. record { number = 0; count = e t; words = words t; numbers = numbers t }
    where
      at : (j k : ℕ) → k ≡ 0 + j → j < n → entry_at (entries_of ws ns) j ≡ answer k
      at j k a b = w.written j (omega arith) b ∙ ap answer {x = j} {y = k} (omega arith)

      numbers : ns ≡ numbers_of (answers_from answer 0 n)
      numbers = numbers_are ns 0 n w.matched.numbers (λ j k a b. ap (λ (x : WordAnswer). x.number) (at j k a b))

      words : ws ≡ words_of (answers_from answer 0 n)
      words =
          words_are ws 0 n w.matched.words
          (λ j q k a b c. ap (λ (p : ℕ). get_or ws p 0) a ∙ ap (λ (x : WordAnswer). x.word.0) (at j k b c))
          (λ j q k a b c. ap (λ (p : ℕ). get_or ws p 0) {x = suc q} {y = 2 * j + 1} (omega arith) ∙ ap (λ (x : WordAnswer). x.word.1) (at j k b c))
