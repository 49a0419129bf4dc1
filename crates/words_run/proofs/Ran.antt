-- A run from its parts: what each part wrote is the single answers of its pixels, and the parts together are the run. Assumes nothing.
use Prim.Native.Nat.{ℕ, ◌+◌, ◌-◌, ◌*◌, ◌≤◌, ◌<◌, min}
use mathlib.Core.Path.{◌≡◌, refl, sym, ap, subst, ◌∙◌}
use mathlib.Core.Bool.{true, false, cond}
use mathlib.Core.List.{List}
use native.Mathlib.Omega.{arith}
use borrow.Author.Tests.{eq-eqb, ne_eqb}
use lib.ListN.{length}
use Rattle.words_pack.specs.Writer.{supported_of}
use Rattle.frame.specs.Frame.{Frame}
use Rattle.frame.specs.Checks.{frame_refusal}
use Rattle.std.specs.Prelude.{Ok, Err}
use Rattle.refused.specs.declared.Refusal.TheVariants as refusal
use Rattle.words_read.specs.Read.{ReadArgs, WordAnswer, writer_of, read_answer}
use Rattle.words_run.specs.Run.{read_at, answers_from, one_if, count_of, run_means, run_by, run_answer}
use Rattle.words_run.specs.Entries.{Entries, entries_of, Wrote, refused_by, answer_in}
use Rattle.words_read.proofs.Reading.{read_refused, eighth, ninth}
use Rattle.words_run.proofs.Entries.{wrote_as, wrote_both}
use Rattle.words_run.proofs.Answers.{one_none, count_none, count_both, answers_same, run_is}
use Rattle.words_run.proofs.Columns.{answer_is}

module _ (a : ReadArgs) (w h : ℕ) (f : Frame) where
  -- entries that are all turned away with one number are no words
  part_refused :
      {k lo hi n : ℕ} {s t : Entries} → one_if k ≡ 0 → ((i : ℕ) → lo ≤ i → i < hi → refused_by k ≡ read_answer (read_at a i) w h f)
      → Wrote (λ (i : ℕ). refused_by k) lo hi n s t
      → Wrote (λ (i : ℕ). read_answer (read_at a i) w h f) lo hi n s t
      × (count_of (answers_from (λ (i : ℕ). read_answer (read_at a i) w h f) lo (hi - lo)) ≡ 0)
  part_refused {k} {lo} {hi} z e p = (
    wrote_as e p,
    count_none (λ (i : ℕ). read_answer (read_at a i) w h f) lo (hi - lo)
        (λ j u v. ap (λ (x : WordAnswer). one_if x.number) (sym (e j u (omega arith))) ∙ z),
  )

  -- from 0
  none_at_zero : (n : ℕ) (answer : ℕ → WordAnswer) → count_of (answers_from answer 0 (n - 0)) ≡ 0 → 0 ≡ count_of (answers_from answer 0 n)
  none_at_zero n answer e = let d : n - 0 ≡ n = omega arith in sym e ∙ ap (λ (k : ℕ). count_of (answers_from answer 0 k)) d

  -- ---- the entries whose pixels are there
  module _ (z : frame_refusal f w h ≡ 0) {count : ℕ} (there : 0 < count → a.pixel + count ≤ length f.marks) where
    pub there_ninth :
        {n : ℕ} {s t : Entries} → supported_of (writer_of a w) ≡ false → Wrote (λ (i : ℕ). refused_by 9) 0 count n s t
        → Wrote (λ (i : ℕ). read_answer (read_at a i) w h f) 0 count n s t
        × (0 ≡ count_of (answers_from (λ (i : ℕ). read_answer (read_at a i) w h f) 0 count))
    there_ninth q p =
        let r = part_refused refl (λ i u v. ninth (read_at a i) w h f z (omega (arith, there (omega arith))) q) p in
        (r.0, none_at_zero count (λ (i : ℕ). read_answer (read_at a i) w h f) r.1)

    pub there_read :
        {n r : ℕ} {s t : Entries} → supported_of (writer_of a w) ≡ true
        → Wrote (λ (i : ℕ). answer_in w a.siz a.dither a.encoding f (a.pixel + i)) 0 count n s t
        × (r ≡ count_of (answers_from (λ (i : ℕ). answer_in w a.siz a.dither a.encoding f (a.pixel + i)) 0 count))
        → Wrote (λ (i : ℕ). read_answer (read_at a i) w h f) 0 count n s t
        × (r ≡ count_of (answers_from (λ (i : ℕ). read_answer (read_at a i) w h f) 0 count))
    there_read q (p, e) = (
      wrote_as (λ i u v. answer_is (read_at a i) w h f z (omega (arith, there (omega arith))) q) p,
      e ∙ ap count_of
          (answers_same (λ (i : ℕ). answer_in w a.siz a.dither a.encoding f (a.pixel + i)) (λ (i : ℕ). read_answer (read_at a i) w h f) 0 count
          (λ i u v. answer_is (read_at a i) w h f z (omega (arith, there (omega arith))) q)),
    )

  -- ---- the whole run
  module _ {ws₀ ns₀ : List ℕ} where
    pub run_unmatched : (length ws₀ ≡ 2 * length ns₀ → ⊥) → run_means (Err refusal.Words) ws₀ ns₀ ≡ run_answer a w h f ws₀ ns₀
    unfolding run_answer
    run_unmatched e =
        λ i. cond (sym (ne_eqb (length ws₀) (2 * length ns₀) e) i) (run_by (answers_from (λ (j : ℕ). read_answer (read_at a j) w h f) 0 (length ns₀))) (run_means (Err refusal.Words) ws₀ ns₀)

    module _ (m : length ws₀ ≡ 2 * length ns₀) where
      run_matched :
          {c : ℕ} {ws ns : List ℕ}
          → Wrote (λ (i : ℕ). read_answer (read_at a i) w h f) 0 (length ns₀) (length ns₀) (entries_of ws₀ ns₀) (entries_of ws ns)
          → c ≡ count_of (answers_from (λ (i : ℕ). read_answer (read_at a i) w h f) 0 (length ns₀))
          → run_means (Ok c) ws ns ≡ run_answer a w h f ws₀ ns₀
      unfolding run_answer
      run_matched p e =
          run_is (λ (i : ℕ). read_answer (read_at a i) w h f) p e
          ∙ (λ i. cond (sym (eq-eqb (length ws₀) (2 * length ns₀) m) i) (run_by (answers_from (λ (j : ℕ). read_answer (read_at a j) w h f) 0 (length ns₀))) (run_means (Err refusal.Words) ws₀ ns₀))

      pub run_refused :
          {k : ℕ} {ws ns : List ℕ} → k ≡ frame_refusal f w h → 1 ≤ k
          → Wrote (λ (i : ℕ). refused_by k) 0 (length ns₀) (length ns₀) (entries_of ws₀ ns₀) (entries_of ws ns)
          → run_means (Ok 0) ws ns ≡ run_answer a w h f ws₀ ns₀
      run_refused {k} e n p =
          let r = part_refused (one_none k n) (λ i u v. read_refused (read_at a i) w h f e n) p in
          run_matched r.0 (none_at_zero (length ns₀) (λ (i : ℕ). read_answer (read_at a i) w h f) r.1)

      pub run_read :
          {there c : ℕ} {t : Entries} {ws ns : List ℕ} → frame_refusal f w h ≡ 0 → there ≡ min (length ns₀) (length f.marks - a.pixel)
          → Wrote (λ (i : ℕ). read_answer (read_at a i) w h f) 0 there (length ns₀) (entries_of ws₀ ns₀) t
          × (c ≡ count_of (answers_from (λ (i : ℕ). read_answer (read_at a i) w h f) 0 there))
          → Wrote (λ (i : ℕ). refused_by 8) there (length ns₀) (length t.numbers) t (entries_of ws ns)
          → run_means (Ok c) ws ns ≡ run_answer a w h f ws₀ ns₀
      run_read {there} {c} {t} {ws} {ns} z e (p, d) q =
          let r = part_refused {k = 8} refl (λ i u v. eighth (read_at a i) w h f z (omega arith)) q in
          run_matched
          (subst (λ (k : ℕ). Wrote (λ (i : ℕ). read_answer (read_at a i) w h f) 0 (length ns₀) k (entries_of ws₀ ns₀) (entries_of ws ns))
          p.matched.numbers
          (wrote_both (omega arith) p r.0))
          (omega (
            arith,
            d,
            r.1,
            count_both (λ (i : ℕ). read_answer (read_at a i) w h f) 0 there (length ns₀ - there) there (length ns₀) (omega arith) (omega arith),
          ))
