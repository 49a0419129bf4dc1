-- The loop along a run: the entries written so far, the place of the next pixel, and the count, whose rest is that of the answers left. Assumes nothing.
use Prim.Native.Nat.{ℕ, ◌+◌, ◌-◌, ◌*◌, ◌≤◌, ◌<◌}
use mathlib.Core.Path.{◌≡◌, ap, subst, ◌∙◌}
use native.Mathlib.Omega.{arith}
use Rattle.words_read.specs.Read.{WordAnswer}
use Rattle.words_run.specs.Run.{answers_from, one_if, count_of}
use Rattle.words_run.specs.Entries.{Entries, put_entry, Wrote, At}
use Rattle.words_run.specs.declared.entry.Place.{Place}
use Rattle.words_run.proofs.Entries.{wrote_more}
use Rattle.words_run.proofs.Answers.{count_le, count_next}

module _ (answer : ℕ → WordAnswer) (w first count total : ℕ) (s₀ : Entries) where
  -- before entry i: the slices s, the count n and the place q
  pub record Along (i : ℕ) (s : Entries) (n : ℕ) (q : Place) : Type 0 where
    pub place : At w (first + i) q
    pub wrote : Wrote answer 0 i total s₀ s
    pub counted : n + count_of (answers_from answer i (count - i)) ≡ count_of (answers_from answer 0 count)

  module _ {i n r : ℕ} {s : Entries} {q : Place} (h : i < count) (a : Along i s n q) where
    pub along_fits : r ≡ one_if (answer i).number → n + r ≤ count
    along_fits e = omega (arith, e, a.counted, count_next answer i count h, count_le answer 0 count)

    pub along_more :
        {x : WordAnswer} {t : Entries} {q' : Place} → count ≤ total → x ≡ answer i → t ≡ put_entry s i x → r ≡ one_if x.number
        → At w (q.y * w + q.x + 1) q' → Along (i + 1) t (n + r) q'
    along_more {x} {t} {q'} l e p d b =
        let u : q.y * w + q.x + 1 ≡ first + (i + 1) = omega (arith, a.place.place) in
        let v : r ≡ one_if (answer i).number = d ∙ ap (λ (y : WordAnswer). one_if y.number) e in
        record {
          place = subst (λ (p : ℕ). At w p q') u b;
          wrote = wrote_more answer 0 a.wrote (omega arith) (omega arith) e p;
          counted = omega (arith, v, a.counted, count_next answer i count h);
        }
