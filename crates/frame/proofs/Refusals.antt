-- Laws of the checks of a frame: the answer of each function from the test that decides it, and of the loops, whose invariant says that the rest
-- decides. Assumes nothing.
use mathlib.Core.Path.{◌≡◌, refl, sym, ap, ◌∙◌}
use mathlib.Core.Bool.{Bool, true, false, not, ◌&&◌, ◌||◌}
use mathlib.Core.Logic.{◌⊎◌, inl, inr}
use mathlib.Core.List.{List, [], ◌∷◌, ◌++◌}
use Prim.Native.Nat.{ℕ, zero, suc, ◌+◌, ◌-◌, ◌/◌, ◌%◌, ◌^◌, ◌≤◌, ◌<◌, min}
use native.Mathlib.Numerals.{add-one}
use native.Mathlib.Omega.{arith}
use borrow.Author.Tests.{leb-true, leb-false, le-leb, lt-leb}
use lib.Bits.{bit_and, bit_or, or_lt, or_add_and, or_mod, and_le_l, and_le_r, and_mod, and_shr}
use lib.Dec.{leb}
use lib.Pow.{pow_pos}
use lib.ListN.{length, get_or, drop, drop_of_length-le}
use Rattle.std.proofs.Common.{length-append}
use lib.Seq.{drop-cons}
use Rattle.frame_pixel.specs.Marks.{highest_mark, coverage_marked}
use Rattle.frame.specs.Checks.{mark_ok, marks_ok}
use Rattle.frame.specs.Finding.{every, at_most, coverage_unmarked}
use Rattle.std.proofs.lemmas.Bool.{and_parts}
use Rattle.std.proofs.Math.Bool.{and-true, and_assoc}

-- ---- a loop: what was found and the rest decide
module _ (ok : Bool) {rest all : Bool} where
  pub found_next : (next : Bool) {good test : Bool} → good ≡ test → rest ≡ (test && next) → (ok && rest) ≡ all → ((ok && good) && next) ≡ all
  found_next next {test = test} g more inv = (λ j. (ok && g j) && next) ∙ and_assoc ok test next ∙ (λ j. ok && sym more j) ∙ inv

  pub found_done : true ≡ rest → (ok && rest) ≡ all → ok ≡ all
  found_done e inv = sym (and-true ok) ∙ (λ j. ok && e j) ∙ inv

-- ---- one list: what was found of the numbers before i, and the rest
module _ (test : ℕ → Bool) (l : List ℕ) where
  abbrev pub Decides : ℕ → Bool → Type 0
  Decides i ok = (ok && every test (drop i l)) ≡ every test l

  module _ {i : ℕ} (ok : Bool) where
    pub decides_next : {then : Bool} → then ≡ (ok && test (get_or l i 0)) → i < length l → Decides i ok → Decides (i + 1) then
    unfolding every
    decides_next e h inv =
        let next = every test (drop (i + 1) l) in
        (λ j. e j && next) ∙ found_next ok next {test = test (get_or l i 0)} refl (rw (add-one, drop-cons l i 0)) inv

    pub decides_done : length l ≤ i → Decides i ok → ok ≡ every test l
    unfolding every
    decides_done h inv = found_done ok (rw (drop_of_length-le l h)) inv

pub every_at : (test : ℕ → Bool) (l : List ℕ) (i : ℕ) → every test l ≡ true → i < length l → test (get_or l i 0) ≡ true
unfolding every
every_at test [] i p h = absurd (omega arith)
every_at test (n ∷ ns) zero p h = (and_parts (test n) (every test ns) p).0
every_at test (n ∷ ns) (suc i) p h = every_at test ns i (and_parts (test n) (every test ns) p).1 (omega arith)

-- ---- the rest of the coverages and of the marks
marks_nil : (cs : List ℕ) → true ≡ marks_ok cs []
unfolding marks_ok
marks_nil [] = refl
marks_nil (c ∷ cs) = refl

-- two adjoining parts decide
marks_parts : (cs ms ds ns : List ℕ) → length cs ≡ length ms → marks_ok (cs ++ ds) (ms ++ ns) ≡ (marks_ok cs ms && marks_ok ds ns)
unfolding marks_ok
marks_parts [] [] ds ns e = refl
marks_parts [] (m ∷ ms) ds ns e = absurd (omega arith)
marks_parts (c ∷ cs) [] ds ns e = absurd (omega arith)
marks_parts (c ∷ cs) (m ∷ ms) ds ns e = (λ j. mark_ok m c && marks_parts cs ms ds ns (omega arith) j) ∙ sym (and_assoc (mark_ok m c) (marks_ok cs ms) (marks_ok ds ns))

module _ (cs ms : List ℕ) where
  pub marks_none : {i : ℕ} → length ms ≤ i → true ≡ marks_ok (drop i cs) (drop i ms)
  marks_none {i} h = marks_nil (drop i cs) ∙ ap (marks_ok (drop i cs)) (sym (drop_of_length-le ms h))

  pub marks_more :
      {i : ℕ} → length cs ≡ length ms → i < length ms
      → marks_ok (drop i cs) (drop i ms) ≡ (mark_ok (get_or ms i 0) (get_or cs i 0) && marks_ok (drop (i + 1) cs) (drop (i + 1) ms))
  unfolding marks_ok
  marks_more {i} e h = let k : i < length cs = omega arith in rw (add-one, drop-cons cs i 0, drop-cons ms i 0)

-- ---- a loop over the parts of both: what is left of each, in parts of one size, decides
pub record PartsLeft (cs ms ds ns : List ℕ) (size sizes : ℕ) : Type 0 where
  pub one_size : size ≡ sizes
  pub long : length ds ≡ length ns
  pub decide : marks_ok ds ns ≡ marks_ok cs ms

module _ {cs ms ds ns : List ℕ} {size sizes : ℕ} (left : PartsLeft cs ms ds ns size sizes) where
  -- a part of each, and what is left after it
  module _
      (c_part m_part ds' ns' : List ℕ) (e : ds ≡ c_part ++ ds') (f : ns ≡ m_part ++ ns') (n : length c_part ≡ min size (length ds))
      (m : length m_part ≡ min sizes (length ns)) where
    pub same_part : length c_part ≡ length m_part
    same_part = n ∙ (λ i. min (left.one_size i) (left.long i)) ∙ sym m

    pub part_decides : (marks_ok c_part m_part && marks_ok ds' ns') ≡ marks_ok cs ms
    part_decides = sym (marks_parts c_part m_part ds' ns' same_part) ∙ (λ i. marks_ok (sym e i) (sym f i)) ∙ left.decide

    pub parts_less : {size' sizes' : ℕ} → size' ≡ size → sizes' ≡ sizes → marks_ok c_part m_part ≡ true → PartsLeft cs ms ds' ns' size' sizes'
    parts_less p q good =
        let c_length = ap length e ∙ length-append c_part ds' in
        let m_length = ap length f ∙ length-append m_part ns' in
        record { one_size = p ∙ left.one_size ∙ sym q; long = omega (arith, same_part, left.long); decide = (λ i. sym good i && marks_ok ds' ns') ∙ part_decides }

  pub parts_done : (length ds ≡ 0) ⊎ (length ns ≡ 0) → true ≡ marks_ok cs ms
  parts_done (inl h) = marks_none ds ns {i = 0} (omega (arith, left.long)) ∙ left.decide
  parts_done (inr h) = marks_none ds ns {i = 0} (omega (arith, left.long)) ∙ left.decide

-- ---- marks put together: a question to two marks, put to the bits that one of them has or to those that both have
just_if_both : (x a b : Bool) → (a ≡ true → b ≡ true → x ≡ true) → (a ≡ false → x ≡ false) → (b ≡ false → x ≡ false) → x ≡ (a && b)
just_if_both x true true p q r = p refl refl
just_if_both x true false p q r = r refl
just_if_both x false b p q r = q refl

module _ (a b : ℕ) where
  or_below : (k : ℕ) → leb (bit_or a b) (2 ^ k - 1) ≡ (leb a (2 ^ k - 1) && leb b (2 ^ k - 1))
  or_below k =
      let t = 2 ^ k - 1 in
      just_if_both (leb (bit_or a b) t) (leb a t) (leb b t)
      (λ p q. le-leb _ t (omega (arith, pow_pos k, or_lt k a b (omega (arith, pow_pos k, leb-true a t p)) (omega (arith, pow_pos k, leb-true b t q)))))
      (λ p. lt-leb _ t (omega (arith, leb-false a t p, or_add_and a b, and_le_r a b)))
      (λ q. lt-leb _ t (omega (arith, leb-false b t q, or_add_and a b, and_le_l a b)))

  -- two mark bits
  pub or_low : at_most highest_mark (bit_or a b) ≡ (at_most highest_mark a && at_most highest_mark b)
  or_low = or_below 2

pub or_unmarked : (a b : ℕ) → coverage_unmarked (bit_or a b) ≡ (coverage_unmarked a && coverage_unmarked b)
or_unmarked a b =
    (λ i. not (leb 2 (or_mod a b 2 i))) ∙ under (bit_or (a % 4) (b % 4)) ∙ or_below (a % 4) (b % 4) 1 ∙ (λ i. sym (under (a % 4)) i && sym (under (b % 4)) i)
  where
    go : (n : ℕ) (t : Bool) → leb 2 n ≡ t → not t ≡ leb n 1
    go n true p = sym (lt-leb n 1 (leb-true 2 n p))
    go n false p = sym (le-leb n 1 (omega (arith, leb-false 2 n p)))

    under : (n : ℕ) → not (leb 2 n) ≡ leb n 1
    under n = go n (leb 2 n) refl

pub and_marked : (a b : ℕ) → coverage_marked (bit_and a b) ≡ (coverage_marked a && coverage_marked b)
and_marked a b = (λ i. leb 2 (and_mod a b 2 i)) ∙ go (a % 4) (b % 4) (omega arith) (omega arith)
  where
    go : (r s : ℕ) → r < 4 → s < 4 → leb 2 (bit_and r s) ≡ (leb 2 r && leb 2 s)
    go r s h k =
        just_if_both (leb 2 (bit_and r s)) (leb 2 r) (leb 2 s)
        (λ p q. le-leb 2 (bit_and r s) (omega (arith, halves (leb-true 2 r p) (leb-true 2 s q))))
        (λ p. lt-leb 2 (bit_and r s) (omega (arith, leb-false 2 r p, and_le_l r s)))
        (λ q. lt-leb 2 (bit_and r s) (omega (arith, leb-false 2 s q, and_le_r r s)))
      where
        halves : 2 ≤ r → 2 ≤ s → bit_and r s / 2 ≡ 1
        halves x y =
            let u : r / 2 ≡ 1 = omega arith in
            let v : s / 2 ≡ 1 = omega arith in
            and_shr r s 1 ∙ (λ i. bit_and (u i) (v i))

-- ---- what the marks alone say of number 3
pub marks_high : (cs ms : List ℕ) → length cs ≡ length ms → every (at_most highest_mark) ms ≡ false → false ≡ marks_ok cs ms
unfolding every marks_ok mark_ok
marks_high [] [] e p = sym p
marks_high [] (m ∷ ms) e p = absurd (omega arith)
marks_high (c ∷ cs) [] e p = absurd (omega arith)
marks_high (c ∷ cs) (m ∷ ms) e p = go (leb m highest_mark) (not (coverage_marked m) || leb c 7) (every (at_most highest_mark) ms) (marks_ok cs ms) (marks_high cs ms (omega arith)) p
  where
    go : (a x r s : Bool) → (r ≡ false → false ≡ s) → (a && r) ≡ false → false ≡ ((a && x) && s)
    go false x r s h q = refl
    go true false r s h q = refl
    go true true r s h q = h q

pub marks_unmarked : (cs ms : List ℕ) → every (at_most highest_mark) ms ≡ true → every coverage_unmarked ms ≡ true → true ≡ marks_ok cs ms
unfolding every marks_ok mark_ok
marks_unmarked [] ms p q = refl
marks_unmarked (c ∷ cs) [] p q = refl
marks_unmarked (c ∷ cs) (m ∷ ms) p q =
    let a = leb m highest_mark in
    let b = coverage_unmarked m in
    let r = every (at_most highest_mark) ms in
    let s = every coverage_unmarked ms in
    λ i. (sym (and_parts a r p).0 i && (sym (and_parts b s q).0 i || leb c 7)) && marks_unmarked cs ms (and_parts a r p).1 (and_parts b s q).1 i

pub marks_marked :
    (cs ms : List ℕ) → length cs ≡ length ms → every (at_most highest_mark) ms ≡ true → every coverage_marked ms ≡ true → every (at_most 7) cs ≡ marks_ok cs ms
unfolding every marks_ok mark_ok
marks_marked [] [] e p q = refl
marks_marked [] (m ∷ ms) e p q = absurd (omega arith)
marks_marked (c ∷ cs) [] e p q = absurd (omega arith)
marks_marked (c ∷ cs) (m ∷ ms) e p q =
    let a = leb m highest_mark in
    let b = coverage_marked m in
    let r = every (at_most highest_mark) ms in
    let s = every coverage_marked ms in
    λ i. (sym (and_parts a r p).0 i && (not (sym (and_parts b s q).0 i) || leb c 7)) && marks_marked cs ms (omega arith) (and_parts a r p).1 (and_parts b s q).1 i
