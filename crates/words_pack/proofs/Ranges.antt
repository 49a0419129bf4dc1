-- The manual's ranges follow each other without a gap from 0 to 0x3ffff, so each depth lies in exactly one of them, and that is the one that
-- `range_of` finds. Shown for any table whose ranges are chained so; that this one is chained is computed. Assumes nothing.
use Rattle.std.proofs.Common.{◌≡◌, ℕ, ◌+◌, ◌-◌, ◌*◌, ◌^◌, ◌<◌, ◌≤◌, Bool, cond, leb, List, [], ◌∷◌, sym, refl, ap, ◌∙◌, subst, ⊎_elim, div-lt_iff_lt-mul, arith, pow_pos, le-leb}
use mathlib.Core.List.Memᴰ
use mathlib.Core.List.{Memᴰ}
use native.Mathlib.Decide.{dec_lt}
use borrow.Author.Tests.{lt-leb}
use Rattle.words_pack.specs.Depth.{deepest, Range, lowest, ranges, Within, last_from, range_of}

-- one past the last depth of a range
abbrev end : Range → ℕ
end r = r.first + 2048 * 2 ^ r.shift

-- each range starts where the one before it ends, from a to e
abbrev Chain : ℕ → List Range → ℕ → Type 0
Chain a [] e = a ≡ e
Chain a (r ∷ rs) e = (r.first ≡ a) × Chain (end r) rs e

chained : Chain 0 ranges 0x40000
chained = (refl, (refl, (refl, (refl, (refl, (refl, (refl, (refl, refl))))))))

before_end : (r : Range) (d : ℕ) → Within r d → d < end r
before_end r d w =
    let h : d - r.first < 2048 * 2 ^ r.shift = (div-lt_iff_lt-mul (pow_pos r.shift)).0 w.1 in
    omega arith

-- a depth before the first of the ranges leaves the range that was found
none_above : (rs : List Range) (a e d : ℕ) (r : Range) → Chain a rs e → d < a → last_from r rs d ≡ r
unfolding last_from
none_above [] a e d r ch h = refl
none_above (s ∷ rs) a e d r ch h =
    let at : s.first ≡ a = ch.0 in
    ap (λ (b : Bool). last_from (cond b s r) rs d) (lt-leb s.first d (omega arith))
    ∙ none_above rs (end s) e d r ch.1 (omega arith)

-- a range of the table that has the depth is the one that is found
found : (rs : List Range) (a e d : ℕ) (r s : Range) → Chain a rs e → Memᴰ s rs → Within s d → last_from r rs d ≡ s
unfolding last_from
found [] a e d r s ch m w = absurd (Memᴰ.not-nil m)
found (x ∷ rs) a e d r s ch m w = ⊎_elim here (λ n. found rs (end x) e d (cond (leb x.first d) x r) s ch.1 n w) (Memᴰ.cases_cons m)
  where
    here : s ≡ x → last_from (cond (leb x.first d) x r) rs d ≡ s
    here q =
        let v : Within x d = subst (λ (y : Range). Within y d) q w in
        ap (λ (b : Bool). last_from (cond b x r) rs d) (le-leb x.first d v.0)
        ∙ none_above rs (end x) e d x ch.1 (before_end x d v)
        ∙ sym q

-- some range of the table has the depth
some : (rs : List Range) (a e d : ℕ) → Chain a rs e → a ≤ d → d < e → (s : Range) × Memᴰ s rs × Within s d
some [] a e d ch l h = absurd (let no : ⊥ = omega arith in no)
some (x ∷ rs) a e d ch l h = by (λ g. some rs (end x) e d ch.1 g h) (dec_lt d (end x))
  where
    by : (end x ≤ d → (s : Range) × Memᴰ s rs × Within s d) → Dec (d < end x) → (s : Range) × Memᴰ s (x ∷ rs) × Within s d
    by rest (yes y) =
        let at : x.first ≡ a = ch.0 in
        (x, Memᴰ.head refl, (omega arith, (div-lt_iff_lt-mul (pow_pos x.shift)).1 (omega arith)))
    by rest (no n) =
        let r = rest (omega arith) in
        (r.0, Memᴰ.tail r.1, r.2)

-- the range of a depth is any range of the table that has it
range_is : (d : ℕ) (s : Range) → Memᴰ s ranges → Within s d → range_of d ≡ s
unfolding range_of
range_is d s m w = found ranges 0 0x40000 d lowest s chained m w

-- Each depth of eighteen bits lies in exactly one range of the table, the one by which its word is made
pub one_range : (d : ℕ) → d ≤ deepest
    → (Memᴰ (range_of d) ranges × Within (range_of d) d) × ((s : Range) → Memᴰ s ranges → Within s d → range_of d ≡ s)
one_range d h =
    let s = some ranges 0 0x40000 d chained (omega arith) (omega arith) in
    (subst (λ (r : Range). Memᴰ r ranges × Within r d) (sym (range_is d s.0 s.1 s.2)) (s.1, s.2), range_is d)
