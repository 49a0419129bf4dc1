-- Laws of a list put together from parts: its next part, its length, two lists of parts one after the other, parts that are counted from elsewhere, and that parts with
-- nothing in them may be left out at both ends.
-- Assumes nothing.
use mathlib.Core.Path.{◌≡◌, refl, sym, ap, subst, ◌∙◌}
use mathlib.Core.List.{List, [], ◌∷◌, ◌++◌}
use Prim.Native.Nat.{ℕ, zero, suc, ◌+◌, ◌-◌, ◌*◌, ◌≤◌, ◌<◌}
use native.Mathlib.Nat.{suc-mul, add-zero}
use native.Mathlib.Omega.{arith}
use lib.ListN.{length, get_or, length-append}
use Rattle.raster_pixel.specs.Parts.{parts, from}

module _ {A : Type 0} (c : ℕ → List A) where
  -- the parts from i on are part i and those from i + 1 on
  pub from_more : (i b : ℕ) → i < b → from c i b ≡ c i ++ from c (i + 1) b
  from_more i b h = subst (λ (k : ℕ). parts c k i ≡ c i ++ parts c (b - (i + 1)) (i + 1)) e (more (b - (i + 1)))
    where
      e : suc (b - (i + 1)) ≡ b - i
      e = omega arith

      more : (k : ℕ) → parts c (suc k) i ≡ c i ++ parts c k (i + 1)
      more k = unfold parts in refl

  pub from_none : (i b : ℕ) → b ≤ i → from c i b ≡ []
  from_none i b h = subst (λ (k : ℕ). parts c k i ≡ []) e none
    where
      e : 0 ≡ b - i
      e = omega arith

      none : parts c 0 i ≡ []
      none = unfold parts in refl

  pub parts_bound : (b : ℕ) → ((i : ℕ) → length (c i) ≤ b) → (n i : ℕ) → length (parts c n i) ≤ n * b
  unfolding parts
  parts_bound b h zero i = omega arith
  parts_bound b h (suc n) i = rw (length-append, suc-mul) (omega (arith, h i, parts_bound b h n (i + 1)))

  -- the parts up to m, and those from there
  assoc : (xs ys zs : List A) → (xs ++ ys) ++ zs ≡ xs ++ (ys ++ zs)
  assoc [] ys zs = refl
  assoc (x ∷ xs) ys zs = ap (λ (l : List A). x ∷ l) (assoc xs ys zs)

  joined : (k a b : ℕ) → a + k ≤ b → from c a (a + k) ++ from c (a + k) b ≡ from c a b
  joined zero a b h =
      let still : a + 0 ≡ a = add-zero a in
      (λ i. from_none a (a + 0) (omega arith) i ++ from c (still i) b)
  joined (suc k) a b h =
      let e : a + 1 + k ≡ a + suc k = omega arith in
      (λ i. from_more a (a + suc k) (omega arith) i ++ from c (a + suc k) b)
      ∙ assoc (c a) (from c (a + 1) (a + suc k)) (from c (a + suc k) b)
      ∙ ap (λ (l : List A). c a ++ l) ((λ i. from c (a + 1) (sym e i) ++ from c (sym e i) b) ∙ joined k (a + 1) b (omega arith))
      ∙ sym (from_more a b (omega arith))

  pub from_join : (a m b : ℕ) → a ≤ m → m ≤ b → from c a m ++ from c m b ≡ from c a b
  from_join a m b h k =
      let e : a + (m - a) ≡ m = omega arith in
      subst (λ (j : ℕ). from c a j ++ from c j b ≡ from c a b) e (joined (m - a) a b (omega arith))

  -- one part
  pub from_one : (i : ℕ) → from c i (i + 1) ≡ c i
  from_one i = from_more i (i + 1) (omega arith) ∙ (λ j. c i ++ from_none (i + 1) (i + 1) (omega arith) j) ∙ none (c i)
    where
      none : (l : List A) → l ++ [] ≡ l
      none [] = refl
      none (x ∷ l) = ap (λ (t : List A). x ∷ t) (none l)

  -- parts that are counted from d on
  pub from_shift : (d a b : ℕ) → from (λ (i : ℕ). c (d + i)) a b ≡ from c (d + a) (d + b)
  unfolding parts
  from_shift d a b = let e : d + b - (d + a) ≡ b - a = omega arith in go (b - a) a ∙ (λ i. parts c (sym e i) (d + a))
    where
      go : (n i : ℕ) → parts (λ (j : ℕ). c (d + j)) n i ≡ parts c n (d + i)
      go zero i = refl
      go (suc n) i = let e : d + (i + 1) ≡ d + i + 1 = omega arith in (λ j. c (d + i) ++ (go n (i + 1) ∙ (λ k. parts c n (e k))) j)

  -- parts that are the same
  pub from_same : (d : ℕ → List A) (a b : ℕ) → ((i : ℕ) → a ≤ i → i < b → c i ≡ d i) → from c a b ≡ from d a b
  unfolding parts
  from_same d a b h = go (b - a) a (λ i p q. h i p (omega arith))
    where
      go : (n i : ℕ) → ((j : ℕ) → i ≤ j → j < i + n → c j ≡ d j) → parts c n i ≡ parts d n i
      go zero i s = refl
      go (suc n) i s = λ j. s i (omega arith) (omega arith) j ++ go n (i + 1) (λ k p q. s k (omega arith) (omega arith)) j

  -- k empty parts in front
  skip : (k i b : ℕ) → ((j : ℕ) → i ≤ j → j < i + k → c j ≡ []) → i + k ≤ b → from c i b ≡ from c (i + k) b
  skip zero i b z h = ap (λ (n : ℕ). from c n b) (sym (add-zero i))
  skip (suc k) i b z h =
      let g : i + 1 + k ≡ i + suc k = omega arith in
      from_more i b (omega arith)
      ∙ ap (λ (l : List A). l ++ from c (i + 1) b) (z i (omega arith) (omega arith))
      ∙ skip k (i + 1) b (λ j p q. z j (omega arith) (omega arith)) (omega arith)
      ∙ ap (λ (n : ℕ). from c n b) g

  -- only empty parts
  pub from_empty : (i b : ℕ) → ((j : ℕ) → i ≤ j → j < b → c j ≡ []) → from c i b ≡ []
  from_empty i b z = by (b - i) refl
    where
      by : (n : ℕ) → b - i ≡ n → from c i b ≡ []
      by zero e = from_none i b (omega arith)
      by (suc n) e = skip (suc n) i b (λ j p q. z j p (omega arith)) (omega arith) ∙ from_none (i + suc n) b (omega arith)

  -- k parts, and empty ones after them
  cut : (k i b : ℕ) → ((j : ℕ) → i + k ≤ j → j < b → c j ≡ []) → i + k ≤ b → from c i b ≡ from c i (i + k)
  cut zero i b z h = from_empty i b (λ j p q. z j (omega arith) q) ∙ sym (from_none i (i + 0) (omega arith))
  cut (suc k) i b z h =
      let g : i + 1 + k ≡ i + suc k = omega arith in
      from_more i b (omega arith)
      ∙ ap (λ (l : List A). c i ++ l) (cut k (i + 1) b (λ j p q. z j (omega arith) q) (omega arith) ∙ ap (λ (n : ℕ). from c (i + 1) n) g)
      ∙ sym (from_more i (i + suc k) (omega arith))

  -- the parts outside s..e are empty, so only those inside count
  pub window : (a b s e : ℕ) → a ≤ s → s ≤ e → e ≤ b → ((j : ℕ) → a ≤ j → j < s → c j ≡ []) → ((j : ℕ) → e ≤ j → j < b → c j ≡ []) → from c a b ≡ from c s e
  window a b s e h i k before after =
      let f : a + (s - a) ≡ s = omega arith in
      let g : s + (e - s) ≡ e = omega arith in
      skip (s - a) a b (λ j p q. before j p (omega arith)) (omega arith)
      ∙ ap (λ (n : ℕ). from c n b) f
      ∙ cut (e - s) s b (λ j p q. after j (omega arith) q) (omega arith)
      ∙ ap (λ (n : ℕ). from c s n) g

-- parts of one element each
module _ {A : Type 0} (x : ℕ → A) where
  ones : ℕ → List A
  ones i = x i ∷ []

  ones_length : (k a : ℕ) → length (parts ones k a) ≡ k
  unfolding parts ones
  ones_length zero a = refl
  ones_length (suc k) a = ap suc (ones_length k (a + 1))

  ones_at : (d : A) (k a j : ℕ) → j < k → get_or (parts ones k a) j d ≡ x (a + j)
  unfolding parts ones
  ones_at d zero a j h = absurd (omega arith)
  ones_at d (suc k) a zero h = ap x (sym (add-zero a))
  ones_at d (suc k) a (suc j) h = let e : a + 1 + j ≡ a + suc j = omega arith in ones_at d k (a + 1) j (omega arith) ∙ ap x e

  pub each_length : (a n : ℕ) → length (from (λ (i : ℕ). x i ∷ []) a (a + n)) ≡ n
  unfolding ones
  each_length a n = let e : a + n - a ≡ n = omega arith in ones_length (a + n - a) a ∙ e

  pub each_at : (d : A) (a n j : ℕ) → j < n → get_or (from (λ (i : ℕ). x i ∷ []) a (a + n)) j d ≡ x (a + j)
  unfolding ones
  each_at d a n j h = ones_at d (a + n - a) a j (omega arith)
