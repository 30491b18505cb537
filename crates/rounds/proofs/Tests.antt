-- Facts that are decided, and the first number that has one.
use Rattle.std.proofs.Common.{◌≡◌, ℕ, zero, suc, ◌<◌, ◌≤◌, Bool, true, false, ◌&&◌, ◌⊎◌, ◌↔◌, Decides, sym, subst, inl, inr, not-suc-le-zero, arith}
use Rattle.std.proofs.lemmas.Bool.{cases_Bool, cases_eq, and_parts, and_from}
use Rattle.std.proofs.lemmas.Bool.Decides.{not_from_Decides}

-- What a test decides holds or fails.
pub told : {P : Type 0} (b : Bool) → Decides b P → P ⊎ (¬ P)
told {P} b d = go (cases_Bool b)
  where
    go : (b ≡ true) ⊎ (b ≡ false) → P ⊎ (¬ P)
    go (inl e) = inl (d.0 e)
    go (inr e) = inr (not_from_Decides b d e)

-- What a test decides holds if it does not fail.
pub firm : {P : Type 0} (b : Bool) → Decides b P → ¬ (¬ P) → P
firm b d n = elim (told b d) [ inl h ↦ h | inr f ↦ absurd (n f) ]

-- The second test need only decide where the first fact holds.
pub decides_then : {P Q : Type 0} (a b : Bool) → Decides a P → (P → Decides b Q) → Decides (a && b) (P × Q)
decides_then a b d f =
    (λ e. let v = and_parts a b e in (d.0 v.0, (f (d.0 v.0)).0 v.1), λ h. and_from a b (d.1 h.0) ((f h.0).1 h.1))

-- Whether two decided facts are equivalent is decided.
pub iff_told : {P Q : Type 0} → P ⊎ (¬ P) → Q ⊎ (¬ Q) → (P ↔ Q) ⊎ (¬ (P ↔ Q))
iff_told (inl p) (inl q) = inl (λ _. q, λ _. p)
iff_told (inl p) (inr n) = inr (λ e. n (e.0 p))
iff_told (inr n) (inl q) = inr (λ e. n (e.1 q))
iff_told (inr n) (inr m) = inl (λ p. absurd (n p), λ q. absurd (m q))

-- Whether all numbers below n have a decided fact is decided.
pub all_told : (n : ℕ) (A : ℕ → Type 0) → ((i : ℕ) → i < n → A i ⊎ (¬ (A i))) → ((i : ℕ) → i < n → A i) ⊎ (¬ ((i : ℕ) → i < n → A i))
all_told zero A d = inl (λ i l. absurd (not-suc-le-zero l))
all_told (suc n) A d = go (d n (omega arith)) (all_told n A (λ i l. d i (omega arith)))
  where
    last : A n → ((i : ℕ) → i < n → A i) → (i : ℕ) → i < suc n → (i ≡ n) ⊎ (i ≡ n → ⊥) → A i
    last h f i l (inl e) = subst A (sym e) h
    last h f i l (inr d) = f i (omega arith)

    go : A n ⊎ (¬ (A n)) → ((i : ℕ) → i < n → A i) ⊎ (¬ ((i : ℕ) → i < n → A i)) → ((i : ℕ) → i < suc n → A i) ⊎ (¬ ((i : ℕ) → i < suc n → A i))
    go (inl h) (inl f) = inl (λ i l. last h f i l (cases_eq i n))
    go (inl h) (inr n) = inr (λ f. n (λ i l. f i (omega arith)))
    go (inr n) r = inr (λ f. n (f _ (omega arith)))

-- k is the first number with the fact.
pub record First (A : ℕ → Type 0) (k : ℕ) : Type 0 where
  pub is : A k
  pub none : (j : ℕ) → j < k → ¬ (A j)

-- Some number below n is the first with a decided fact, or none below n has it.
pub first_below : (n : ℕ) (A : ℕ → Type 0) → ((i : ℕ) → i < n → A i ⊎ (¬ (A i))) → ((k : ℕ) × (k < n) × First A k) ⊎ ((j : ℕ) → j < n → ¬ (A j))
first_below zero A d = inr (λ j l. absurd (not-suc-le-zero l))
first_below (suc n) A d = go (first_below n A (λ i l. d i (omega arith))) (d n (omega arith))
  where
    last : ¬ (A n) → ((j : ℕ) → j < n → ¬ (A j)) → (j : ℕ) → j < suc n → (j ≡ n) ⊎ (j ≡ n → ⊥) → ¬ (A j)
    last h f j l (inl e) = subst (λ (k : ℕ). ¬ (A k)) (sym e) h
    last h f j l (inr d) = f j (omega arith)

    go : ((k : ℕ) × (k < n) × First A k) ⊎ ((j : ℕ) → j < n → ¬ (A j)) → A n ⊎ (¬ (A n)) → ((k : ℕ) × (k < suc n) × First A k) ⊎ ((j : ℕ) → j < suc n → ¬ (A j))
    go (inl w) t = inl (w.0, omega (arith, w.1), w.2)
    go (inr f) (inl h) = inl (n, omega arith, record { is = h; none = f })
    go (inr f) (inr h) = inr (λ j l. last h f j l (cases_eq j n))

-- Where n has a decided fact, some number up to n is the first with it.
pub first : (n : ℕ) (A : ℕ → Type 0) → ((i : ℕ) → i ≤ n → A i ⊎ (¬ (A i))) → A n → (k : ℕ) × (k ≤ n) × First A k
first n A d h = go (first_below (suc n) A (λ i l. d i (omega arith)))
  where
    go : ((k : ℕ) × (k < suc n) × First A k) ⊎ ((j : ℕ) → j < suc n → ¬ (A j)) → (k : ℕ) × (k ≤ n) × First A k
    go (inl w) = (w.0, omega (arith, w.1), w.2)
    go (inr f) = absurd (f n (omega arith) h)
