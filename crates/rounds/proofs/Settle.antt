-- The rounds become stable, after no more of them than there are places.
use Rattle.std.proofs.Common.{◌≡◌, ℕ, zero, suc, ◌+◌, ◌<◌, ◌≤◌, Bool, true, false, ◌⊎◌, ◌↔◌, sym, refl, subst, inl, inr, not-suc-le-zero, arith}
use native.Mathlib.Decide.{le_ind}
use Rattle.std.proofs.lemmas.Bool.{cases_eq, false≢true}
use Rattle.routing.specs.Net.{Net, Pos, Within, Rests, places, settings}
use Rattle.routing.specs.Routes.{SomeNext}
use Rattle.rounds.specs.Rounds.{Grown, Kept, Stable, LeastStable, Decided}
use Rattle.rounds.proofs.Tests.{told, iff_told, all_told, first}
use Rattle.rounds.specs.Truth.{reached, grown, kept}
use Rattle.rounds.proofs.Truth.{Hit, reached_decides, grown_decides, kept_decides}

one : Bool → ℕ
one true = 1
one false = 0

one_le : (b : Bool) → one b ≤ 1
unfolding one
one_le true = omega arith
one_le false = omega arith

one_mono : (a b : Bool) → (a ≡ true → b ≡ true) → one a ≤ one b
unfolding one
one_mono true true f = omega arith
one_mono true false f = absurd (false≢true (f refl))
one_mono false b f = omega arith

one_back : (a b : Bool) → one b ≤ one a → b ≡ true → a ≡ true
unfolding one
one_back true b l t = refl
one_back false true l t = absurd (omega arith)
one_back false false l t = t

-- How many numbers below n pass.
count : ℕ → (ℕ → Bool) → ℕ
count zero f = 0
count (suc n) f = one (f n) + count n f

abbrev Fewer : ℕ → (ℕ → Bool) → (ℕ → Bool) → Type 0
Fewer n f g = (i : ℕ) → i < n → f i ≡ true → g i ≡ true

count_le : (n : ℕ) (f : ℕ → Bool) → count n f ≤ n
unfolding count
count_le zero f = omega arith
count_le (suc n) f = omega (arith, one_le (f n), count_le n f)

count_mono : (n : ℕ) (f g : ℕ → Bool) → Fewer n f g → count n f ≤ count n g
unfolding count
count_mono zero f g h = omega arith
count_mono (suc n) f g h = omega (arith, one_mono (f n) (g n) (h n (omega arith)), count_mono n f g (λ i l. h i (omega arith)))

-- All of f pass g, and no more pass g: then all of g pass f.
count_back : (n : ℕ) (f g : ℕ → Bool) → Fewer n f g → count n g ≤ count n f → Fewer n g f
unfolding count
count_back zero f g h c i l t = absurd (not-suc-le-zero l)
count_back (suc n) f g h c i l t = go (cases_eq i n) (λ u v. count_back n f g (λ j k. h j (omega arith)) u i v t)
  where
    a : one (f n) ≤ one (g n)
    a = one_mono (f n) (g n) (h n (omega arith))

    b : count n f ≤ count n g
    b = count_mono n f g (λ j k. h j (omega arith))

    go : (i ≡ n) ⊎ (i ≡ n → ⊥) → (count n g ≤ count n f → i < n → f i ≡ true) → f i ≡ true
    go (inl e) r = subst (λ (k : ℕ). f k ≡ true) (sym e) (one_back (f n) (g n) (omega (arith, b)) (subst (λ (k : ℕ). g k ≡ true) e t))
    go (inr d) r = r (omega (arith, a)) (omega arith)

count_none : (n : ℕ) (f : ℕ → Bool) → count n f ≡ 0 → (i : ℕ) → i < n → ¬ (f i ≡ true)
count_none n f e i l t = false≢true (count_back n (λ _. false) f (λ j k u. absurd (false≢true u)) (omega (arith, e)) i l t)

-- A sequence that never falls stops somewhere below k, or gains one at each number below k.
climb : (c : ℕ → ℕ) → ((i : ℕ) → c i ≤ c (suc i)) → (k : ℕ) → ((i : ℕ) × (i < k) × (c (suc i) ≤ c i)) ⊎ (c 0 + k ≤ c k)
climb c up zero = inr (omega arith)
climb c up (suc k) = go (climb c up k) (cases_eq (c (suc k)) (c k))
  where
    go : ((i : ℕ) × (i < k) × (c (suc i) ≤ c i)) ⊎ (c 0 + k ≤ c k) → (c (suc k) ≡ c k) ⊎ (c (suc k) ≡ c k → ⊥)
        → ((i : ℕ) × (i < suc k) × (c (suc i) ≤ c i)) ⊎ (c 0 + suc k ≤ c (suc k))
    go (inl w) d = inl (w.0, omega (arith, w.1), w.2)
    go (inr h) (inl e) = inl (k, omega arith, omega (arith, e))
    go (inr h) (inr d) = inr (omega (arith, up k))

-- One that never rises stops somewhere below k, or loses one at each number below k.
fall : (c : ℕ → ℕ) → ((i : ℕ) → c (suc i) ≤ c i) → (k : ℕ) → ((i : ℕ) × (i < k) × (c i ≤ c (suc i))) ⊎ (c k + k ≤ c 0)
fall c down zero = inr (omega arith)
fall c down (suc k) = go (fall c down k) (cases_eq (c (suc k)) (c k))
  where
    go : ((i : ℕ) × (i < k) × (c i ≤ c (suc i))) ⊎ (c k + k ≤ c 0) → (c (suc k) ≡ c k) ⊎ (c (suc k) ≡ c k → ⊥)
        → ((i : ℕ) × (i < suc k) × (c i ≤ c (suc i))) ⊎ (c (suc k) + suc k ≤ c 0)
    go (inl w) d = inl (w.0, omega (arith, w.1), w.2)
    go (inr h) (inl e) = inl (k, omega arith, omega (arith, e))
    go (inr h) (inr d) = inr (omega (arith, down k))

-- Each place with a position of A has one of B.
abbrev Covers : Net → (Pos → Type 0) → (Pos → Type 0) → Type 0
Covers N A B = (t : ℕ) → t < places N → Hit N A t → Hit N B t

-- Which steps lead into a set depends only on the places that it has.
next_covers : (N : Net) (A B : Pos → Type 0) → Covers N A B → (x : Pos) → SomeNext N A x → SomeNext N B x
next_covers N A B f x (y, s, h) =
    let v = f y.place s.within.place_in (y.setting, s.within.setting_in, h) in (
      record { place = y.place; setting = v.0 },
      record {
        number = s.number;
        by = s.by;
        listed = s.listed;
        leaves = s.leaves;
        enters = s.enters;
        forwarded = s.forwarded;
        within = record { place_in = s.within.place_in; setting_in = v.1 };
      },
      v.2,
    )

-- A sequence of decided sets that only grows, or only shrinks.
module _ (N : Net) (T : ℕ → Pos → Type 0) (b : ℕ → Pos → Bool) (d : (i : ℕ) → Decided N (b i) (T i)) where
  abbrev hits : ℕ → ℕ → Bool
  hits i = reached N (b i)

  abbrev tally : ℕ → ℕ
  tally i = count (places N) (hits i)

  fewer : (i j : ℕ) → ((x : Pos) → T i x → T j x) → Fewer (places N) (hits i) (hits j)
  fewer i j f t l e =
      let h = (reached_decides N (b i) (T i) (d i) t l).0 e in
      (reached_decides N (b j) (T j) (d j) t l).1 (h.0, h.1, f _ h.2)

  covers : (i j : ℕ) → Fewer (places N) (hits i) (hits j) → Covers N (T i) (T j)
  covers i j f t l h = (reached_decides N (b j) (T j) (d j) t l).0 (f t l ((reached_decides N (b i) (T i) (d i) t l).1 h))

  -- no place is hit where the tally is 0
  empty : (i : ℕ) → tally i ≡ 0 → (x : Pos) → Within N x → ¬ (T i x)
  empty i e x w h =
      count_none (places N) (hits i) e x.place w.place_in
      ((reached_decides N (b i) (T i) (d i) x.place w.place_in).1 (x.setting, w.setting_in, h))

  -- A growing sequence gains no place in some round, or starts empty.
  rises : ((i : ℕ) (x : Pos) → T i x → T (suc i) x)
      → ((i : ℕ) × (i < places N) × Covers N (T (suc i)) (T i)) ⊎ ((x : Pos) → Within N x → ¬ (T 0 x))
  rises up = go (climb tally (λ i. count_mono (places N) (hits i) (hits (suc i)) (fewer i (suc i) (up i))) (places N))
    where
      go : ((i : ℕ) × (i < places N) × (tally (suc i) ≤ tally i)) ⊎ (tally 0 + places N ≤ tally (places N))
          → ((i : ℕ) × (i < places N) × Covers N (T (suc i)) (T i)) ⊎ ((x : Pos) → Within N x → ¬ (T 0 x))
      go (inl (i, l, c)) = inl (i, l, covers (suc i) i (count_back (places N) (hits i) (hits (suc i)) (fewer i (suc i) (up i)) c))
      go (inr h) = inr (empty 0 (omega (arith, count_le (places N) (hits (places N)))))

  -- A shrinking sequence loses no place in some round, or ends empty.
  falls : ((i : ℕ) (x : Pos) → T (suc i) x → T i x)
      → ((i : ℕ) × (i < places N) × Covers N (T i) (T (suc i))) ⊎ ((x : Pos) → Within N x → ¬ (T (places N) x))
  falls down = go (fall tally (λ i. count_mono (places N) (hits (suc i)) (hits i) (fewer (suc i) i (down i))) (places N))
    where
      go : ((i : ℕ) × (i < places N) × (tally i ≤ tally (suc i))) ⊎ (tally (places N) + places N ≤ tally 0)
          → ((i : ℕ) × (i < places N) × Covers N (T i) (T (suc i))) ⊎ ((x : Pos) → Within N x → ¬ (T (places N) x))
      go (inl (i, l, c)) = inl (i, l, covers i (suc i) (count_back (places N) (hits (suc i)) (hits i) (fewer (suc i) i (down i)) c))
      go (inr h) = inr (empty (places N) (omega (arith, count_le (places N) (hits 0))))

  -- Whether a round is stable is decided.
  stable_told : (i : ℕ) → Stable N T i ⊎ (¬ (Stable N T i))
  stable_told i = go (all_told (places N) Row (λ s l. all_told (settings N) (Same s) (λ a k. at s l a k)))
    where
      Same : ℕ → ℕ → Type 0
      Same s a = T (suc i) (record { place = s; setting = a }) ↔ T i (record { place = s; setting = a })

      Row : ℕ → Type 0
      Row s = (a : ℕ) → a < settings N → Same s a

      at : (s : ℕ) → s < places N → (a : ℕ) → a < settings N → Same s a ⊎ (¬ (Same s a))
      at s l a k =
          let x : Pos = record { place = s; setting = a } in
          let w : Within N x = record { place_in = l; setting_in = k } in
          iff_told (told (b (suc i) x) (d (suc i) x w)) (told (b i x) (d i x w))

      go : ((s : ℕ) → s < places N → Row s) ⊎ (¬ ((s : ℕ) → s < places N → Row s)) → Stable N T i ⊎ (¬ (Stable N T i))
      go (inl f) = inl (λ x w. f x.place w.place_in x.setting w.setting_in)
      go (inr n) = inr (λ f. n (λ s l a k. f (record { place = s; setting = a }) (record { place_in = l; setting_in = k })))

  -- Where a round up to n is stable, one of them is the first.
  least_stable : (n k : ℕ) → k ≤ n → Stable N T k → (i : ℕ) × (i ≤ n) × LeastStable N T i
  least_stable n k l s =
      let v = first k (Stable N T) (λ i _. stable_told i) s in
      (v.0, omega (arith, v.1), record { stable = v.2.is; first = v.2.none })

module _ (N : Net) (P Q : Pos → Type 0) where
  -- A round of E[p U q] is stable if it has each position of p that has a step into it.
  until_stable : (i : ℕ) → ((x : Pos) → Within N x → P x → SomeNext N (Grown N P Q i) x → Grown N P Q i x) → Stable N (Grown N P Q) i
  until_stable i f x w = (λ h. elim h [ inl g ↦ g | inr g ↦ f x w g.0 g.1 ], inl)

  -- After a stable round of E[p U q] each round is stable.
  pub until_stays : (i : ℕ) → Stable N (Grown N P Q) i → (k : ℕ) → i ≤ k → Stable N (Grown N P Q) k
  until_stays i s = le_ind (Stable N (Grown N P Q)) s
      (λ m l t. until_stable (suc m) (λ x w p e. inr (p, (e.0, e.1, (t e.0 e.1.within).0 e.2))))

module _ (N : Net) (p q : Pos → Bool) (P Q : Pos → Type 0) (dp : Decided N p P) (dq : Decided N q Q) where
  until_some : (i : ℕ) × (i ≤ places N) × Stable N (Grown N P Q) i
  until_some = go (rises N G (grown N p q) (grown_decides N p q P Q dp dq) (λ i x h. inl h))
    where
      G : ℕ → Pos → Type 0
      G = Grown N P Q

      go : ((i : ℕ) × (i < places N) × Covers N (G (suc i)) (G i)) ⊎ ((x : Pos) → Within N x → ¬ (G 0 x))
          → (i : ℕ) × (i ≤ places N) × Stable N G i
      go (inl (i, l, c)) = (suc i, l, until_stable N P Q (suc i) (λ x w h e. inr (h, next_covers N (G (suc i)) (G i) c x e)))
      go (inr n) = (0, omega arith, until_stable N P Q 0 (λ x w h e. absurd (n e.0 e.1.within e.2)))

  -- As many rounds of E[p U q] as there are places are enough.
  pub until_settled : Stable N (Grown N P Q) (places N)
  until_settled = let v = until_some in until_stays N P Q v.0 v.2 (places N) v.1

  -- The first stable round of E[p U q] comes no later.
  pub until_settles : (k : ℕ) × (k ≤ places N) × LeastStable N (Grown N P Q) k
  until_settles =
      let v = until_some in
      least_stable N (Grown N P Q) (grown N p q) (grown_decides N p q P Q dp dq) (places N) v.0 v.1 v.2

module _ (N : Net) (P : Pos → Type 0) where
  -- A round of EG p is stable if each of its positions is at rest or has a step into it.
  always_stable : (i : ℕ) → ((x : Pos) → Within N x → Kept N P i x → Rests N x ⊎ SomeNext N (Kept N P i) x) → Stable N (Kept N P) i
  always_stable i f x w = (λ h. h.0, λ h. (h, f x w h))

  -- A position that is at rest or has a step into A, of which B has the steps.
  carried : (A B : Pos → Type 0) (x : Pos) → (SomeNext N A x → SomeNext N B x) → Rests N x ⊎ SomeNext N A x → Rests N x ⊎ SomeNext N B x
  carried A B x f (inl r) = inl r
  carried A B x f (inr e) = inr (f e)

  -- After a stable round of EG p each round is stable.
  pub always_stays : (i : ℕ) → Stable N (Kept N P) i → (k : ℕ) → i ≤ k → Stable N (Kept N P) k
  always_stays i s = le_ind (Stable N (Kept N P)) s
      (λ m l t. always_stable (suc m) (λ x w h. carried (Kept N P m) (Kept N P (suc m)) x (λ e. (e.0, e.1, (t e.0 e.1.within).1 e.2)) h.1))

module _ (N : Net) (p : Pos → Bool) (P : Pos → Type 0) (dp : Decided N p P) where
  always_some : (i : ℕ) × (i ≤ places N) × Stable N (Kept N P) i
  always_some = go (falls N K (kept N p) (kept_decides N p P dp) (λ i x h. h.0))
    where
      K : ℕ → Pos → Type 0
      K = Kept N P

      go : ((i : ℕ) × (i < places N) × Covers N (K i) (K (suc i))) ⊎ ((x : Pos) → Within N x → ¬ (K (places N) x))
          → (i : ℕ) × (i ≤ places N) × Stable N K i
      go (inl (i, l, c)) =
          (suc i, l, always_stable N P (suc i) (λ x w h. carried N P (K i) (K (suc i)) x (next_covers N (K i) (K (suc i)) c x) h.1))
      go (inr n) = (places N, omega arith, always_stable N P (places N) (λ x w h. absurd (n x w h)))

  -- As many rounds of EG p as there are places are enough.
  pub always_settled : Stable N (Kept N P) (places N)
  always_settled = let v = always_some in always_stays N P v.0 v.2 (places N) v.1

  -- The first stable round of EG p comes no later.
  pub always_settles : (k : ℕ) × (k ≤ places N) × LeastStable N (Kept N P) k
  always_settles =
      let v = always_some in
      least_stable N (Kept N P) (kept N p) (kept_decides N p P dp) (places N) v.0 v.1 v.2
