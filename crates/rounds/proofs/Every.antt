-- What is said of every step and route, by what is said of some.
use Rattle.std.proofs.Common.{◌≡◌, ℕ, zero, suc, ◌<◌, Bool, true, not, ◌⊎◌, ◌↔◌, subst, inl, inr, arith}
use Rattle.std.proofs.lemmas.Bool.{cases_order}
use Rattle.std.proofs.lemmas.Bool.Decides.{Decides-not}
use Rattle.routing.specs.Net.{Net, Pos, Within, Rests, places}
use Rattle.routing.specs.Routes.{Route, Has, position, Until, SomeNext, EveryNext, SomeUntil, EveryUntil, SomeAlways, EveryAlways}
use Rattle.rounds.specs.Rounds.{Kept, Decided}
use Rattle.rounds.proofs.Tests.{told, firm, First, first}
use Rattle.rounds.proofs.Truth.{all_decided, kept_decides}
use Rattle.rounds.proofs.Settle.{always_settled}
use Rattle.rounds.proofs.Walks.{has_first, starts, has_before, hop, goes_on, stays}
use Rattle.rounds.proofs.Exact.{always_exact}

-- The opposite of a decided set is decided.
pub not_decided : (N : Net) (p : Pos → Bool) (P : Pos → Type 0) → Decided N p P → Decided N (λ y. not (p y)) (λ y. ¬ (P y))
not_decided N p P d x w = Decides-not (p x) (d x w)

-- One route cannot have both p U q and (not q) U (neither p nor q).
clash : {N : Net} {x : Pos} (P Q : Pos → Type 0) (r : Route N x) → Until r P Q → Until r (λ y. ¬ (Q y)) (λ y. (¬ (P y)) × (¬ (Q y))) → ⊥
clash P Q r u v = go (cases_order u.hops v.hops)
  where
    go : (u.hops ≡ v.hops) ⊎ ((u.hops < v.hops) ⊎ (v.hops < u.hops)) → ⊥
    go (inl e) = v.holds.1 (subst (λ (k : ℕ). Q (position r k)) e u.holds)
    go (inr (inl l)) = v.before u.hops l u.holds
    go (inr (inr l)) = v.holds.0 (u.before v.hops l)

-- Every route from a position that a round of EG (not q) lacks comes to q.
module _ (N : Net) (q : Pos → Bool) (Q : Pos → Type 0) (dq : Decided N q Q) (x : Pos) (w : Within N x) (r : Route N x) where
  abbrev Meets : Type 0
  Meets = (i : ℕ) × Has r i × Q (position r i)

  abbrev Never : ℕ → Pos → Type 0
  Never = Kept N (λ y. ¬ (Q y))

  meets : (k m : ℕ) → Has r m → ¬ (Never k (position r m)) → Meets
  meets zero m h n = (m, h, firm (q (position r m)) (dq (position r m) (stays r w m h)) n)
  meets (suc k) m h n =
      go (told _ (kept_decides N (λ y. not (q y)) (λ y. ¬ (Q y)) (not_decided N q Q dq) k (position r m) (stays r w m h)))
      (goes_on r m h) (meets k m h) (meets k (suc m))
    where
      go : Never k (position r m) ⊎ (¬ (Never k (position r m))) → Has r (suc m) ⊎ Rests N (position r m)
          → (¬ (Never k (position r m)) → Meets) → (Has r (suc m) → ¬ (Never k (position r (suc m))) → Meets) → Meets
      go (inr f) o here there = here f
      go (inl t) (inl j) here there = there j (λ u. n (t, inr (position r (suc m), hop r m j, u)))
      go (inl t) (inr z) here there = absurd (n (t, inl z))

  -- It comes to a first position of q.
  until_first : Meets → (k : ℕ) × Has r k × First (λ i. Q (position r i)) k
  until_first (n, h, t) =
      let v = first n (λ i. Q (position r i)) (λ i l. told (q (position r i)) (dq (position r i) (stays r w i (has_before r i n l h)))) t in
      (v.0, has_before r v.0 n v.1 h, v.2)

-- AX p: no step leads to a position without p.
pub every_next : (N : Net) (p : Pos → Bool) (P : Pos → Type 0) → Decided N p P → (x : Pos) → Within N x
    → EveryNext N P x ↔ (¬ (SomeNext N (λ y. ¬ (P y)) x))
every_next N p P dp x w = (λ a e. e.2 (a e.0 e.1), λ n y s. firm (p y) (dp y s.within) (λ d. n (y, s, d)))

-- A[p U q]: no route comes to neither p nor q before any q, and none lacks q for good.
pub every_until : (N : Net) (p q : Pos → Bool) (P Q : Pos → Type 0) → Decided N p P → Decided N q Q → (x : Pos) → Within N x
    → EveryUntil N P Q x ↔ (¬ (SomeUntil N (λ y. ¬ (Q y)) (λ y. (¬ (P y)) × (¬ (Q y))) x ⊎ SomeAlways N (λ y. ¬ (Q y)) x))
every_until N p q P Q dp dq x w = (refutes, shows)
  where
    Bad : Type 0
    Bad = SomeUntil N (λ y. ¬ (Q y)) (λ y. (¬ (P y)) × (¬ (Q y))) x ⊎ SomeAlways N (λ y. ¬ (Q y)) x

    refutes : EveryUntil N P Q x → ¬ Bad
    refutes a (inl e) = clash P Q e.0 (a e.0) e.1
    refutes a (inr e) = let u = a e.0 in e.1 u.hops u.reached u.holds

    out : ¬ Bad → (r : Route N x) → ¬ (Kept N (λ y. ¬ (Q y)) (places N) (position r 0))
    out n r t =
        let nq = not_decided N q Q dq in
        n (inr ((always_exact N (λ y. not (q y)) (λ y. ¬ (Q y)) nq (places N) (always_settled N (λ y. not (q y)) (λ y. ¬ (Q y)) nq) x w).0
        (subst (Kept N (λ y. ¬ (Q y)) (places N)) (starts r) t)))

    made : ¬ Bad → (r : Route N x) → (k : ℕ) × Has r k × First (λ i. Q (position r i)) k → Until r P Q
    made n r (k, h, f) = record { hops = k; reached = h; holds = f.is; before = λ j l. held j l (has_before r j k (omega arith) h) }
      where
        held : (j : ℕ) → j < k → Has r j → P (position r j)
        held j l g = firm (p (position r j)) (dp (position r j) (stays r w j g))
            (λ d. n (inl (r, record { hops = j; reached = g; holds = (d, f.none j l); before = λ i b. f.none i (omega arith) })))

    shows : ¬ Bad → EveryUntil N P Q x
    shows n r = made n r (until_first N q Q dq x w r (meets N q Q dq x w r (places N) 0 (has_first r) (out n r)))

-- AF q: no route lacks q for good.
pub every_some : (N : Net) (q : Pos → Bool) (Q : Pos → Type 0) → Decided N q Q → (x : Pos) → Within N x
    → EveryUntil N (λ _. Unit {0}) Q x ↔ (¬ (SomeAlways N (λ y. ¬ (Q y)) x))
every_some N q Q dq x w = (λ a e. both.0 a (inr e), λ n. both.1 (only n))
  where
    both : EveryUntil N (λ _. Unit {0}) Q x ↔ (¬ (SomeUntil N (λ y. ¬ (Q y)) (λ y. (¬ (Unit {0})) × (¬ (Q y))) x ⊎ SomeAlways N (λ y. ¬ (Q y)) x))
    both = every_until N (λ _. true) q (λ _. Unit {0}) Q (all_decided N) dq x w

    only : ¬ (SomeAlways N (λ y. ¬ (Q y)) x) → ¬ (SomeUntil N (λ y. ¬ (Q y)) (λ y. (¬ (Unit {0})) × (¬ (Q y))) x ⊎ SomeAlways N (λ y. ¬ (Q y)) x)
    only n (inl e) = e.1.holds.0 tt
    only n (inr e) = n e

-- AG p: no route comes to a position without p.
pub every_always : (N : Net) (p : Pos → Bool) (P : Pos → Type 0) → Decided N p P → (x : Pos) → Within N x
    → EveryAlways N P x ↔ (¬ (SomeUntil N (λ _. Unit {0}) (λ y. ¬ (P y)) x))
every_always N p P dp x w = (
  λ a e. e.1.holds (a e.0 e.1.hops e.1.reached),
  λ n r i h. firm (p (position r i)) (dp (position r i) (stays r w i h)) (λ d. n (r, record { hops = i; reached = h; holds = d; before = λ _ _. tt })),
)
