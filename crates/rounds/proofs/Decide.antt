-- The test of every rule decides its meaning.
use Rattle.std.proofs.Common.{Bool, true, not, ◌&&◌, ◌||◌, refl}
use Rattle.std.proofs.lemmas.Bool.Decides.{Decides-like, Decides-not, Decides-and, Decides-or}
use Rattle.routing.specs.Net.{Net, Pos, places}
use Rattle.routing.specs.Routes.{EveryNext, SomeUntil, EveryUntil, SomeAlways, EveryAlways}
use Rattle.routing.specs.Rules.{Rule, truth, mark, condition, non, both, either, ex, eu, eg, ef, ax, au, ag, af, Means}
use Rattle.rounds.specs.Rounds.{Decided}
use Rattle.rounds.specs.Truth.{into, grown, kept, true_at}
use Rattle.rounds.proofs.Truth.{all_decided, into_decides, grown_decides, kept_decides}
use Rattle.rounds.proofs.Settle.{until_settled, always_settled}
use Rattle.rounds.proofs.Exact.{until_exact, always_exact}
use Rattle.rounds.proofs.Every.{not_decided, every_next, every_until, every_some, every_always}

module _ (N : Net) (p q : Pos → Bool) (P Q : Pos → Type 0) (dp : Decided N p P) (dq : Decided N q Q) where
  until_decided : Decided N (grown N p q (places N)) (SomeUntil N P Q)
  until_decided x w =
      let e = until_exact N p q P Q dp dq (places N) (until_settled N p q P Q dp dq) x w in
      Decides-like _ e.0 e.1 (grown_decides N p q P Q dp dq (places N) x w)

module _ (N : Net) (p : Pos → Bool) (P : Pos → Type 0) (dp : Decided N p P) where
  always_decided : Decided N (kept N p (places N)) (SomeAlways N P)
  always_decided x w =
      let e = always_exact N p P dp (places N) (always_settled N p P dp) x w in
      Decides-like _ e.0 e.1 (kept_decides N p P dp (places N) x w)

  every_next_decided : Decided N (λ x. not (into N (λ y. not (p y)) x)) (EveryNext N P)
  every_next_decided x w =
      let e = every_next N p P dp x w in
      Decides-like _ e.1 e.0 (Decides-not _ (into_decides N (λ y. not (p y)) (λ y. ¬ (P y)) (not_decided N p P dp) x))

  every_always_decided : Decided N (λ x. not (grown N (λ _. true) (λ y. not (p y)) (places N) x)) (EveryAlways N P)
  every_always_decided x w =
      let e = every_always N p P dp x w in
      Decides-like _ e.1 e.0
      (Decides-not _ (until_decided N (λ _. true) (λ y. not (p y)) (λ _. Unit {0}) (λ y. ¬ (P y)) (all_decided N) (not_decided N p P dp) x w))

never_decided : (N : Net) (q : Pos → Bool) (Q : Pos → Type 0) → Decided N q Q → Decided N (kept N (λ y. not (q y)) (places N)) (SomeAlways N (λ y. ¬ (Q y)))
never_decided N q Q dq = always_decided N (λ y. not (q y)) (λ y. ¬ (Q y)) (not_decided N q Q dq)

every_some_decided : (N : Net) (q : Pos → Bool) (Q : Pos → Type 0) → Decided N q Q
    → Decided N (λ x. not (kept N (λ y. not (q y)) (places N) x)) (EveryUntil N (λ _. Unit {0}) Q)
every_some_decided N q Q dq x w =
    let e = every_some N q Q dq x w in
    Decides-like _ e.1 e.0 (Decides-not _ (never_decided N q Q dq x w))

every_until_decided : (N : Net) (p q : Pos → Bool) (P Q : Pos → Type 0) → Decided N p P → Decided N q Q
    → Decided N (λ x. not (grown N (λ y. not (q y)) (λ y. not (p y) && not (q y)) (places N) x || kept N (λ y. not (q y)) (places N) x)) (EveryUntil N P Q)
every_until_decided N p q P Q dp dq x w =
    let e = every_until N p q P Q dp dq x w in
    let np = not_decided N p P dp in
    let nq = not_decided N q Q dq in
    Decides-like _ e.1 e.0 (Decides-not _ (Decides-or _ _
    (until_decided N (λ y. not (q y)) (λ y. not (p y) && not (q y)) (λ y. ¬ (Q y)) (λ y. (¬ (P y)) × (¬ (Q y))) nq
    (λ y v. Decides-and _ _ (np y v) (nq y v)) x w)
    (never_decided N q Q dq x w)))

-- The test tells at each position whether the rule is true there.
pub true_at_decides : (N : Net) (f : Rule) → Decided N (true_at N f) (Means N f)
unfolding true_at
true_at_decides N truth x w = (λ _. tt, λ _. refl)
true_at_decides N (mark k) x w = (λ e. e, λ e. e)
true_at_decides N (condition k) x w = (λ e. e, λ e. e)
true_at_decides N (non p) x w = Decides-not _ (true_at_decides N p x w)
true_at_decides N (both p q) x w = Decides-and _ _ (true_at_decides N p x w) (true_at_decides N q x w)
true_at_decides N (either p q) x w = Decides-or _ _ (true_at_decides N p x w) (true_at_decides N q x w)
true_at_decides N (ex p) x w = into_decides N (true_at N p) (Means N p) (true_at_decides N p) x
true_at_decides N (eu p q) x w = until_decided N (true_at N p) (true_at N q) (Means N p) (Means N q) (true_at_decides N p) (true_at_decides N q) x w
true_at_decides N (eg p) x w = always_decided N (true_at N p) (Means N p) (true_at_decides N p) x w
true_at_decides N (ef q) x w = until_decided N (λ _. true) (true_at N q) (λ _. Unit {0}) (Means N q) (all_decided N) (true_at_decides N q) x w
true_at_decides N (ax p) x w = every_next_decided N (true_at N p) (Means N p) (true_at_decides N p) x w
true_at_decides N (au p q) x w = every_until_decided N (true_at N p) (true_at N q) (Means N p) (Means N q) (true_at_decides N p) (true_at_decides N q) x w
true_at_decides N (ag p) x w = every_always_decided N (true_at N p) (Means N p) (true_at_decides N p) x w
true_at_decides N (af q) x w = every_some_decided N (true_at N q) (Means N q) (true_at_decides N q) x w
