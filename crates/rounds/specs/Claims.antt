-- What holds of the rounds, whatever the network, for p and q that a test decides.
use Rattle.std.specs.Prelude.{◌≡◌, ℕ, ◌≤◌, Bool, true, ◌⊎◌, ◌↔◌}
use Rattle.routing.specs.Net.{Pos, Net, Within, places}
use Rattle.routing.specs.Routes.{SomeNext, EveryNext, SomeUntil, EveryUntil, SomeAlways, EveryAlways}
use Rattle.rounds.specs.Rounds.{Grown, Kept, Stable, LeastStable}

-- The positions that pass a test.
abbrev pub Is : (Pos → Bool) → Pos → Type 0
Is p x = p x ≡ true

-- A stable round of E[p U q] has just the positions from which some route has p until q.
abbrev pub UntilExact : Type 0
UntilExact =
    (N : Net) (p q : Pos → Bool) (k : ℕ) → Stable N (Grown N (Is p) (Is q)) k
    → (x : Pos) → Within N x → Grown N (Is p) (Is q) k x ↔ SomeUntil N (Is p) (Is q) x

-- A stable round of EG p has just the positions from which some route has p at each of its positions.
abbrev pub AlwaysExact : Type 0
AlwaysExact =
    (N : Net) (p : Pos → Bool) (k : ℕ) → Stable N (Kept N (Is p)) k → (x : Pos) → Within N x → Kept N (Is p) k x ↔ SomeAlways N (Is p) x

-- Both sequences become stable, after no more rounds than there are places.
abbrev pub UntilSettles : Type 0
UntilSettles = (N : Net) (p q : Pos → Bool) → (k : ℕ) × (k ≤ places N) × LeastStable N (Grown N (Is p) (Is q)) k

abbrev pub AlwaysSettles : Type 0
AlwaysSettles = (N : Net) (p : Pos → Bool) → (k : ℕ) × (k ≤ places N) × LeastStable N (Kept N (Is p)) k

-- What is said of every step and route, by what is said of some.
pub record Dual (N : Net) (p q : Pos → Bool) (x : Pos) : Type 0 where
  -- AX p: no step leads to a position without p.
  pub next : EveryNext N (Is p) x ↔ (¬ (SomeNext N (λ y. ¬ (Is p y)) x))
  -- A[p U q]: no route comes to neither p nor q before any q, and none lacks q for good.
  pub until : EveryUntil N (Is p) (Is q) x
      ↔ (¬ (SomeUntil N (λ y. ¬ (Is q y)) (λ y. (¬ (Is p y)) × (¬ (Is q y))) x ⊎ SomeAlways N (λ y. ¬ (Is q y)) x))
  -- AF q: no route lacks q for good.
  pub some : EveryUntil N (λ _. Unit {0}) (Is q) x ↔ (¬ (SomeAlways N (λ y. ¬ (Is q y)) x))
  -- AG p: no route comes to a position without p.
  pub always : EveryAlways N (Is p) x ↔ (¬ (SomeUntil N (λ _. Unit {0}) (λ y. ¬ (Is p y)) x))

abbrev pub Duals : Type 0
Duals = (N : Net) (p q : Pos → Bool) (x : Pos) → Within N x → Dual N p q x
