-- The rounds of judging: the sequences T(0), T(1), .. of sets of positions by which E[p U q] and EG p are worked out.
use Rattle.std.specs.Prelude.{ℕ, zero, suc, ◌<◌, Bool, ◌⊎◌, ◌↔◌, Decides}
use Rattle.routing.specs.Net.{Pos, Net, Within, Rests}
use Rattle.routing.specs.Routes.{SomeNext}

-- E[p U q]: T(0) is q, and T(i + 1) is T(i) with the positions of p that have a step into T(i).
abbrev pub Grown : Net → (Pos → Type 0) → (Pos → Type 0) → ℕ → Pos → Type 0
Grown N P Q zero x = Q x
Grown N P Q (suc i) x = Grown N P Q i x ⊎ (P x × SomeNext N (Grown N P Q i) x)

-- EG p: T(0) is p, and T(i + 1) is T(i) without the positions that have steps but none into T(i):
-- what stays is at rest or has a step into T(i).
abbrev pub Kept : Net → (Pos → Type 0) → ℕ → Pos → Type 0
Kept N P zero x = P x
Kept N P (suc i) x = Kept N P i x × (Rests N x ⊎ SomeNext N (Kept N P i) x)

-- T(i + 1) is T(i), on the positions of the network.
abbrev pub Stable : Net → (ℕ → Pos → Type 0) → ℕ → Type 0
Stable N T i = (x : Pos) → Within N x → T (suc i) x ↔ T i x

-- i is the least index at which the sequence is stable.
pub record LeastStable (N : Net) (T : ℕ → Pos → Type 0) (i : ℕ) : Type 0 where
  pub stable : Stable N T i
  pub first : (j : ℕ) → j < i → ¬ (Stable N T j)

-- The test p tells whether P holds, at each position of the network.
abbrev pub Decided : Net → (Pos → Bool) → (Pos → Type 0) → Type 0
Decided N p P = (x : Pos) → Within N x → Decides (p x) (P x)
