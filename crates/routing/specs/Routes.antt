-- Routes, and what the operators of the branching-time logic CTL say of them.
use Rattle.std.specs.Prelude.{◌≡◌, ℕ, suc, ◌<◌, ◌≤◌}
use Rattle.routing.specs.Net.{Pos, Net, Step, Rests}

-- A route from x goes on by steps, and never ends, or ends where no step exists.
pub data Route (N : Net) (x : Pos) : Type 0 where
  endless : (at : ℕ → Pos) → at 0 ≡ x → ((i : ℕ) → Step N (at i) (at (suc i))) → Route N x
  ending : (at : ℕ → Pos) (last : ℕ) → at 0 ≡ x → ((i : ℕ) → i < last → Step N (at i) (at (suc i))) → Rests N (at last) → Route N x

-- The route has a position after i hops ..
abbrev pub Has : {N : Net} {x : Pos} → Route N x → ℕ → Type 0
Has (endless at start steps) i = Unit {0}
Has (ending at last start steps rests) i = i ≤ last

-- .. and it is this one.
abbrev pub position : {N : Net} {x : Pos} → Route N x → ℕ → Pos
position (endless at start steps) i = at i
position (ending at last start steps rests) i = at i

-- p U q along a route: some position of it has q, and each position before that one has p.
pub record Until {N : Net} {x : Pos} (r : Route N x) (P Q : Pos → Type 0) : Type 0 where
  pub hops : ℕ
  pub reached : Has r hops
  pub holds : Q (position r hops)
  pub before : (j : ℕ) → j < hops → P (position r j)

-- G p along a route: each of its positions has p.
abbrev pub Always : {N : Net} {x : Pos} → Route N x → (Pos → Type 0) → Type 0
Always r P = (i : ℕ) → Has r i → P (position r i)

-- EX: some step leads to a position with p.
abbrev pub SomeNext : Net → (Pos → Type 0) → Pos → Type 0
SomeNext N P x = (y : Pos) × Step N x y × P y

-- AX: every step leads to a position with p.
abbrev pub EveryNext : Net → (Pos → Type 0) → Pos → Type 0
EveryNext N P x = (y : Pos) → Step N x y → P y

-- E[p U q]
abbrev pub SomeUntil : Net → (Pos → Type 0) → (Pos → Type 0) → Pos → Type 0
SomeUntil N P Q x = (r : Route N x) × Until r P Q

-- A[p U q]
abbrev pub EveryUntil : Net → (Pos → Type 0) → (Pos → Type 0) → Pos → Type 0
EveryUntil N P Q x = (r : Route N x) → Until r P Q

-- EG p
abbrev pub SomeAlways : Net → (Pos → Type 0) → Pos → Type 0
SomeAlways N P x = (r : Route N x) × Always r P

-- AG p
abbrev pub EveryAlways : Net → (Pos → Type 0) → Pos → Type 0
EveryAlways N P x = (r : Route N x) → Always r P
