-- Rules, and what they mean at a position of a network.
use Rattle.std.specs.Prelude.{◌≡◌, ℕ, true, ◌⊎◌, slice_index}
use Rattle.conditions.specs.Sets.{bit}
use Rattle.routing.specs.Net.{Pos, Net}
use Rattle.routing.specs.Routes.{SomeNext, EveryNext, SomeUntil, EveryUntil, SomeAlways, EveryAlways}

pub data Rule : Type 0 where
  -- yes; mark k; condition k
  truth : Rule
  mark : ℕ → Rule
  condition : ℕ → Rule
  -- not p; p and q; p or q
  non : Rule → Rule
  both : Rule → Rule → Rule
  either : Rule → Rule → Rule
  -- EX p, E[p U q], EG p, EF q: of some step or some route
  ex : Rule → Rule
  eu : Rule → Rule → Rule
  eg : Rule → Rule
  ef : Rule → Rule
  -- AX p, A[p U q], AG p, AF q: of every step or every route
  ax : Rule → Rule
  au : Rule → Rule → Rule
  ag : Rule → Rule
  af : Rule → Rule

-- The rule is true at the position. F q is yes U q.
abbrev pub Means : Net → Rule → Pos → Type 0
Means N truth x = Unit {0}
Means N (mark k) x = bit (slice_index N.marks x.place) k ≡ true
Means N (condition k) x = bit x.setting k ≡ true
Means N (non p) x = ¬ (Means N p x)
Means N (both p q) x = Means N p x × Means N q x
Means N (either p q) x = Means N p x ⊎ Means N q x
Means N (ex p) x = SomeNext N (Means N p) x
Means N (eu p q) x = SomeUntil N (Means N p) (Means N q) x
Means N (eg p) x = SomeAlways N (Means N p) x
Means N (ef q) x = SomeUntil N (λ _. Unit {0}) (Means N q) x
Means N (ax p) x = EveryNext N (Means N p) x
Means N (au p q) x = EveryUntil N (Means N p) (Means N q) x
Means N (ag p) x = EveryAlways N (Means N p) x
Means N (af q) x = EveryUntil N (λ _. Unit {0}) (Means N q) x
