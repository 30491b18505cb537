-- What a shown route shows, by the meaning of rules on routes.
use Rattle.std.specs.Prelude.{◌≡◌, ℕ, suc, ◌+◌, ◌-◌, ◌<◌, ◌≤◌, List, [], ◌∷◌, length, Some}
use Rattle.std.specs.List.{slice_get}
use Rattle.routing.specs.Net.{Net, Pos, Step, Rests as AtRest, places}
use Rattle.routing.specs.Routes.{Route, Until}
use Rattle.routing.specs.Rules.{Rule, truth, mark, condition, non, both, either, ex, eu, eg, ef, ax, au, ag, af, Means}
use Rattle.judging.specs.declared.shown.Ending.{Ending}
use Rattle.judging.specs.declared.shown.Ending.TheVariants.{Reaches, Rests, Returns}

-- Different positions, from x on, each joined to the next by a step, and not more than there are places and one.
pub record Trail (N : Net) (x : Pos) (ps : List Pos) : Type 0 where
  pub starts : slice_get ps 0 ≡ Some x
  pub joined : (i : ℕ) (a b : Pos) → slice_get ps i ≡ Some a → slice_get ps (suc i) ≡ Some b → Step N a b
  pub different : (i j : ℕ) (a : Pos) → slice_get ps i ≡ Some a → slice_get ps j ≡ Some a → i ≡ j
  pub few : length ps ≤ places N + 1

-- Each position of the list has P.
abbrev pub EachHas : List Pos → (Pos → Type 0) → Type 0
EachHas ps P = (i : ℕ) (a : Pos) → slice_get ps i ≡ Some a → P a

-- The last position of the list has P.
abbrev pub LastHas : List Pos → (Pos → Type 0) → Type 0
LastHas ps P = (a : Pos) → slice_get ps (length ps - 1) ≡ Some a → P a

-- EX p: one step on there is p; or x itself has p and steps to itself.
abbrev pub ShowsNext : Net → (Pos → Type 0) → Pos → List Pos → Ending → Type 0
ShowsNext N P x ps Reaches = (y : Pos) × (ps ≡ x ∷ y ∷ []) × P y
ShowsNext N P x ps Rests = ⊥
ShowsNext N P x ps (Returns i) = (i ≡ 0) × (ps ≡ x ∷ []) × Step N x x × P x

-- E[p U q]: the last position has q and each before it p, and no route that has p at each position before its q reaches that q in fewer hops.
pub record FewestHops (N : Net) (P Q : Pos → Type 0) (x : Pos) (ps : List Pos) : Type 0 where
  pub reached : LastHas ps Q
  pub before : (i : ℕ) (a : Pos) → suc i < length ps → slice_get ps i ≡ Some a → P a
  pub fewest : (r : Route N x) (u : Until r P Q) → length ps ≤ u.hops + 1

abbrev pub ShowsUntil : Net → (Pos → Type 0) → (Pos → Type 0) → Pos → List Pos → Ending → Type 0
ShowsUntil N P Q x ps Reaches = FewestHops N P Q x ps
ShowsUntil N P Q x ps Rests = ⊥
ShowsUntil N P Q x ps (Returns i) = ⊥

-- EG p: each position has p, and the last one rests or steps to the i-th.
abbrev pub ShowsAlways : Net → (Pos → Type 0) → List Pos → Ending → Type 0
ShowsAlways N P ps Reaches = ⊥
ShowsAlways N P ps Rests = EachHas ps P × LastHas ps (AtRest N)
ShowsAlways N P ps (Returns i) = EachHas ps P × LastHas ps (λ a. (b : Pos) × (slice_get ps i ≡ Some b) × Step N a b)

-- The list and the ending show the rule at x. Only EX, E until and EG are shown.
abbrev pub Shows : Net → Rule → Pos → List Pos → Ending → Type 0
Shows N (ex p) x ps e = ShowsNext N (Means N p) x ps e
Shows N (eu p q) x ps e = ShowsUntil N (Means N p) (Means N q) x ps e
Shows N (eg p) x ps e = ShowsAlways N (Means N p) ps e
Shows N truth x ps e = ⊥
Shows N (mark k) x ps e = ⊥
Shows N (condition k) x ps e = ⊥
Shows N (non p) x ps e = ⊥
Shows N (both p q) x ps e = ⊥
Shows N (either p q) x ps e = ⊥
Shows N (ef q) x ps e = ⊥
Shows N (ax p) x ps e = ⊥
Shows N (au p q) x ps e = ⊥
Shows N (ag p) x ps e = ⊥
Shows N (af q) x ps e = ⊥

-- The rule is one that can be shown.
abbrev pub CanShow : Rule → Type 0
CanShow (ex p) = Unit {0}
CanShow (eu p q) = Unit {0}
CanShow (eg p) = Unit {0}
CanShow truth = ⊥
CanShow (mark k) = ⊥
CanShow (condition k) = ⊥
CanShow (non p) = ⊥
CanShow (both p q) = ⊥
CanShow (either p q) = ⊥
CanShow (ef q) = ⊥
CanShow (ax p) = ⊥
CanShow (au p q) = ⊥
CanShow (ag p) = ⊥
CanShow (af q) = ⊥
