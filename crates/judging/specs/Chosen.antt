-- Which route is shown, as a function of the network, the rule and the position. Any fitting route would do; this one is named so that like questions are answered alike.
use Rattle.std.specs.Prelude.{ℕ, zero, suc, ◌+◌, Bool, cond, ◌&&◌, List, [], ◌∷◌, ◌++◌, Some, None, Option, ◌==◌}
use Rattle.routing.specs.Net.{Link, Net, Pos, places, settings}
use Rattle.routing.specs.Rules.{Rule, truth, mark, condition, non, both, either, ex, eu, eg, ef, ax, au, ag, af}
use Rattle.rounds.specs.Truth.{grown, true_at}
use Rattle.judging.specs.declared.shown.Ending.{Ending}
use Rattle.judging.specs.declared.shown.Ending.TheVariants.{Reaches, Rests, Returns}

-- The least of the n numbers from a on that passes.
unfoldable pub least_from : ℕ → ℕ → (ℕ → Bool) → Option ℕ
least_from zero a f = None
least_from (suc n) a f = cond (f a) (Some a) (least_from n (suc a) f)

abbrev pub pos : ℕ → ℕ → Pos
pos s a = record { place = s; setting = a }

abbrev pub at_place : ℕ → Option ℕ → Option Pos
at_place t None = None
at_place t (Some a) = Some (pos t a)

-- The position of the set at place t with the least setting.
unfoldable pub entering : Net → (Pos → Bool) → ℕ → Option Pos
entering N X t = at_place t (least_from (settings N) 0 (λ a. X (pos t a)))

abbrev pub or_next : Option Pos → Option Pos → Option Pos
or_next None y = y
or_next (Some y) z = Some y

-- The first of the bindings that leads from x into the set, and the position that it leads to.
unfoldable pub next_by : Net → (Pos → Bool) → Pos → List Link → Option Pos
next_by N X x [] = None
next_by N X x (b ∷ bs) = or_next (cond (b.from == x.place && b.forwards x.setting) (entering N X b.to) None) (next_by N X x bs)

-- The next position, by the network's bindings in order.
unfoldable pub next_in : Net → (Pos → Bool) → Pos → Option Pos
next_in N X x = next_by N X x N.bindings

-- A list of positions with the ending.
pub record Chosen : Type 0 where
  pub positions : List Pos
  pub ending : Ending

abbrev pub same_pos : Pos → Pos → Bool
same_pos x y = x.place == y.place && x.setting == y.setting

-- EX p: the step, or the position alone where the step leads back to it.
unfoldable pub chosen_next : Pos → Option Pos → Chosen
chosen_next x None = record { positions = x ∷ []; ending = Rests }
chosen_next x (Some y) = cond (same_pos y x) (record { positions = x ∷ []; ending = Returns 0 }) (record { positions = x ∷ y ∷ []; ending = Reaches })

abbrev pub goes_on : Option Pos → (Pos → List Pos) → List Pos
goes_on None f = []
goes_on (Some y) f = f y

-- E[p U q] in d hops: each hop leads into the set of the positions with fewer hops.
unfoldable pub walk_until : Net → (Pos → Bool) → (Pos → Bool) → ℕ → Pos → List Pos
walk_until N p q zero x = x ∷ []
walk_until N p q (suc d) x = x ∷ goes_on (next_in N (grown N p q d) x) (walk_until N p q d)

abbrev pub counted : Option ℕ → (ℕ → List Pos) → List Pos
counted None f = []
counted (Some d) f = f d

unfoldable pub chosen_until : Net → (Pos → Bool) → (Pos → Bool) → Pos → Chosen
chosen_until N p q x =
    record { positions = counted (least_from (suc (places N)) 0 (λ i. grown N p q i x)) (λ d. walk_until N p q d x); ending = Reaches }

abbrev pub one_later : Option ℕ → Option ℕ
one_later None = None
one_later (Some i) = Some (suc i)

-- The number of the first place in the list at which the position stands.
unfoldable pub index_of : Pos → List Pos → Option ℕ
index_of x [] = None
index_of x (y ∷ ys) = cond (same_pos x y) (Some 0) (one_later (index_of x ys))

-- EG p: each hop leads into the set, until a position rests or has been seen before (at the latest when places N + 1 positions are seen).
abbrev pub returns_or : List Pos → Option ℕ → Chosen → Chosen
returns_or seen None c = c
returns_or seen (Some i) c = record { positions = seen; ending = Returns i }

abbrev pub rests_or : List Pos → Option Pos → (Pos → Chosen) → Chosen
rests_or seen None f = record { positions = seen; ending = Rests }
rests_or seen (Some y) f = f y

unfoldable pub walk_always : Net → (Pos → Bool) → ℕ → List Pos → Pos → Chosen
walk_always N X zero seen x = returns_or seen (index_of x seen) (record { positions = seen; ending = Rests })
walk_always N X (suc n) seen x =
    returns_or seen (index_of x seen) (rests_or (seen ++ (x ∷ [])) (next_in N X x) (walk_always N X n (seen ++ (x ∷ []))))

-- The route that is shown for a rule at a position where it is true.
unfoldable pub chosen : Net → Rule → Pos → Chosen
chosen N (ex p) x = chosen_next x (next_in N (true_at N p) x)
chosen N (eu p q) x = chosen_until N (true_at N p) (true_at N q) x
chosen N (eg p) x = walk_always N (true_at N (eg p)) (places N + 1) [] x
chosen N truth x = record { positions = []; ending = Rests }
chosen N (mark k) x = record { positions = []; ending = Rests }
chosen N (condition k) x = record { positions = []; ending = Rests }
chosen N (non p) x = record { positions = []; ending = Rests }
chosen N (both p q) x = record { positions = []; ending = Rests }
chosen N (either p q) x = record { positions = []; ending = Rests }
chosen N (ef q) x = record { positions = []; ending = Rests }
chosen N (ax p) x = record { positions = []; ending = Rests }
chosen N (au p q) x = record { positions = []; ending = Rests }
chosen N (ag p) x = record { positions = []; ending = Rests }
chosen N (af q) x = record { positions = []; ending = Rests }
