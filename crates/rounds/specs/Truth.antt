-- A test of every rule at every position. It decides the rule's meaning, and names the route that is shown where one is asked for.
use Rattle.std.specs.Prelude.{ℕ, zero, suc, Bool, true, false, not, ◌&&◌, ◌||◌, List, [], ◌∷◌, ◌==◌, nat_lt, slice_index}
use Rattle.conditions.specs.Sets.{bit}
use Rattle.routing.specs.Net.{Link, Net, Pos, places, settings}
use Rattle.routing.specs.Rules.{Rule, truth, mark, condition, non, both, either, ex, eu, eg, ef, ax, au, ag, af}

-- Some number below n passes.
unfoldable pub any_below : ℕ → (ℕ → Bool) → Bool
any_below zero f = false
any_below (suc n) f = f n || any_below n f

-- Some binding passes.
unfoldable pub any_of : (Link → Bool) → List Link → Bool
any_of f [] = false
any_of f (b ∷ bs) = f b || any_of f bs

-- Some setting of the place is in the set.
unfoldable pub reached : Net → (Pos → Bool) → ℕ → Bool
reached N X t = any_below (settings N) (λ a. X (record { place = t; setting = a }))

-- The binding leads from x into the set.
unfoldable pub leads : Net → (Pos → Bool) → Pos → Link → Bool
leads N X x b = b.from == x.place && (b.forwards x.setting && (nat_lt b.to (places N) && reached N X b.to))

-- Some step leads into the set.
unfoldable pub into : Net → (Pos → Bool) → Pos → Bool
into N X x = any_of (leads N X x) N.bindings

-- Some step leads on.
unfoldable pub moves : Net → Pos → Bool
moves N x = into N (λ _. true) x

-- The rounds of E[p U q] and of EG p.
unfoldable pub grown : Net → (Pos → Bool) → (Pos → Bool) → ℕ → Pos → Bool
grown N p q zero x = q x
grown N p q (suc i) x = grown N p q i x || (p x && into N (grown N p q i) x)

unfoldable pub kept : Net → (Pos → Bool) → ℕ → Pos → Bool
kept N p zero x = p x
kept N p (suc i) x = kept N p i x && (not (moves N x) || into N (kept N p i) x)

-- Whether the rule is true at the position.
unfoldable pub true_at : Net → Rule → Pos → Bool
true_at N truth x = true
true_at N (mark k) x = bit (slice_index N.marks x.place) k
true_at N (condition k) x = bit x.setting k
true_at N (non p) x = not (true_at N p x)
true_at N (both p q) x = true_at N p x && true_at N q x
true_at N (either p q) x = true_at N p x || true_at N q x
true_at N (ex p) x = into N (true_at N p) x
true_at N (eu p q) x = grown N (true_at N p) (true_at N q) (places N) x
true_at N (eg p) x = kept N (true_at N p) (places N) x
true_at N (ef q) x = grown N (λ _. true) (true_at N q) (places N) x
true_at N (ax p) x = not (into N (λ y. not (true_at N p y)) x)
true_at N (au p q) x =
    not (grown N (λ y. not (true_at N q y)) (λ y. not (true_at N p y) && not (true_at N q y)) (places N) x
    || kept N (λ y. not (true_at N q y)) (places N) x)
true_at N (ag p) x = not (grown N (λ _. true) (λ y. not (true_at N p y)) (places N) x)
true_at N (af q) x = not (kept N (λ y. not (true_at N q y)) (places N) x)
