-- Routes: their positions, one step more in front, and routes by following a choice.
use Rattle.std.proofs.Common.{◌≡◌, ℕ, zero, suc, ◌<◌, ◌≤◌, ◌⊎◌, sym, refl, subst, inl, inr, arith}
use Rattle.std.proofs.lemmas.Bool.{cases_lt}
use Rattle.routing.specs.Net.{Net, Pos, Within, Step, Rests}
use Rattle.routing.specs.Routes.{Route, endless, ending, Has, position, Until, Always, SomeAlways}

-- A route has a first position ..
pub has_first : {N : Net} {x : Pos} (r : Route N x) → Has r 0
has_first (endless at start steps) = tt
has_first (ending at last start steps rests) = omega arith

-- .. and it is the one that it starts from.
pub starts : {N : Net} {x : Pos} (r : Route N x) → position r 0 ≡ x
starts (endless at start steps) = start
starts (ending at last start steps rests) = start

-- With a position it has all before it.
pub has_before : {N : Net} {x : Pos} (r : Route N x) (j m : ℕ) → j ≤ m → Has r m → Has r j
has_before (endless at start steps) j m l h = tt
has_before (ending at last start steps rests) j m l h = let k : m ≤ last = h in omega arith

-- A step leads to each position after the first.
pub hop : {N : Net} {x : Pos} (r : Route N x) (m : ℕ) → Has r (suc m) → Step N (position r m) (position r (suc m))
hop (endless at start steps) m h = steps m
hop (ending at last start steps rests) m h = steps m h

-- After each position there is another, or the route is at rest.
pub goes_on : {N : Net} {x : Pos} (r : Route N x) (m : ℕ) → Has r m → Has r (suc m) ⊎ Rests N (position r m)
goes_on (endless at start steps) m h = inl tt
goes_on {N} (ending at last start steps rests) m h = go h (cases_lt m last)
  where
    go : m ≤ last → (m < last) ⊎ (last ≤ m) → (suc m ≤ last) ⊎ Rests N (at m)
    go l (inl k) = inl k
    go l (inr k) = let e : last ≡ m = omega arith in inr (subst (λ (i : ℕ). Rests N (at i)) e rests)

-- A route from a position of the network stays within it.
pub stays : {N : Net} {x : Pos} (r : Route N x) → Within N x → (m : ℕ) → Has r m → Within N (position r m)
stays {N} r w zero h = subst (Within N) (sym (starts r)) w
stays r w (suc m) h = (hop r m h).within

-- A position in front of a sequence.
abbrev ahead : Pos → (ℕ → Pos) → ℕ → Pos
ahead x at zero = x
ahead x at (suc i) = at i

-- A step, and then a route.
abbrev pub after : {N : Net} {x y : Pos} → Step N x y → Route N y → Route N x
after {N} {x} {y} s (endless at start steps) = endless (ahead x at) refl on
  where
    on : (i : ℕ) → Step N (ahead x at i) (ahead x at (suc i))
    on zero = subst (Step N x) (sym start) s
    on (suc i) = steps i
after {N} {x} {y} s (ending at last start steps rests) = ending (ahead x at) (suc last) refl on rests
  where
    on : (i : ℕ) → i < suc last → Step N (ahead x at i) (ahead x at (suc i))
    on zero l = subst (Step N x) (sym start) s
    on (suc i) l = steps i (omega arith)

module _ {N : Net} {x y : Pos} (P : Pos → Type 0) (s : Step N x y) (p : P x) where
  ahead_before : (at : ℕ → Pos) (n : ℕ) → ((j : ℕ) → j < n → P (at j)) → (j : ℕ) → j < suc n → P (ahead x at j)
  ahead_before at n f zero l = p
  ahead_before at n f (suc j) l = f j (omega arith)

  -- The route after the step has p U q one hop later.
  pub after_until : (Q : Pos → Type 0) (r : Route N y) (u : Until r P Q) → (v : Until (after s r) P Q) × (v.hops ≡ suc u.hops)
  after_until Q (endless at start steps) u =
      (record { hops = suc u.hops; reached = tt; holds = u.holds; before = ahead_before at u.hops u.before }, refl)
  after_until Q (ending at last start steps rests) u =
      let l : u.hops ≤ last = u.reached in
      (record { hops = suc u.hops; reached = omega arith; holds = u.holds; before = ahead_before at u.hops u.before }, refl)

  -- G p lasts over the step.
  pub after_always : (r : Route N y) → Always r P → Always (after s r) P
  after_always (endless at start steps) a zero h = p
  after_always (endless at start steps) a (suc i) h = a i tt
  after_always (ending at last start steps rests) a zero h = p
  after_always (ending at last start steps rests) a (suc i) h = a i (omega arith)

module _ (N : Net) (Q : Pos → Type 0) (next : (x : Pos) → Q x → (y : Pos) × Step N x y × Q y) where
  abbrev follows : (x : Pos) → Q x → ℕ → (y : Pos) × Q y
  follows x q zero = (x, q)
  follows x q (suc i) = let v = next (follows x q i).0 (follows x q i).1 in (v.0, v.2)

  -- A choice of a next step at each position of Q, that stays in Q, gives a route that never ends.
  pub follow : (x : Pos) → Q x → SomeAlways N Q x
  follow x q = (endless (λ i. (follows x q i).0) refl (λ i. (next (follows x q i).0 (follows x q i).1).1), λ i _. (follows x q i).1)
