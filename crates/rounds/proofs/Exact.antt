-- What the rounds mean on routes.
use Rattle.std.proofs.Common.{◌≡◌, ℕ, zero, suc, ◌+◌, ◌≤◌, Bool, true, not, ◌&&◌, ◌⊎◌, ◌↔◌, sym, refl, subst, inl, inr, not-suc-le-zero, arith}
use native.Mathlib.Decide.{le_ind}
use Rattle.std.proofs.lemmas.Bool.Decides.{Decides-and}
use Rattle.routing.specs.Net.{Net, Pos, Within, Step, Rests, places}
use Rattle.routing.specs.Routes.{Route, ending, Has, position, Until, Always, SomeNext, SomeUntil, SomeAlways}
use Rattle.rounds.specs.Rounds.{Grown, Kept, Stable, Decided}
use Rattle.rounds.proofs.Tests.{told}
use Rattle.rounds.specs.Truth.{moves, kept}
use Rattle.rounds.proofs.Truth.{all_decided, rests_decides, onward, kept_decides, grown_decides}
use Rattle.rounds.proofs.Settle.{until_settled}
use Rattle.rounds.proofs.Walks.{has_first, starts, has_before, hop, goes_on, after, after_until, after_always, follow}

module _ (N : Net) (P Q : Pos → Type 0) where
  -- No round of E[p U q] loses a position.
  pub grown_up : (i k : ℕ) (x : Pos) → i ≤ k → Grown N P Q i x → Grown N P Q k x
  grown_up i k x l h = le_ind (λ (m : ℕ). Grown N P Q m x) h (λ m _ g. inl g) k l

  -- A stable round of E[p U q] has what any round has.
  absorbs : (k : ℕ) → Stable N (Grown N P Q) k → (i : ℕ) (x : Pos) → Within N x → Grown N P Q i x → Grown N P Q k x
  absorbs k s zero x w h = grown_up 0 k x (omega arith) h
  absorbs k s (suc i) x w (inl h) = absorbs k s i x w h
  absorbs k s (suc i) x w (inr (p, e)) = (s x w).0 (inr (p, (e.0, e.1, absorbs k s i e.0 e.1.within e.2)))

  route_from : (x : Pos) (r : Route N x) (u : Until r P Q) (d m : ℕ) → m + d ≡ u.hops → Grown N P Q d (position r m)
  route_from x r u zero m e = let f : u.hops ≡ m = omega arith in subst (λ (k : ℕ). Q (position r k)) f u.holds
  route_from x r u (suc d) m e =
      inr (
        u.before m (omega arith),
        (position r (suc m), hop r m (has_before r (suc m) u.hops (omega arith) u.reached), route_from x r u d (suc m) (omega arith)),
      )

  -- A route with p U q after some hops starts in that round.
  pub route_grown : (x : Pos) (r : Route N x) (u : Until r P Q) → Grown N P Q u.hops x
  route_grown x r u = subst (Grown N P Q u.hops) (starts r) (route_from x r u u.hops 0 (omega arith))

module _ (N : Net) (P : Pos → Type 0) where
  kept_first : (i : ℕ) (x : Pos) → Kept N P i x → P x
  kept_first zero x h = h
  kept_first (suc i) x h = kept_first i x h.0

  route_at : (x : Pos) (r : Route N x) → Always r P → (i m : ℕ) → Has r m → Kept N P i (position r m)
  route_at x r a zero m h = a m h
  route_at x r a (suc i) m h = (route_at x r a i m h, go (goes_on r m h) (route_at x r a i (suc m)))
    where
      go : Has r (suc m) ⊎ Rests N (position r m) → (Has r (suc m) → Kept N P i (position r (suc m)))
          → Rests N (position r m) ⊎ SomeNext N (Kept N P i) (position r m)
      go (inl k) f = inr (position r (suc m), hop r m k, f k)
      go (inr z) f = inl z

  -- A route with G p starts in every round of EG p.
  pub route_kept : (x : Pos) (r : Route N x) → Always r P → (i : ℕ) → Kept N P i x
  route_kept x r a i = subst (Kept N P i) (starts r) (route_at x r a i 0 (has_first r))

-- From a stable round of EG p: either a rest can be reached inside it, or each position of it has a step that leads to no such one.
module _ (N : Net) (p : Pos → Bool) (P : Pos → Type 0) (dp : Decided N p P) (k : ℕ) (stable : Stable N (Kept N P) k) where
  abbrev S : Pos → Type 0
  S = Kept N P k

  abbrev Stop : Pos → Type 0
  Stop x = S x × Rests N x

  s_decided : Decided N (kept N p k) S
  s_decided = kept_decides N p P dp k

  abbrev stop : Pos → Bool
  stop x = kept N p k x && not (moves N x)

  stop_decided : Decided N stop Stop
  stop_decided x w = Decides-and _ _ (s_decided x w) (rests_decides N x)

  abbrev Near : Pos → Type 0
  Near = Grown N S Stop (places N)

  ends : (i : ℕ) (x : Pos) → Grown N S Stop i x → SomeAlways N P x
  ends zero x (h, z) = (ending (λ _. x) 0 refl (λ i l. absurd (not-suc-le-zero l)) z, λ i _. kept_first N P k x h)
  ends (suc i) x (inl h) = ends i x h
  ends (suc i) x (inr (h, e)) =
      let v = ends i e.0 e.2 in
      (after e.1 v.0, after_always P e.1 (kept_first N P k x h) v.0 v.1)

  abbrev Far : Pos → Type 0
  Far x = Within N x × S x × (¬ (Near x))

  far_on : (x : Pos) → Far x → (y : Pos) × Step N x y × Far y
  far_on x (w, h, n) = go ((stable x w).1 h).1
    where
      go : Rests N x ⊎ SomeNext N S x → (y : Pos) × Step N x y × Far y
      go (inl z) = absurd (n (grown_up N S Stop 0 (places N) x (omega arith) (h, z)))
      go (inr (y, s, g)) = (
        y,
        s,
        (s.within, g, λ t. n ((until_settled N (kept N p k) stop S Stop s_decided stop_decided x w).0 (inr (h, (y, s, t))))),
      )

  kept_route : (x : Pos) → Within N x → Kept N P k x → SomeAlways N P x
  kept_route x w h = go (told _ (grown_decides N (kept N p k) stop S Stop s_decided stop_decided (places N) x w))
    where
      go : Near x ⊎ (¬ (Near x)) → SomeAlways N P x
      go (inl g) = ends (places N) x g
      go (inr n) = let v = follow N Far far_on x (w, h, n) in (v.0, λ i l. kept_first N P k (position v.0 i) (v.1 i l).1)

  -- A stable round of EG p has just the positions from which some route has G p.
  pub always_exact : (x : Pos) → Within N x → Kept N P k x ↔ SomeAlways N P x
  always_exact x w = (kept_route x w, λ e. route_kept N P x e.0 e.1 k)

-- Some route leaves from each position of the network.
pub some_route : (N : Net) (x : Pos) → Within N x → Route N x
some_route N x w =
    ((always_exact N (λ _. true) (λ _. Unit {0}) (all_decided N) 0 (λ y _. (λ _. tt, λ _. (tt, onward N y))) x w).0 tt).0

module _ (N : Net) (p q : Pos → Bool) (P Q : Pos → Type 0) (dp : Decided N p P) (dq : Decided N q Q) where
  -- From a position of a round of E[p U q] some route has p U q after no more hops.
  pub grown_route : (i : ℕ) (x : Pos) → Within N x → Grown N P Q i x → (r : Route N x) × (u : Until r P Q) × (u.hops ≤ i)
  grown_route zero x w h =
      let r = some_route N x w in
      (r, record { hops = 0; reached = has_first r; holds = subst Q (sym (starts r)) h; before = λ j l. absurd (not-suc-le-zero l) }, omega arith)
  grown_route (suc i) x w (inl h) = let v = grown_route i x w h in (v.0, v.1, omega (arith, v.2))
  grown_route (suc i) x w (inr (h, (y, s, g))) =
      let v = grown_route i y s.within g in
      let a = after_until P s h Q v.0 v.1 in
      (after s v.0, a.0, omega (arith, v.2, a.1))

  -- A stable round of E[p U q] has just the positions from which some route has p U q.
  pub until_exact : (k : ℕ) → Stable N (Grown N P Q) k → (x : Pos) → Within N x → Grown N P Q k x ↔ SomeUntil N P Q x
  until_exact k s x w = (
    λ h. let v = grown_route k x w h in (v.0, v.1),
    λ e. absorbs N P Q k s e.1.hops x w (route_grown N P Q x e.0 e.1),
  )
