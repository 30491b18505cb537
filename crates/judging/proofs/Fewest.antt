-- The walk of E[p U q] shows it, in the fewest hops.
use Rattle.std.proofs.Common.{◌≡◌, ℕ, zero, suc, ◌+◌, ◌-◌, ◌<◌, ◌≤◌, Bool, true, ◌&&◌, ◌⊎◌, List, [], ◌∷◌, length, Some, Option, sym, refl, ap, ◌∙◌, subst, inl, inr, not-suc-le-zero, arith}
use Rattle.std.specs.List.{slice_get}
use Rattle.std.proofs.lemmas.Bool.{and_parts, and_from, or_cases, or_right, cases_order, false≢true}
use Rattle.routing.specs.Net.{Net, Pos, Within, Step, places}
use Rattle.routing.specs.Routes.{Route, Until, SomeNext, SomeUntil}
use Rattle.routing.specs.Bindings.{Fits}
use Rattle.rounds.specs.Rounds.{Decided}
use Rattle.rounds.specs.Truth.{into, grown}
use Rattle.rounds.proofs.Tests.{First}
use Rattle.rounds.proofs.Truth.{into_decides, grown_decides}
use Rattle.rounds.proofs.Settle.{until_settled}
use Rattle.rounds.proofs.Exact.{route_grown, until_exact}
use Rattle.judging.specs.Chosen.{goes_on, walk_until, counted, chosen_until}
use Rattle.judging.specs.Shown.{Trail, FewestHops, ShowsUntil}
use Rattle.judging.proofs.Choices.{least_out, least_some, next_out, next_some}
use Rattle.judging.proofs.Trails.{Joined}

abbrev Is : (Pos → Bool) → Pos → Type 0
Is p x = p x ≡ true

module _ (N : Net) (p q : Pos → Bool) where
  -- x is k hops from q, and no fewer.
  abbrev Far : ℕ → Pos → Type 0
  Far k x = First (λ i. grown N p q i x ≡ true) k

  far_same : (j k : ℕ) (x : Pos) → Far j x → Far k x → j ≡ k
  far_same j k x f g = go (cases_order j k)
    where
      go : (j ≡ k) ⊎ ((j < k) ⊎ (k < j)) → j ≡ k
      go (inl e) = e
      go (inr (inl l)) = absurd (g.none j l f.is)
      go (inr (inr l)) = absurd (f.none k l g.is)

  steps_into : (X : Pos → Bool) (x : Pos) → into N X x ≡ true → SomeNext N (Is X) x
  steps_into X x e = (into_decides N X (Is X) (λ y w. (λ t. t, λ t. t)) x).0 e

  into_steps : (X : Pos → Bool) (x : Pos) → SomeNext N (Is X) x → into N X x ≡ true
  into_steps X x e = (into_decides N X (Is X) (λ y w. (λ t. t, λ t. t)) x).1 e

  far_zero : (x : Pos) → Far 0 x → q x ≡ true
  unfolding grown
  far_zero x f = f.is

  far_more : (d : ℕ) (x : Pos) → Far (suc d) x → (p x ≡ true) × SomeNext N (Is (grown N p q d)) x
  unfolding grown
  far_more d x f = go (or_cases (grown N p q d x) (p x && into N (grown N p q d) x) f.is)
    where
      go : (grown N p q d x ≡ true) ⊎ ((p x && into N (grown N p q d) x) ≡ true) → (p x ≡ true) × SomeNext N (Is (grown N p q d)) x
      go (inl e) = absurd (f.none d (omega arith) e)
      go (inr e) = let v = and_parts (p x) (into N (grown N p q d) x) e in (v.0, steps_into (grown N p q d) x v.1)

  grown_step : (j : ℕ) (x y : Pos) → p x ≡ true → Step N x y → grown N p q j y ≡ true → grown N p q (suc j) x ≡ true
  unfolding grown
  grown_step j x y t s h = or_right (grown N p q j x) _ (and_from (p x) _ t (into_steps (grown N p q j) x (y, s, h)))

  far_next : (d : ℕ) (x y : Pos) → Far (suc d) x → Step N x y → grown N p q d y ≡ true → Far d y
  far_next d x y f s h = record { is = h; none = λ j l g. f.none (suc j) (omega arith) (grown_step j x y (far_more d x f).0 s g) }

  -- A list of positions from x on, each one hop nearer than the one before.
  record Walk (d : ℕ) (x : Pos) (ps : List Pos) : Type 0 where
    starts : slice_get ps 0 ≡ Some x
    long : length ps ≡ suc d
    joined : Joined N ps
    nearer : (i : ℕ) (a : Pos) → slice_get ps i ≡ Some a → (k : ℕ) × (i + k ≡ d) × Far k a × Within N a

  walk_end : (x : Pos) → Within N x → Far 0 x → Walk 0 x (x ∷ [])
  walk_end x w f = record {
    starts = refl;
    long = refl;
    joined = λ i a b e g. let z : ◌≡◌ {A = ℕ} 0 1 = cc in absurd (omega arith);
    nearer = here;
  }
    where
      here : (i : ℕ) (a : Pos) → slice_get (x ∷ []) i ≡ Some a → (k : ℕ) × (i + k ≡ 0) × Far k a × Within N a
      here zero a e = let s : x ≡ a = cc in (0, omega arith, subst (Far 0) s f, subst (Within N) s w)
      here (suc i) a e = let z : ◌≡◌ {A = ℕ} 0 1 = cc in absurd (omega arith)

  walk_more : (d : ℕ) (x y : Pos) (ps : List Pos) → Within N x → Far (suc d) x → Step N x y → Walk d y ps → Walk (suc d) x (x ∷ ps)
  walk_more d x y ps w f s v = record { starts = refl; long = ap suc v.long; joined = joins; nearer = here }
    where
      joins : Joined N (x ∷ ps)
      joins zero a b e g = let h = v.starts in let k : x ≡ a = cc in let l : y ≡ b = cc in subst (Step N a) l (subst (λ (c : Pos). Step N c y) k s)
      joins (suc i) a b e g = v.joined i a b e g

      here : (i : ℕ) (a : Pos) → slice_get (x ∷ ps) i ≡ Some a → (k : ℕ) × (i + k ≡ suc d) × Far k a × Within N a
      here zero a e = let s : x ≡ a = cc in (suc d, omega arith, subst (Far (suc d)) s f, subst (Within N) s w)
      here (suc i) a e = let u = v.nearer i a e in (u.0, omega (arith, u.1), u.2, u.3)

  module _ (fits : Fits N) where
    walks : (d : ℕ) (x : Pos) → Within N x → Far d x → Walk d x (walk_until N p q d x)
    unfolding walk_until
    walks zero x w f = walk_end x w f
    walks (suc d) x w f =
        let v = next_some N (grown N p q d) x (far_more d x f).1 in
        let s = next_out N (grown N p q d) x fits v.0 v.1 in
        let r = walks d v.0 s.0.within (far_next d x v.0 f s.0 s.1) in
        subst (λ (o : Option Pos). Walk (suc d) x (x ∷ goes_on o (walk_until N p q d))) (sym v.1) (walk_more d x v.0 (walk_until N p q d v.0) w f s.0 r)

  walk_trail : (d : ℕ) (x : Pos) (ps : List Pos) → d ≤ places N → Walk d x ps → Trail N x ps
  walk_trail d x ps l v = record {
    starts = v.starts;
    joined = v.joined;
    different = λ i j a e g.
        let s = v.nearer i a e in
        let t = v.nearer j a g in
        omega (arith, s.1, t.1, far_same s.0 t.0 a s.2 t.2);
    few = omega (arith, v.long);
  }

  module _ (P Q : Pos → Type 0) (dp : Decided N p P) (dq : Decided N q Q) where
    walk_shows : (d : ℕ) (x : Pos) (ps : List Pos) → Within N x → Far d x → Walk d x ps → FewestHops N P Q x ps
    walk_shows d x ps w f v = record { reached = last; before = held; fewest = least }
      where
        last : (a : Pos) → slice_get ps (length ps - 1) ≡ Some a → Q a
        last a e =
            let u = v.nearer (length ps - 1) a e in
            let k : u.0 ≡ 0 = omega (arith, u.1, v.long) in
            (dq a u.3).0 (far_zero a (subst (λ (n : ℕ). Far n a) k u.2))

        near : (k : ℕ) (a : Pos) → 0 < k → Within N a → Far k a → P a
        near zero a l z g = absurd (not-suc-le-zero l)
        near (suc k) a l z g = (dp a z).0 (far_more k a g).0

        held : (i : ℕ) (a : Pos) → suc i < length ps → slice_get ps i ≡ Some a → P a
        held i a l e = let u = v.nearer i a e in near u.0 a (omega (arith, u.1, v.long)) u.3 u.2

        least : (r : Route N x) (u : Until r P Q) → length ps ≤ u.hops + 1
        least r u =
            let h = (grown_decides N p q P Q dp dq u.hops x w).1 (route_grown N P Q x r u) in
            go (cases_order d u.hops) h
          where
            go : (d ≡ u.hops) ⊎ ((d < u.hops) ⊎ (u.hops < d)) → grown N p q u.hops x ≡ true → length ps ≤ u.hops + 1
            go (inl e) h = omega (arith, v.long)
            go (inr (inl l)) h = omega (arith, v.long)
            go (inr (inr l)) h = absurd (f.none u.hops l h)

    -- The route that is shown for E[p U q] is a trail to q in the fewest hops.
    pub until_right : Fits N → (x : Pos) → Within N x → SomeUntil N P Q x
        → Trail N x (chosen_until N p q x).positions × ShowsUntil N P Q x (chosen_until N p q x).positions (chosen_until N p q x).ending
    unfolding chosen_until
    until_right fits x w e =
        let g = (until_exact N p q P Q dp dq (places N) (until_settled N p q P Q dp dq) x w).1 e in
        let t = (grown_decides N p q P Q dp dq (places N) x w).1 g in
        let m = least_some (suc (places N)) (λ i. grown N p q i x) (places N) (omega arith) t in
        let o = least_out (suc (places N)) (λ i. grown N p q i x) m.0 m.1 in
        let f : Far m.0 x = record { is = o.1; none = λ j l h. false≢true (sym (o.2 j l) ∙ h) } in
        let v = walks fits m.0 x w f in
        let l : m.0 ≤ places N = omega (arith, o.0) in
        let goal : List Pos → Type 0 = λ ps. Trail N x ps × FewestHops N P Q x ps in
        subst (λ (k : Option ℕ). goal (counted k (λ d. walk_until N p q d x))) (sym m.1)
        (walk_trail m.0 x (walk_until N p q m.0 x) l v, walk_shows m.0 x (walk_until N p q m.0 x) w f v)
