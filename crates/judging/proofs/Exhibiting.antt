-- What a shown list and its ending speak of: there is such a route, and each does what the rule says.
use Rattle.std.proofs.Common.{◌≡◌, ℕ, zero, suc, ◌+◌, ◌-◌, ◌<◌, ◌≤◌, cond, ltb, ◌⊎◌, List, [], ◌∷◌, length, get_or, Some, sym, refl, ap, ◌∙◌, subst, inl, inr, arith}
use Rattle.std.specs.List.{slice_get}
use Rattle.std.proofs.lemmas.Option.{slice_get-get_or, slice_get_within, get_or_from_slice_get}
use Rattle.std.proofs.lemmas.Bool.{cases_lt}
use Rattle.std.proofs.lemmas.Bool.Decides.{nat_tests}
use Rattle.routing.specs.Net.{Net, Pos, Within, Step, Rests as AtRest}
use Rattle.routing.specs.Routes.{Route, endless, ending, Has, position, Until, Always}
use Rattle.routing.specs.Rules.{Rule, truth, mark, condition, non, both, either, ex, eu, eg, ef, ax, au, ag, af, Means}
use Rattle.rounds.proofs.Walks.{has_first, starts, after}
use Rattle.rounds.proofs.Exact.{some_route}
use Rattle.judging.specs.declared.shown.Ending.{Ending}
use Rattle.judging.specs.declared.shown.Ending.TheVariants.{Reaches, Rests, Returns}
use Rattle.judging.specs.Breaking.{Begins, EndsAt, GoesRound, FirstAt, Exhibits}
use Rattle.judging.specs.Shown.{Trail, EachHas, FewestHops, Shows}

-- A step in front of a route puts each position one hop later.
after_has : {N : Net} {x y : Pos} (s : Step N x y) (r : Route N y) (j : ℕ) → Has r j → Has (after s r) (suc j)
after_has s (endless at start steps) j h = tt
after_has s (ending at last start steps rests) j h = let k : j ≤ last = h in omega arith

after_at : {N : Net} {x y : Pos} (s : Step N x y) (r : Route N y) (j : ℕ) → position (after s r) (suc j) ≡ position r j
after_at s (endless at start steps) j = refl
after_at s (ending at last start steps rests) j = refl

-- The number after m in a list of n that goes on from its end at number i.
abbrev turned : ℕ → ℕ → ℕ → ℕ
turned n i m = cond (ltb (suc m) n) (suc m) i

turned_low : (n i m : ℕ) → i < n → turned n i m < n
turned_low n i m l = grind (arith, nat_tests)

turned_up : (n i m : ℕ) → suc m < n → turned n i m ≡ suc m
turned_up n i m l = grind (arith, nat_tests)

turned_back : (n i m : ℕ) → n ≤ suc m → turned n i m ≡ i
turned_back n i m l = grind (arith, nat_tests)

-- The number after k hops.
abbrev turning : ℕ → ℕ → ℕ → ℕ
turning n i zero = 0
turning n i (suc k) = turned n i (turning n i k)

turning_low : (n i k : ℕ) → i < n → turning n i k < n
turning_low n i zero l = omega arith
turning_low n i (suc k) l = turned_low n i (turning n i k) l

turning_first : (n i k : ℕ) → k < n → turning n i k ≡ k
turning_first n i zero l = refl
turning_first n i (suc k) l = ap (turned n i) (turning_first n i k (omega arith)) ∙ turned_up n i k l

turning_round : (n i k : ℕ) → i < n → turning n i (n + k) ≡ turning n i (i + k)
turning_round n i zero l =
    let m : ℕ = n - 1 in
    let e : n + 0 ≡ suc m = omega arith in
    let d : i ≡ i + 0 = omega arith in
    ap (turning n i) e ∙ (ap (turned n i) (turning_first n i m (omega arith)) ∙ (turned_back n i m (omega arith) ∙ (sym (turning_first n i i l) ∙ ap (turning n i) d)))
turning_round n i (suc k) l =
    let e : n + suc k ≡ suc (n + k) = omega arith in
    let d : suc (i + k) ≡ i + suc k = omega arith in
    ap (turning n i) e ∙ (ap (turned n i) (turning_round n i k l) ∙ ap (turning n i) d)

module _ (N : Net) (x : Pos) (ps : List Pos) (t : Trail N x ps) where
  abbrev at : ℕ → Pos
  at i = get_or ps i x

  there : (i : ℕ) → i < length ps → slice_get ps i ≡ Some (at i)
  there i l = slice_get-get_or ps i x l

  is_at : (i : ℕ) (a : Pos) → slice_get ps i ≡ Some a → (i < length ps) × (at i ≡ a)
  is_at i a e = (slice_get_within ps i a e, get_or_from_slice_get ps i a x e)

  long : 0 < length ps
  long = slice_get_within ps 0 x t.starts

  first : at 0 ≡ x
  first = get_or_from_slice_get ps 0 x x t.starts

  step : (i : ℕ) → suc i < length ps → Step N (at i) (at (suc i))
  step i l = t.joined i (at i) (at (suc i)) (there i (omega arith)) (there (suc i) l)

  stands : Within N x → (i : ℕ) → i < length ps → Within N (at i)
  stands w zero l = subst (Within N) (sym first) w
  stands w (suc i) l = (step i l).within

  -- What a route that begins with the list has.
  begun : (r : Route N x) → Begins r ps → (i : ℕ) → i < length ps → Has r i × (position r i ≡ at i)
  begun r b i l = b i (at i) (there i l)

  -- The route has the position at number m of the list, and the d positions after it.
  abbrev Along : (m d : ℕ) (y : Pos) → Route N y → Type 0
  Along m d y r = (j : ℕ) → j ≤ d → Has r j × (position r j ≡ at (m + j))

  further : (d m : ℕ) (s : Step N (at m) (at (suc m))) → (r : Route N (at (suc m))) × Along (suc m) d (at (suc m)) r
      → (r : Route N (at m)) × Along m (suc d) (at m) r
  further d m s v = (after s v.0, goes)
    where
      goes : (j : ℕ) → j ≤ suc d → Has (after s v.0) j × (position (after s v.0) j ≡ at (m + j))
      goes zero k = let z : m ≡ m + 0 = omega arith in (has_first (after s v.0), starts (after s v.0) ∙ ap at z)
      goes (suc j) k =
          let h = v.1 j (omega arith) in
          let e : suc m + j ≡ m + suc j = omega arith in
          (after_has s v.0 j h.0, after_at s v.0 j ∙ (h.1 ∙ ap at e))

  along : Within N x → (d m : ℕ) → m + d < length ps → (r : Route N (at m)) × Along m d (at m) r
  along w zero m l =
      let r = some_route N (at m) (stands w m (omega arith)) in
      let z : m ≡ m + 0 = omega arith in
      (r, λ j k. let e : 0 ≡ j = omega arith in subst (λ (i : ℕ). Has r i × (position r i ≡ at (m + i))) e (has_first r, starts r ∙ ap at z))
  along w (suc d) m l = further d m (step m (omega arith)) (along w d (suc m) (omega arith))

  -- Some route begins with the list.
  some_begins : Within N x → (r : Route N x) × Begins r ps
  some_begins w = (v.0, λ i a e. (let p = is_at i a e in let h = v.1 i (omega (arith, p.0)) in let z : 0 + i ≡ i = omega arith in (h.0, h.1 ∙ (ap at z ∙ p.1))))
    where
      v : (r : Route N x) × Along 0 (length ps - 1) x r
      v = subst (λ (y : Pos). (r : Route N y) × Along 0 (length ps - 1) y r) first (along w (length ps - 1) 0 (let l = long in omega arith))

  -- Where the last position of the list is at rest, some route ends there.
  some_ends : AtRest N (at (length ps - 1)) → (r : Route N x) × (Begins r ps × EndsAt r (length ps - 1))
  some_ends z = (
    ending at (length ps - 1) first (λ i l. step i (omega arith)) z,
    (λ i a e. (let p = is_at i a e in (omega (arith, p.0), p.1)), refl),
  )

  -- Where a step leads from there to the i-th, some route goes round for ever.
  module _ (i : ℕ) (l : i < length ps) (s : Step N (at (length ps - 1)) (at i)) where
    turn_step : (m : ℕ) → m < length ps → Step N (at m) (at (turned (length ps) i m))
    turn_step m k = go (cases_lt (suc m) (length ps))
      where
        go : (suc m < length ps) ⊎ (length ps ≤ suc m) → Step N (at m) (at (turned (length ps) i m))
        go (inl h) = subst (λ (j : ℕ). Step N (at m) (at j)) (sym (turned_up (length ps) i m h)) (step m h)
        go (inr h) =
            let e : length ps - 1 ≡ m = omega arith in
            subst (λ (j : ℕ). Step N (at m) (at j)) (sym (turned_back (length ps) i m h)) (subst (λ (j : ℕ). Step N (at j) (at i)) e s)

    round : Route N x
    round = endless (λ k. at (turning (length ps) i k)) first (λ k. turn_step (turning (length ps) i k) (turning_low (length ps) i k l))

    some_rounds : (r : Route N x) × (Begins r ps × (i < length ps) × GoesRound r (length ps) i)
    unfolding round
    some_rounds = (
      round,
      (λ k a e. (let p = is_at k a e in (tt, ap at (turning_first (length ps) i k p.0) ∙ p.1)), l, λ k. (tt, ap at (turning_round (length ps) i k l))),
    )

  -- EX p.
  module _ (P : Pos → Type 0) where
    next_each : (y : Pos) → ps ≡ x ∷ y ∷ [] → P y → (r : Route N x) → Begins r ps → Has r 1 × P (position r 1)
    next_each y e h r b =
        let v = b 1 y (subst (λ (l : List Pos). slice_get l 1 ≡ Some y) (sym e) refl) in
        (v.0, subst P (sym v.1) h)

    back_some : ps ≡ x ∷ [] → Step N x x → (r : Route N x) × (Begins r ps × Has r 1 × (position r 1 ≡ x))
    back_some e s = (endless (λ _. x) refl (λ _. s), (only, tt, refl))
      where
        only : (i : ℕ) (a : Pos) → slice_get ps i ≡ Some a → Unit {0} × (x ≡ a)
        only i a g =
            let p = is_at i a g in
            let n : length ps ≡ 1 = ap length e in
            let z : 0 ≡ i = omega (arith, p.0) in
            (tt, sym first ∙ (ap at z ∙ p.1))

  -- E[p U q].
  module _ (P Q : Pos → Type 0) (h : FewestHops N P Q x ps) where
    p_before : (r : Route N x) → Begins r ps → (j : ℕ) → j < length ps - 1 → P (position r j)
    p_before r b j l = subst P (sym (begun r b j (omega arith)).1) (h.before j (at j) (omega arith) (there j (omega arith)))

    until_each : (r : Route N x) → Begins r ps → Until r P Q
    until_each r b =
        let v = begun r b (length ps - 1) (let l = long in omega arith) in
        record {
          hops = length ps - 1;
          reached = v.0;
          holds = subst Q (sym v.1) (h.reached (at (length ps - 1)) (there (length ps - 1) (let l = long in omega arith)));
          before = p_before r b;
        }

    first_each : (r : Route N x) → Begins r ps → FirstAt r P Q (length ps - 1)
    first_each r b = record { reached = v.0; holds = v.1; before = λ j l. (p_before r b j l, none j l) }
      where
        v : Has r (length ps - 1) × Q (position r (length ps - 1))
        v =
            let k = begun r b (length ps - 1) (let l = long in omega arith) in
            (k.0, subst Q (sym k.1) (h.reached (at (length ps - 1)) (there (length ps - 1) (let l = long in omega arith))))

        none : (j : ℕ) → j < length ps - 1 → Q (position r j) → ⊥
        none j l q =
            let u : Until r P Q = record {
              hops = j;
              reached = (begun r b j (omega arith)).0;
              holds = q;
              before = λ i k. p_before r b i (omega arith);
            } in
            let f : length ps ≤ j + 1 = h.fewest r u in
            absurd (omega arith)

    fewest_each : (r : Route N x) (n : ℕ) → FirstAt r P Q n → length ps - 1 ≤ n
    fewest_each r n f =
        let u : Until r P Q = record { hops = n; reached = f.reached; holds = f.holds; before = λ j l. (f.before j l).0 } in
        let k : length ps ≤ n + 1 = h.fewest r u in
        omega arith

  -- EG p.
  module _ (P : Pos → Type 0) (each : EachHas ps P) where
    p_along : (r : Route N x) → Begins r ps → (i : ℕ) → i < length ps → P (position r i)
    p_along r b i l = subst P (sym (begun r b i l).1) (each i (at i) (there i l))

    ends_each : (r : Route N x) → Begins r ps → EndsAt r (length ps - 1) → Always r P
    ends_each (endless to start steps) b e i h = absurd e
    ends_each (ending to last start steps rests) b e i h =
        let k : i ≤ last = h in
        let l : last ≡ length ps - 1 = e in
        p_along (ending to last start steps rests) b i (let m = long in omega arith)

    rounds_each : (r : Route N x) → Begins r ps → (i : ℕ) → i < length ps → GoesRound r (length ps) i → (b m : ℕ) → m < b → P (position r m)
    rounds_each r begins i l g zero m k = absurd (omega arith)
    rounds_each r begins i l g (suc b) m k = go (cases_lt m (length ps)) (rounds_each r begins i l g b)
      where
        go : (m < length ps) ⊎ (length ps ≤ m) → ((j : ℕ) → j < b → P (position r j)) → P (position r m)
        go (inl h) f = p_along r begins m h
        go (inr h) f =
            let d : ℕ = m - length ps in
            let e : length ps + d ≡ m = omega arith in
            subst (λ (j : ℕ). P (position r j)) e (subst P (sym (g d).1) (f (i + d) (omega arith)))

-- A trail that shows a rule exhibits it.
pub exhibits : (N : Net) (f : Rule) (x : Pos) → Within N x → (ps : List Pos) (e : Ending) → Trail N x ps → Shows N f x ps e → Exhibits N f x ps e
exhibits N (ex p) x w ps Reaches t (y, is, h) =
    record { starts = t.starts; some = some_begins N x ps t w; each = next_each N x ps t (Means N p) y is h; fewest = tt }
exhibits N (ex p) x w ps Rests t s = absurd s
exhibits N (ex p) x w ps (Returns i) t (z, is, s, h) =
    record {
      starts = t.starts;
      some = (let v = back_some N x ps t (Means N p) is s in (v.0, (v.1.0, z, ap length is, v.1.1, v.1.2)));
      each = λ r b. (b.3, subst (Means N p) (sym b.4) h);
      fewest = tt;
    }
exhibits N (eu p q) x w ps Reaches t h =
    record {
      starts = t.starts;
      some = some_begins N x ps t w;
      each = until_each N x ps t (Means N p) (Means N q) h;
      fewest = (first_each N x ps t (Means N p) (Means N q) h, fewest_each N x ps t (Means N p) (Means N q) h);
    }
exhibits N (eu p q) x w ps Rests t s = absurd s
exhibits N (eu p q) x w ps (Returns i) t s = absurd s
exhibits N (eg p) x w ps Reaches t s = absurd s
exhibits N (eg p) x w ps Rests t (each, last) =
    record {
      starts = t.starts;
      some = some_ends N x ps t (last (at N x ps t (length ps - 1)) (there N x ps t (length ps - 1) (let l = long N x ps t in omega arith)));
      each = λ r b. ends_each N x ps t (Means N p) each r b.0 b.1;
      fewest = tt;
    }
exhibits N (eg p) x w ps (Returns i) t (each, last) =
    let v = last (at N x ps t (length ps - 1)) (there N x ps t (length ps - 1) (let l = long N x ps t in omega arith)) in
    let k = is_at N x ps t i v.0 v.1 in
    record {
      starts = t.starts;
      some = some_rounds N x ps t i k.0 (subst (Step N (at N x ps t (length ps - 1))) (sym k.1) v.2);
      each = λ r b j h. rounds_each N x ps t (Means N p) each r b.0 i b.1 b.2 (suc j) j (omega arith);
      fewest = tt;
    }
exhibits N truth x w ps e t s = absurd s
exhibits N (mark k) x w ps e t s = absurd s
exhibits N (condition k) x w ps e t s = absurd s
exhibits N (non p) x w ps e t s = absurd s
exhibits N (both p q) x w ps e t s = absurd s
exhibits N (either p q) x w ps e t s = absurd s
exhibits N (ef q) x w ps e t s = absurd s
exhibits N (ax p) x w ps e t s = absurd s
exhibits N (au p q) x w ps e t s = absurd s
exhibits N (ag p) x w ps e t s = absurd s
exhibits N (af q) x w ps e t s = absurd s
