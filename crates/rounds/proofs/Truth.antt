-- The tests for steps into a set and for the rounds decide.
use Rattle.std.proofs.Common.{◌≡◌, ℕ, zero, suc, ◌<◌, Bool, true, not, ◌||◌, ◌⊎◌, List, [], ◌∷◌, Some, Decides, sym, refl, subst, inl, inr, not-suc-le-zero, arith}
use Rattle.std.specs.List.{slice_get}
use Rattle.std.proofs.lemmas.Bool.{cases_eq, or_cases, or_left, or_right, false≢true}
use Rattle.std.proofs.lemmas.Bool.Decides.{Decides-eqb, Decides-ltb, Decides-like, Decides-not, Decides-and, Decides-or}
use Rattle.routing.specs.Net.{Link, Net, Pos, Rests, places, settings}
use Rattle.routing.specs.Routes.{SomeNext}
use Rattle.rounds.specs.Claims.{Is}
use Rattle.rounds.specs.Rounds.{Grown, Kept, Decided}
use Rattle.rounds.specs.Truth.{any_below, any_of, reached, leads, into, moves, grown, kept}
use Rattle.rounds.proofs.Tests.{told, decides_then}

-- A test decides the positions that pass it.
pub is_decides : (N : Net) (p : Pos → Bool) → Decided N p (Is p)
is_decides N p x w = (λ e. e, λ e. e)

below_decides : (n : ℕ) (f : ℕ → Bool) (P : ℕ → Type 0) → ((i : ℕ) → i < n → Decides (f i) (P i)) → Decides (any_below n f) ((i : ℕ) × (i < n) × P i)
unfolding any_below
below_decides zero f P d = (λ e. absurd (false≢true e), λ h. absurd (not-suc-le-zero h.1))
below_decides (suc n) f P d = let r = below_decides n f P (λ i l. d i (omega arith)) in
    (λ e. out (or_cases (f n) (any_below n f) e) r, λ h. back h.0 h.1 h.2 (cases_eq h.0 n) r)
  where
    out : (f n ≡ true) ⊎ (any_below n f ≡ true) → Decides (any_below n f) ((i : ℕ) × (i < n) × P i) → (i : ℕ) × (i < suc n) × P i
    out (inl e) r = (n, omega arith, (d n (omega arith)).0 e)
    out (inr e) r = let w = r.0 e in (w.0, omega (arith, w.1), w.2)

    back : (i : ℕ) → i < suc n → P i → (i ≡ n) ⊎ (i ≡ n → ⊥) → Decides (any_below n f) ((i : ℕ) × (i < n) × P i) → (f n || any_below n f) ≡ true
    back i l h (inl e) r = or_left (f n) (any_below n f) ((d n (omega arith)).1 (subst P e h))
    back i l h (inr u) r = or_right (f n) (any_below n f) (r.1 (i, omega arith, h))

-- Some listed binding has P.
abbrev Listed : List Link → (Link → Type 0) → Type 0
Listed bs P = (k : ℕ) × (b : Link) × (slice_get bs k ≡ Some b) × P b

of_decides : (f : Link → Bool) (P : Link → Type 0) → ((b : Link) → Decides (f b) (P b)) → (bs : List Link) → Decides (any_of f bs) (Listed bs P)
unfolding any_of
of_decides f P d [] = (λ e. absurd (false≢true e), λ h. none h.0 h.1 h.2)
  where
    none : (k : ℕ) (b : Link) → slice_get [] k ≡ Some b → any_of f [] ≡ true
    none k b e = let z : ◌≡◌ {A = ℕ} 0 1 = cc in absurd (omega arith)
of_decides f P d (c ∷ bs) = let r = of_decides f P d bs in
    (λ e. out (or_cases (f c) (any_of f bs) e) r, λ h. back h.0 h.1 h.2 h.3 r)
  where
    out : (f c ≡ true) ⊎ (any_of f bs ≡ true) → Decides (any_of f bs) (Listed bs P) → Listed (c ∷ bs) P
    out (inl e) r = (0, c, refl, (d c).0 e)
    out (inr e) r = let w = r.0 e in (suc w.0, w.1, w.2, w.3)

    back : (k : ℕ) (b : Link) → slice_get (c ∷ bs) k ≡ Some b → P b → Decides (any_of f bs) (Listed bs P) → (f c || any_of f bs) ≡ true
    back zero b e h r = let s : b ≡ c = cc in or_left (f c) (any_of f bs) ((d c).1 (subst P s h))
    back (suc k) b e h r = or_right (f c) (any_of f bs) (r.1 (k, b, e, h))

-- Some setting of the place t has B.
abbrev pub Hit : Net → (Pos → Type 0) → ℕ → Type 0
Hit N B t = (a : ℕ) × (a < settings N) × B (record { place = t; setting = a })

module _ (N : Net) (b : Pos → Bool) (B : Pos → Type 0) (d : Decided N b B) where
  -- `reached` decides at each place.
  pub reached_decides : (t : ℕ) → t < places N → Decides (reached N b t) (Hit N B t)
  unfolding reached
  reached_decides t l =
      below_decides (settings N) (λ a. b (record { place = t; setting = a })) (λ a. B (record { place = t; setting = a }))
      (λ a k. d (record { place = t; setting = a }) (record { place_in = l; setting_in = k }))

  -- `into` decides whether some step leads into the set.
  pub into_decides : (x : Pos) → Decides (into N b x) (SomeNext N B x)
  unfolding into leads
  into_decides x = Decides-like (any_of (leads N b x) N.bindings) to from (of_decides (leads N b x) Leads each N.bindings)
    where
      Leads : Link → Type 0
      Leads l = (l.from ≡ x.place) × ((l.forwards x.setting ≡ true) × ((l.to < places N) × Hit N B l.to))

      each : (l : Link) → Decides (leads N b x l) (Leads l)
      each l = Decides-and _ _ (Decides-eqb l.from x.place) (Decides-and _ _ (λ e. e, λ e. e)
          (decides_then _ _ (Decides-ltb l.to (places N)) (reached_decides l.to)))

      to : Listed N.bindings Leads → SomeNext N B x
      to (k, l, e, h) =
          let t = h.1.1 in (
            record { place = l.to; setting = t.1.0 },
            record {
              number = k;
              by = l;
              listed = e;
              leaves = h.0;
              enters = refl;
              forwarded = h.1.0;
              within = record { place_in = t.0; setting_in = t.1.1 };
            },
            t.1.2,
          )

      from : SomeNext N B x → Listed N.bindings Leads
      from (y, s, h) = (
        s.number,
        s.by,
        s.listed,
        (s.leaves, (s.forwarded, subst (λ (t : ℕ). (t < places N) × Hit N B t) (sym s.enters) (s.within.place_in, (y.setting, s.within.setting_in, h)))),
      )

-- The test that is always true decides what always holds.
pub all_decided : (N : Net) → Decided N (λ _. true) (λ _. Unit {0})
all_decided N x w = (λ _. tt, λ _. refl)

-- `moves` fails just where no step leads on.
pub rests_decides : (N : Net) (x : Pos) → Decides (not (moves N x)) (Rests N x)
unfolding moves
rests_decides N x =
    Decides-like _ (λ n y s. n (y, s, tt)) (λ r e. r e.0 e.1) (Decides-not _ (into_decides N (λ _. true) (λ _. Unit {0}) (all_decided N) x))

-- A position is at rest, or some step leads on.
pub onward : (N : Net) (x : Pos) → Rests N x ⊎ SomeNext N (λ _. Unit {0}) x
onward N x = go (told _ (into_decides N (λ _. true) (λ _. Unit {0}) (all_decided N) x))
  where
    go : SomeNext N (λ _. Unit {0}) x ⊎ (¬ (SomeNext N (λ _. Unit {0}) x)) → Rests N x ⊎ SomeNext N (λ _. Unit {0}) x
    go (inl e) = inr e
    go (inr n) = inl (λ y s. n (y, s, tt))

-- The test of a round of E[p U q] decides it.
pub grown_decides : (N : Net) (p q : Pos → Bool) (P Q : Pos → Type 0) → Decided N p P → Decided N q Q → (i : ℕ) → Decided N (grown N p q i) (Grown N P Q i)
unfolding grown
grown_decides N p q P Q dp dq zero x w = dq x w
grown_decides N p q P Q dp dq (suc i) x w =
    let r = grown_decides N p q P Q dp dq i in
    Decides-or _ _ (r x w) (Decides-and _ _ (dp x w) (into_decides N (grown N p q i) (Grown N P Q i) r x))

-- The test of a round of EG p decides it.
pub kept_decides : (N : Net) (p : Pos → Bool) (P : Pos → Type 0) → Decided N p P → (i : ℕ) → Decided N (kept N p i) (Kept N P i)
unfolding kept
kept_decides N p P dp zero x w = dp x w
kept_decides N p P dp (suc i) x w =
    let r = kept_decides N p P dp i in
    Decides-and _ _ (r x w) (Decides-or _ _ (rests_decides N x) (into_decides N (kept N p i) (Kept N P i) r x))
