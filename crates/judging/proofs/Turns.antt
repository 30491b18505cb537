-- One round more of a sequence of sets of positions.
use Rattle.std.proofs.Common.{◌≡◌, ℕ, suc, ◌+◌, ◌^◌, ◌<◌, Bool, true, false, ◌&&◌, ◌||◌, List, length, Decides, sym, ◌∙◌, subst, ⊎_elim, add-one, arith}
use Rattle.std.proofs.lemmas.Bool.{cases_eq, cases_lt, cases_Bool}
use Rattle.std.proofs.lemmas.Bool.Decides.{same_from_decides, not_from_Decides, Decides-at, Decides-like, Decides-and, Decides-or}
use Rattle.routing.specs.Net.{Pos, Net, Within, Rests, places, settings}
use Rattle.routing.specs.Routes.{SomeNext}
use Rattle.judging.specs.Judged.{covers}
use Rattle.judging.proofs.Covers.{covers_below}
use Rattle.rounds.specs.Rounds.{Grown, Kept, Stable, LeastStable, Decided}

-- A step into the positions of a test is one into those of what it decides.
next_like : (N : Net) (b : Pos → Bool) (P : Pos → Type 0) → Decided N b P → (x : Pos) (t : Bool) → Decides t (SomeNext N (λ y. b y ≡ true) x) → Decides t (SomeNext N P x)
next_like N b P d x t h =
    Decides-like t (λ w. (w.0, w.1, (d w.0 w.1.within).0 w.2)) (λ w. (w.0, w.1, (d w.0 w.1.within).1 w.2)) h

-- A round of E[p U q].
pub grown_turn : (N : Net) (P Q : Pos → Type 0) (p b into after : Pos → Bool) (i : ℕ) → Decided N p P → Decided N b (Grown N P Q i)
    → Decided N into (SomeNext N (λ y. b y ≡ true)) → ((x : Pos) → Within N x → after x ≡ (b x || (p x && into x))) → Decided N after (Grown N P Q (suc i))
grown_turn N P Q p b into after i dp db dinto made x w =
    Decides-at (after x) (b x || (p x && into x)) (made x w)
    (Decides-or (b x) (p x && into x) (db x w)
    (Decides-and (p x) (into x) (dp x w) (next_like N b (Grown N P Q i) db x (into x) (dinto x w))))

-- A round of EG p.
pub kept_turn : (N : Net) (P : Pos → Type 0) (rests b into after : Pos → Bool) (i : ℕ) → Decided N rests (Rests N) → Decided N b (Kept N P i)
    → Decided N into (SomeNext N (λ y. b y ≡ true)) → ((x : Pos) → Within N x → after x ≡ (b x && (rests x || into x))) → Decided N after (Kept N P (suc i))
kept_turn N P rests b into after i dr db dinto made x w =
    Decides-at (after x) (b x && (rests x || into x)) (made x w)
    (Decides-and (b x) (rests x || into x) (db x w)
    (Decides-or (rests x) (into x) (dr x w) (next_like N b (Kept N P i) db x (into x) (dinto x w))))

module _ (N : Net) (T : ℕ → Pos → Type 0) where
  -- The test b has come to T(i), and nothing was stable before.
  pub record Reached (b : Pos → Bool) (i : ℕ) : Type 0 where
    pub has : Decided N b (T i)
    pub moving : (j : ℕ) → j < i → ¬ (Stable N T j)

  module _ (b after : Pos → Bool) (i : ℕ) (before : Reached b i) (next : Decided N after (T (suc i))) where
    -- A round that changes nothing ends the sequence.
    pub turn_ends : ((x : Pos) → x.place < places N → after x ≡ b x) → LeastStable N T i
    turn_ends same = record {
      stable = λ x w. (
        λ h. (before.has x w).0 (sym (same x w.place_in) ∙ (next x w).1 h),
        λ h. (next x w).0 (same x w.place_in ∙ (before.has x w).1 h),
      );
      first = before.moving;
    }

    pub turn_keeps : ((x : Pos) → x.place < places N → after x ≡ b x) → Decided N after (T i)
    turn_keeps same x w = Decides-at (after x) (b x) (same x w.place_in) (before.has x w)

    -- A round that changes something goes on.
    pub turn_goes_on : (t : Bool) → Decides t ((x : Pos) → x.place < places N → after x ≡ b x) → t ≡ false
        → ((x : Pos) → b x ≡ true → x.setting < settings N) → ((x : Pos) → after x ≡ true → x.setting < settings N) → Reached after (i + 1)
    turn_goes_on t told changed below below_after =
        subst (Reached after) (sym (add-one i)) (record { has = next; moving = moving })
      where
        no_more : (c : Bool) → (c ≡ true → ⊥) → c ≡ false
        no_more c n = ⊎_elim (λ e. absurd (n e)) (λ e. e) (cases_Bool c)

        still : Stable N T i → (x : Pos) → x.place < places N → after x ≡ b x
        still s x l = ⊎_elim
            (λ h. let w : Within N x = record { place_in = l; setting_in = h } in
            same_from_decides (after x) (b x) (Decides-like (after x) (s x w).0 (s x w).1 (next x w)) (before.has x w))
            (λ h. no_more (after x) (λ e. let k = below_after x e in omega arith) ∙ sym (no_more (b x) (λ e. let k = below x e in omega arith)))
            (cases_lt x.setting (settings N))

        moving : (j : ℕ) → j < suc i → ¬ (Stable N T j)
        moving j l = ⊎_elim
            (λ e. subst (λ (k : ℕ). ¬ (Stable N T k)) (sym e) (λ s. not_from_Decides t told changed (still s)))
            (λ ne. before.moving j (omega arith))
            (cases_eq j i)

-- The same over lists of sets, of which every member is one of K conditions.
module _ {S : Type 0} (holds : S → ℕ → Bool) (K : ℕ) (below : (s : S) (a : ℕ) → holds s a ≡ true → a < 2 ^ K)
    (N : Net) (over : N.conditions ≡ K) (T : ℕ → Pos → Type 0) where
  -- A list that has a position has one of its settings.
  pub sets_below : (sets : List S) (x : Pos) → covers holds sets x ≡ true → x.setting < settings N
  sets_below sets x h = subst (λ (k : ℕ). x.setting < 2 ^ k) (sym over) (covers_below holds K below sets x h)

  module _ (part after : List S) (i : ℕ) (long : length part ≡ places N) (before : Reached N T (covers holds part) i)
      (next : Decided N (covers holds after) (T (suc i))) (t : Bool)
      (told : Decides t ((x : Pos) → x.place < length part → covers holds after x ≡ covers holds part x)) where
    -- What the round left unchanged, if it did.
    pub lists_same : t ≡ true → (x : Pos) → x.place < places N → covers holds after x ≡ covers holds part x
    lists_same e x l = told.0 e x (omega arith)

    pub lists_go_on : t ≡ false → Reached N T (covers holds after) (i + 1)
    lists_go_on e =
        turn_goes_on N T (covers holds part) (covers holds after) i before next t
        (λ h x l. told.0 h x (omega arith), λ h. told.1 (λ x l. h x (omega arith))) e (sets_below part) (sets_below after)

-- A sequence that is stable at n, and was not before, has n for its least stable index.
pub least_at : (N : Net) (T : ℕ → Pos → Type 0) (b : Pos → Bool) (i n : ℕ) → i ≡ n → Reached N T b i → Stable N T n → LeastStable N T n
least_at N T b i n e r s = record { stable = s; first = λ j l. r.moving j (omega arith) }

pub has_at : (N : Net) (T : ℕ → Pos → Type 0) (b : Pos → Bool) (i n : ℕ) → i ≡ n → Reached N T b i → Decided N b (T n)
has_at N T b i n e r = subst (λ (k : ℕ). Decided N b (T k)) e r.has

-- A sequence, and tests that decide it.
module _ (N : Net) (t : ℕ → Pos → Bool) (T : ℕ → Pos → Type 0) (decide : (i : ℕ) → Decided N (t i) (T i)) where
  pub has_of_test : (b : Pos → Bool) (i : ℕ) → Decided N b (λ x. t i x ≡ true) → Decided N b (T i)
  has_of_test b i d x w = (λ h. (decide i x w).0 ((d x w).0 h), λ h. (d x w).1 ((decide i x w).1 h))

  pub test_of_has : (b : Pos → Bool) (i : ℕ) → Decided N b (T i) → Decided N b (λ x. t i x ≡ true)
  test_of_has b i d x w = (λ h. (decide i x w).1 ((d x w).0 h), λ h. (d x w).1 ((decide i x w).0 h))

  pub stable_of_has : (i : ℕ) → Stable N T i → Stable N (λ j x. t j x ≡ true) i
  stable_of_has i s x w = (
    λ h. (decide i x w).1 ((s x w).0 ((decide (suc i) x w).0 h)),
    λ h. (decide (suc i) x w).1 ((s x w).1 ((decide i x w).0 h)),
  )

  pub least_of_test : (i : ℕ) → LeastStable N (λ j x. t j x ≡ true) i → LeastStable N T i
  least_of_test i l = record {
    stable = λ x w. (
      λ h. (decide i x w).0 ((l.stable x w).0 ((decide (suc i) x w).1 h)),
      λ h. (decide (suc i) x w).0 ((l.stable x w).1 ((decide i x w).1 h)),
    );
    first = λ j k s. l.first j k (stable_of_has j s);
  }
