-- The walk of EG p shows it.
use Rattle.std.proofs.Common.{◌≡◌, ℕ, zero, suc, ◌+◌, ◌-◌, ◌<◌, ◌≤◌, Bool, true, ◌⊎◌, List, [], ◌∷◌, ◌++◌, length, Some, None, Option, sym, refl, subst, inl, inr, arith}
use Rattle.std.specs.List.{slice_get}
use Rattle.std.proofs.lemmas.List.{length_push}
use Rattle.routing.specs.Net.{Net, Pos, Within, Step, Rests as AtRest, places}
use Rattle.routing.specs.Routes.{SomeNext}
use Rattle.routing.specs.Bindings.{Fits}
use Rattle.std.proofs.lemmas.Option.{slice_get_within}
use Rattle.judging.specs.Chosen.{Chosen, entering, next_in, index_of, returns_or, rests_or, walk_always}
use Rattle.judging.specs.declared.shown.Ending.TheVariants.{Rests, Returns}
use Rattle.judging.specs.Shown.{Trail, ShowsAlways}
use Rattle.judging.proofs.Choices.{next_out, next_told}
use Rattle.judging.proofs.Trails.{Joined, Different, nth_more, nth_end, nth_either, each_more, joined_more, different_more, index_out, index_none, few_different}

module _ (N : Net) (X : Pos → Bool) (P : Pos → Type 0) (start : Pos) where
  -- What is so of the positions seen and the one that comes next.
  record Seen (seen : List Pos) (x : Pos) : Type 0 where
    starts : slice_get (seen ++ x ∷ []) 0 ≡ Some start
    joined : Joined N (seen ++ x ∷ [])
    good : (i : ℕ) (a : Pos) → slice_get (seen ++ x ∷ []) i ≡ Some a → Within N a × (X a ≡ true)
    entered : (i : ℕ) (a : Pos) → slice_get (seen ++ x ∷ []) (suc i) ≡ Some a → entering N X a.place ≡ Some a
    different : Different seen

  -- The chosen list and ending are right.
  abbrev pub Lasts : Chosen → Type 0
  Lasts c = Trail N start c.positions × ShowsAlways N P c.positions c.ending

  module _ (fits : Fits N) (holds : (x : Pos) → Within N x → X x ≡ true → P x)
      (onward : (x : Pos) → Within N x → X x ≡ true → AtRest N x ⊎ SomeNext N (λ y. X y ≡ true) x) where
    seen_few : (seen : List Pos) (x : Pos) → Seen seen x → length seen ≤ places N + 1
    seen_few seen x v = few_different N x seen (entering N X) v.different
        (λ i a e. (v.good i a (nth_more seen x i a e)).0)
        (λ i a e. v.entered i a (nth_more seen x (suc i) a e))

    full_few : (seen : List Pos) (x : Pos) → Seen seen x → Different (seen ++ x ∷ []) → length (seen ++ x ∷ []) ≤ places N + 1
    full_few seen x v d = few_different N x (seen ++ x ∷ []) (entering N X) d (λ i a e. (v.good i a e).0) v.entered

    -- The next position was seen.
    returning : (seen : List Pos) (x : Pos) (i : ℕ) → Seen seen x → slice_get seen i ≡ Some x → Lasts (record { positions = seen; ending = Returns i })
    returning seen x i v e = (
      record {
        starts = first;
        joined = λ j a b g h. v.joined j a b (nth_more seen x j a g) (nth_more seen x (suc j) b h);
        different = v.different;
        few = seen_few seen x v;
      },
      (λ j a g. let u = v.good j a (nth_more seen x j a g) in holds a u.0 u.1, λ a g. (x, e, back a g)),
    )
      where
        some : i < length seen
        some = slice_get_within seen i x e

        first : slice_get seen 0 ≡ Some start
        first = go (nth_either seen x 0 start v.starts)
          where
            go : (slice_get seen 0 ≡ Some start) ⊎ ((0 ≡ length seen) × (start ≡ x)) → slice_get seen 0 ≡ Some start
            go (inl h) = h
            go (inr h) = absurd (omega (arith, h.0, some))

        back : (a : Pos) → slice_get seen (length seen - 1) ≡ Some a → Step N a x
        back a g =
            let l : length seen ≡ suc (length seen - 1) = omega (arith, some) in
            v.joined (length seen - 1) a x (nth_more seen x (length seen - 1) a g) (subst (λ (j : ℕ). slice_get (seen ++ x ∷ []) j ≡ Some x) l (nth_end seen x))

    last_is : (seen : List Pos) (x a : Pos) → slice_get (seen ++ x ∷ []) (length (seen ++ x ∷ []) - 1) ≡ Some a → x ≡ a
    last_is seen x a g =
        let l : length (seen ++ x ∷ []) - 1 ≡ length seen = omega (arith, length_push seen x) in
        let h = subst (λ (j : ℕ). slice_get (seen ++ x ∷ []) j ≡ Some a) l g in
        let k = nth_end seen x in
        cc

    -- The next position is the last.
    resting : (seen : List Pos) (x : Pos) → Seen seen x → Different (seen ++ x ∷ []) → AtRest N x
        → Lasts (record { positions = seen ++ x ∷ []; ending = Rests })
    resting seen x v d z = (
      record { starts = v.starts; joined = v.joined; different = d; few = full_few seen x v d },
      (λ j a g. let u = v.good j a g in holds a u.0 u.1, λ a g. subst (AtRest N) (last_is seen x a g) z),
    )

    -- One position more is seen.
    seen_more : (seen : List Pos) (x y : Pos) → Seen seen x → Different (seen ++ x ∷ []) → next_in N X x ≡ Some y → Seen (seen ++ x ∷ []) y
    seen_more seen x y v d e =
        let s = next_out N X x fits y e in record {
          starts = nth_more (seen ++ x ∷ []) y 0 start v.starts;
          joined = joined_more N (seen ++ x ∷ []) y v.joined (λ a g. subst (λ (c : Pos). Step N c y) (last_is seen x a g) s.0);
          good = each_more (λ _ a. Within N a × (X a ≡ true)) (seen ++ x ∷ []) y v.good (s.0.within, s.1);
          entered = λ i a g. more i a s.2 (nth_either (seen ++ x ∷ []) y (suc i) a g);
          different = d;
        }
      where
        more : (i : ℕ) (a : Pos) → entering N X y.place ≡ Some y
            → (slice_get (seen ++ x ∷ []) (suc i) ≡ Some a) ⊎ ((suc i ≡ length (seen ++ x ∷ [])) × (a ≡ y)) → entering N X a.place ≡ Some a
        more i a h (inl g) = v.entered i a g
        more i a h (inr g) = subst (λ (c : Pos). entering N X c.place ≡ Some c) (sym g.1) h

    -- The next position was seen, or is put after those seen.
    seen_or : (seen : List Pos) (x : Pos) → Seen seen x → (c : Chosen) → (Different (seen ++ x ∷ []) → Lasts c) → Lasts (returns_or seen (index_of x seen) c)
    seen_or seen x v c new = go (index_of x seen) refl
      where
        go : (o : Option ℕ) → index_of x seen ≡ o → Lasts (returns_or seen (index_of x seen) c)
        go (Some i) e = subst (λ (o : Option ℕ). Lasts (returns_or seen o c)) (sym e) (returning seen x i v (index_out x seen i e))
        go None e = subst (λ (o : Option ℕ). Lasts (returns_or seen o c)) (sym e) (new (different_more seen x v.different (index_none x seen e)))

    -- With enough turns left the walk is right.
    walk_right : (n : ℕ) (seen : List Pos) (x : Pos) → places N + 1 ≤ n + length seen → Seen seen x → Lasts (walk_always N X n seen x)
    unfolding walk_always
    walk_right zero seen x l v = seen_or seen x v (record { positions = seen; ending = Rests })
        (λ d. absurd (omega (arith, full_few seen x v d, length_push seen x)))
    walk_right (suc n) seen x l v =
        seen_or seen x v (rests_or (seen ++ x ∷ []) (next_in N X x) (walk_always N X n (seen ++ x ∷ [])))
        (λ d. goes (next_told N X x) d (λ y. walk_right n (seen ++ x ∷ []) y (omega (arith, length_push seen x))))
      where
        After : Option Pos → Type 0
        After o = Lasts (rests_or (seen ++ x ∷ []) o (walk_always N X n (seen ++ x ∷ [])))

        still : ¬ (SomeNext N (λ y. X y ≡ true) x) → AtRest N x ⊎ SomeNext N (λ y. X y ≡ true) x → AtRest N x
        still none (inl z) = z
        still none (inr s) = absurd (none s)

        goes : ((y : Pos) × (next_in N X x ≡ Some y)) ⊎ ((next_in N X x ≡ None) × (¬ (SomeNext N (λ y. X y ≡ true) x))) → Different (seen ++ x ∷ [])
            → ((y : Pos) → Seen (seen ++ x ∷ []) y → Lasts (walk_always N X n (seen ++ x ∷ []) y)) → After (next_in N X x)
        goes (inl (y, e)) d r = subst After (sym e) (r y (seen_more seen x y v d e))
        goes (inr (e, none)) d r =
            let h = v.good (length seen) x (nth_end seen x) in
            subst After (sym e) (resting seen x v d (still none (onward x h.0 h.1)))

    -- The walk from the start is right.
    pub always_right : Within N start → X start ≡ true → Lasts (walk_always N X (places N + 1) [] start)
    always_right w h = walk_right (places N + 1) [] start (omega arith) (record {
      starts = refl;
      joined = λ i a b e g. let z : ◌≡◌ {A = ℕ} 0 1 = cc in absurd (omega arith);
      good = first;
      entered = λ i a e. let z : ◌≡◌ {A = ℕ} 0 1 = cc in absurd (omega arith);
      different = λ i j a e g. let z : ◌≡◌ {A = ℕ} 0 1 = cc in absurd (omega arith);
    })
      where
        first : (i : ℕ) (a : Pos) → slice_get (start ∷ []) i ≡ Some a → Within N a × (X a ≡ true)
        first zero a e = let s : start ≡ a = cc in (subst (Within N) s w, subst (λ (c : Pos). X c ≡ true) s h)
        first (suc i) a e = let z : ◌≡◌ {A = ℕ} 0 1 = cc in absurd (omega arith)
