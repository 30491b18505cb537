-- Tests that are the same on the network choose the same route.
use Rattle.std.proofs.Common.{◌≡◌, ℕ, zero, suc, ◌+◌, Bool, true, cond, ◌&&◌, ◌||◌, List, [], ◌∷◌, ◌++◌, Some, None, Option, sym, refl, ap, ◌∙◌}
use Rattle.std.proofs.lemmas.Bool.Decides.{same_from_decides}
use Rattle.routing.specs.Net.{Net, Pos, Within, places}
use Rattle.routing.specs.Rules.{Rule, Means, eg}
use Rattle.routing.specs.Bindings.{Fits}
use Rattle.rounds.specs.Rounds.{Decided}
use Rattle.rounds.specs.Truth.{grown, into, true_at}
use Rattle.rounds.proofs.Decide.{true_at_decides}
use Rattle.rounds.proofs.Truth.{into_decides}
use Rattle.tables.specs.declared.row.Operation.{Operation}
use Rattle.tables.specs.declared.row.Operation.TheVariants.{Yes, Mark, Condition, Not, And, Or, Next, Until, Always}
use Rattle.judging.specs.declared.shown.Ending.TheVariants.{Reaches}
use Rattle.judging.specs.Chosen.{Chosen, least_from, next_in, goes_on, counted, chosen_next, walk_until, chosen_until, index_of, returns_or, rests_or, walk_always, chosen}
use Rattle.judging.specs.Shapes.{first_is_row, second_is_row}
use Rattle.judging.specs.Steps.{chosen_by}
use Rattle.judging.proofs.Choices.{next_like}
use Rattle.judging.proofs.RuleRows.{operation_rule}

-- Two tests are the same on the network.
abbrev pub Same : Net → (Pos → Bool) → (Pos → Bool) → Type 0
Same N p q = (y : Pos) → Within N y → p y ≡ q y

-- A test of a rule is the test of the rule.
pub same_true_at : (N : Net) (b : Pos → Bool) (f : Rule) → Decided N b (Means N f) → Same N b (true_at N f)
same_true_at N b f d y w = same_from_decides (b y) (true_at N f y) (d y w) (true_at_decides N f y w)

least_same : (n a : ℕ) (f g : ℕ → Bool) → ((i : ℕ) → f i ≡ g i) → least_from n a f ≡ least_from n a g
unfolding least_from
least_same zero a f g e = refl
least_same (suc n) a f g e = ap (λ t. cond t (Some a) (least_from n (suc a) f)) (e a) ∙ ap (cond (g a) (Some a)) (least_same n (suc a) f g e)

module _ (N : Net) (fits : Fits N) where
  into_alike : (b c : Pos → Bool) → Same N b c → (x : Pos) → into N b x ≡ into N c x
  into_alike b c e x =
      same_from_decides (into N b x) (into N c x)
      (into_decides N b (λ y. c y ≡ true) (λ y w. (λ h. sym (e y w) ∙ h, λ h. e y w ∙ h)) x)
      (into_decides N c (λ y. c y ≡ true) (λ y w. (λ h. h, λ h. h)) x)

  module _ (p p' q q' : Pos → Bool) (ep : Same N p p') (eq : Same N q q') where
    grown_alike : (i : ℕ) → Same N (grown N p q i) (grown N p' q' i)
    unfolding grown
    grown_alike zero y w = eq y w
    grown_alike (suc i) y w =
        ap (λ t. t || (p y && into N (grown N p q i) y)) (grown_alike i y w)
        ∙ ap (λ t. grown N p' q' i y || (t && into N (grown N p q i) y)) (ep y w)
        ∙ ap (λ t. grown N p' q' i y || (p' y && t)) (into_alike (grown N p q i) (grown N p' q' i) (grown_alike i) y)

    walk_alike : (d : ℕ) (x : Pos) → walk_until N p q d x ≡ walk_until N p' q' d x
    unfolding walk_until
    walk_alike zero x = refl
    walk_alike (suc d) x =
        ap (λ (o : Option Pos). x ∷ goes_on o (walk_until N p q d)) (next_like N fits (grown N p q d) (grown N p' q' d) x (grown_alike d))
        ∙ go (next_in N (grown N p' q' d) x) (walk_alike d)
      where
        go : (o : Option Pos) → ((y : Pos) → walk_until N p q d y ≡ walk_until N p' q' d y) → (x ∷ goes_on o (walk_until N p q d)) ≡ (x ∷ goes_on o (walk_until N p' q' d))
        go None h = refl
        go (Some y) h = ap (λ (ps : List Pos). x ∷ ps) (h y)

    until_same : (x : Pos) → Within N x → chosen_until N p q x ≡ chosen_until N p' q' x
    unfolding chosen_until
    until_same x w =
        ap (λ (o : Option ℕ). record { positions = counted o (λ d. walk_until N p q d x); ending = Reaches })
        (least_same (suc (places N)) 0 (λ i. grown N p q i x) (λ i. grown N p' q' i x) (λ i. grown_alike i x w))
        ∙ go (least_from (suc (places N)) 0 (λ i. grown N p' q' i x))
      where
        go : (o : Option ℕ) → ◌≡◌ {A = Chosen} (record { positions = counted o (λ d. walk_until N p q d x); ending = Reaches }) (record { positions = counted o (λ d. walk_until N p' q' d x); ending = Reaches })
        go None = refl
        go (Some d) = ap (λ (ps : List Pos). record { positions = ps; ending = Reaches }) (walk_alike d x)

  always_same : (X Y : Pos → Bool) → Same N X Y → (n : ℕ) (seen : List Pos) (x : Pos) → walk_always N X n seen x ≡ walk_always N Y n seen x
  unfolding walk_always
  always_same X Y e zero seen x = refl
  always_same X Y e (suc n) seen x =
      ap (λ (o : Option Pos). returns_or seen (index_of x seen) (rests_or (seen ++ (x ∷ [])) o (walk_always N X n (seen ++ (x ∷ []))))) (next_like N fits X Y x e)
      ∙ ap (returns_or seen (index_of x seen)) (go (next_in N Y x) (always_same X Y e n (seen ++ (x ∷ []))))
    where
      go : (o : Option Pos) → ((y : Pos) → walk_always N X n (seen ++ (x ∷ [])) y ≡ walk_always N Y n (seen ++ (x ∷ [])) y)
          → rests_or (seen ++ (x ∷ [])) o (walk_always N X n (seen ++ (x ∷ []))) ≡ rests_or (seen ++ (x ∷ [])) o (walk_always N Y n (seen ++ (x ∷ [])))
      go None h = refl
      go (Some y) h = h y

  -- The route of a row by the tests of its rules.
  pub chosen_same : (op : Operation) (f h : Rule) (p q own : Pos → Bool) (x : Pos) → Within N x
      → (first_is_row op ≡ true → Same N p (true_at N f)) → (second_is_row op ≡ true → Same N q (true_at N h)) → Same N own (true_at N (operation_rule op f h))
      → chosen_by N op p q own x ≡ chosen N (operation_rule op f h) x
  unfolding chosen
  chosen_same (Next i) f h p q own x w ep eq eo = ap (chosen_next x) (next_like N fits p (true_at N f) x (ep refl))
  chosen_same (Until i j) f h p q own x w ep eq eo = until_same p (true_at N f) q (true_at N h) (ep refl) (eq refl) x w
  chosen_same (Always i) f h p q own x w ep eq eo = always_same own (true_at N (eg f)) eo (places N + 1) [] x
  chosen_same Yes f h p q own x w ep eq eo = refl
  chosen_same (Mark k) f h p q own x w ep eq eo = refl
  chosen_same (Condition k) f h p q own x w ep eq eo = refl
  chosen_same (Not i) f h p q own x w ep eq eo = refl
  chosen_same (And i j) f h p q own x w ep eq eo = refl
  chosen_same (Or i j) f h p q own x w ep eq eo = refl
