-- A walk within a set, written to a list.
use Rattle.std.proofs.Common.{◌≡◌, ℕ, zero, suc, ◌+◌, ◌<◌, ◌≤◌, Bool, List, [], ◌∷◌, ◌++◌, map, length, take, drop, set, Some, None, Option, sym, refl, ap, ◌∙◌, add-one, arith, length-set, length-take}
use Rattle.std.specs.Option.{MatchOption}
use Rattle.std.proofs.lemmas.List.{length-map, map-append, drop-drop, drop-set-lt}
use Rattle.routing.specs.Net.{Net, Pos}
use Rattle.judging.specs.declared.shown.Ending.{Ending}
use Rattle.judging.specs.declared.shown.Ending.TheVariants.{Rests, Returns}
use Rattle.judging.specs.declared.shown.RouteStep.{RouteStep}
use Rattle.judging.specs.Chosen.{Chosen, index_of, returns_or, rests_or, next_in, walk_always}
use Rattle.judging.specs.Steps.{as_pos, as_step, as_steps, as_next, Written}

-- One record more at the front.
pub take_set : {X : Type 0} (xs : List X) (k : ℕ) (v : X) → k < length xs → take (k + 1) (set xs k v) ≡ take k xs ++ (v ∷ [])
take_set xs k v l = rw add-one (go xs k l)
  where
    go : (ys : List _) (j : ℕ) → j < length ys → take (suc j) (set ys j v) ≡ take j ys ++ (v ∷ [])
    go [] j l = absurd (omega arith)
    go (y ∷ ys) zero l = refl
    go (y ∷ ys) (suc j) l = ap (λ (zs : List _). y ∷ zs) (go ys j (omega arith))

-- Lists that agree from k on agree from k + 1 on.
pub drop_more : {X : Type 0} (xs ys : List X) (k : ℕ) → drop k xs ≡ drop k ys → drop (k + 1) xs ≡ drop (k + 1) ys
drop_more xs ys k e = sym (drop-drop 1 k xs) ∙ ap (drop 1) e ∙ drop-drop 1 k ys

-- Records are their positions.
pub steps_of : (xs : List RouteStep) → as_steps (map as_pos xs) ≡ xs
steps_of [] = refl
steps_of (x ∷ xs) = ap (λ (ys : List RouteStep). x ∷ ys) (steps_of xs)

-- The route that is chosen, from a written front.
pub written_front : (c : Chosen) (before after : List RouteStep) (k : ℕ) (e : Ending) → k ≤ length after
    → c ≡ record { positions = map as_pos (take k after); ending = e } → drop k after ≡ drop k before → Written c before after (record { count = k; ending = e })
written_front c before after k e fits is rest = record {
  counted = sym (ap (λ (d : Chosen). length d.positions) is ∙ length-map (take k after) as_pos ∙ short);
  ended = sym (ap (λ (d : Chosen). d.ending) is);
  front = sym (ap (λ (d : Chosen). as_steps d.positions) is ∙ steps_of (take k after));
  rest = rest;
}
  where
    short : length (take k after) ≡ k
    short = simp length-take (omega arith)

seen_at : (seen : List Pos) (o : Option ℕ) (i : ℕ) (c : Chosen) → o ≡ Some i → returns_or seen o c ≡ record { positions = seen; ending = Returns i }
seen_at seen o i c e = ap (λ (v : Option ℕ). returns_or seen v c) e

unseen : (seen : List Pos) (o : Option ℕ) (c : Chosen) → o ≡ None → returns_or seen o c ≡ c
unseen seen o c e = ap (λ (v : Option ℕ). returns_or seen v c) e

no_next : (seen : List Pos) (o : Option Pos) (f : Pos → Chosen) → o ≡ None → rests_or seen o f ≡ record { positions = seen; ending = Rests }
no_next seen o f e = ap (λ (v : Option Pos). rests_or seen v f) e

some_next : (seen : List Pos) (o : Option Pos) (f : Pos → Chosen) (y : Pos) → o ≡ Some y → rests_or seen o f ≡ f y
some_next seen o f y e = ap (λ (v : Option Pos). rests_or seen v f) e

module _ (N : Net) (X : Pos → Bool) (seen : List Pos) (x : Pos) where
  -- The position was seen before.
  pub walk_returns : (f i : ℕ) → index_of x seen ≡ Some i → walk_always N X f seen x ≡ record { positions = seen; ending = Returns i }
  unfolding walk_always
  walk_returns zero i e = seen_at seen (index_of x seen) i _ e
  walk_returns (suc f) i e = seen_at seen (index_of x seen) i _ e

  -- No more are taken.
  pub walk_ends : (o : Option ℕ) (end : Ending) → index_of x seen ≡ o → MatchOption o (end ≡ Rests) (λ i. end ≡ Returns i)
      → walk_always N X 0 seen x ≡ record { positions = seen; ending = end }
  unfolding walk_always
  walk_ends None end e is = unseen seen (index_of x seen) _ e ∙ ap (λ (t : Ending). record { positions = seen; ending = t }) (sym is)
  walk_ends (Some i) end e is = seen_at seen (index_of x seen) i _ e ∙ ap (λ (t : Ending). record { positions = seen; ending = t }) (sym is)

  -- It rests, or goes on.
  pub walk_rests : (f : ℕ) → index_of x seen ≡ None → next_in N X x ≡ None → walk_always N X (suc f) seen x ≡ record { positions = seen ++ (x ∷ []); ending = Rests }
  unfolding walk_always
  walk_rests f e d = unseen seen (index_of x seen) (rests_or (seen ++ (x ∷ [])) (next_in N X x) (walk_always N X f (seen ++ (x ∷ [])))) e ∙ no_next (seen ++ (x ∷ [])) (next_in N X x) _ d

  pub walk_goes_on : (f : ℕ) (y : Pos) → index_of x seen ≡ None → next_in N X x ≡ Some y → walk_always N X (suc f) seen x ≡ walk_always N X f (seen ++ (x ∷ [])) y
  unfolding walk_always
  walk_goes_on f y e d = unseen seen (index_of x seen) (rests_or (seen ++ (x ∷ [])) (next_in N X x) (walk_always N X f (seen ++ (x ∷ [])))) e ∙ some_next (seen ++ (x ∷ [])) (next_in N X x) _ y d

-- The written front with one record more.
pub seen_more : (steps : List RouteStep) (k : ℕ) (s : RouteStep) → k < length steps
    → map as_pos (take (k + 1) (set steps k s)) ≡ map as_pos (take k steps) ++ (as_pos s ∷ [])
seen_more steps k s l = ap (map as_pos) (take_set steps k s l) ∙ map-append as_pos (take k steps) (s ∷ [])

-- The rest of the list, with one record more at the front.
pub rest_more : (steps start : List RouteStep) (k : ℕ) (s : RouteStep) → drop k steps ≡ drop k start → drop (k + 1) (set steps k s) ≡ drop (k + 1) start
rest_more steps start k s rest = drop-set-lt (k + 1) steps k s (omega arith) ∙ drop_more steps start k rest

-- The route that is chosen, where its last position is written behind k others.
pub written_last : (c : Chosen) (start steps : List RouteStep) (k : ℕ) (s : RouteStep) (e : Ending) → k < length steps
    → c ≡ record { positions = map as_pos (take k steps) ++ (as_pos s ∷ []); ending = e } → drop k steps ≡ drop k start
    → Written c start (set steps k s) (record { count = k + 1; ending = e })
written_last c start steps k s e inside is rest =
    written_front c start (set steps k s) (k + 1) e (simp length-set (omega arith))
    (is ∙ ap (λ (ps : List Pos). record { positions = ps; ending = e }) (sym (seen_more steps k s inside))) (rest_more steps start k s rest)

-- The next position from its record.
pub next_is : (o : Option Pos) (s : RouteStep) → Some s ≡ as_next o → o ≡ Some (as_pos s)
next_is None s e = let z : ◌≡◌ {A = ℕ} 0 1 = cc in absurd (omega arith)
next_is (Some y) s e = let same : s ≡ as_step y = cc in ap (λ (t : RouteStep). Some (as_pos t)) (sym same)

pub next_is_none : (o : Option Pos) → None ≡ as_next o → o ≡ None
next_is_none None e = refl
next_is_none (Some y) e = let z : ◌≡◌ {A = ℕ} 0 1 = cc in absurd (omega arith)
