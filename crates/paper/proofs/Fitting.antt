-- The networks of a board keep their limits, where its opening does and its changes pass their tests.
use Rattle.std.proofs.Common.{◌≡◌, ℕ, zero, suc, ◌+◌, ◌≤◌, ◌<◌, true, ◌&&◌, List, [], ◌∷◌, ◌++◌, map, take, drop, length, None, Some, slice_get, nat_lt, refl, ap, sym, subst, arith}
use Rattle.std.proofs.lemmas.List.{length-append, length-map, length-take, length-drop}
use Rattle.std.proofs.lemmas.Bool.{and_parts, ltb-true}
use Rattle.routing.specs.declared.refusal.Refusal.TheVariants.{NoPlace}
use Rattle.routing.specs.Net.{Link, places}
use Rattle.routing.specs.Bindings.{Inside, Fits}
use Rattle.paper.specs.declared.own.OwnBinding.{OwnBinding}
use Rattle.paper.specs.declared.change.Change.{Change}
use Rattle.paper.specs.declared.change.Change.TheVariants.{Bind, Unbind, Recondition}
use Rattle.paper.specs.Own.{own_link, reconditioned, changed}
use Rattle.paper.specs.Paper.{Opening, moved, standing, all_places}
use Rattle.paper.specs.Refused.{change_refusal, has_room}
use Rattle.paper.specs.Claims.{OpeningFits}
use Rattle.paper.proofs.Lines.{both_none, met}

-- Each binding has its ends among n places.
abbrev EachInside : ℕ → List Link → Type 0
EachInside n [] = Unit {0}
EachInside n (b ∷ bs) = Inside n b × EachInside n bs

inside_at : (n : ℕ) (bs : List Link) (i : ℕ) (b : Link) → EachInside n bs → slice_get bs i ≡ Some b → Inside n b
inside_at n [] i b each e = let z : ◌≡◌ {A = ℕ} 0 1 = cc in absurd (omega arith)
inside_at n (c ∷ cs) zero b each e = let same : c ≡ b = cc in subst (Inside n) same each.0
inside_at n (c ∷ cs) (suc i) b each e = inside_at n cs i b each.1 e

inside_append : (n : ℕ) (bs cs : List Link) → EachInside n bs → EachInside n cs → EachInside n (bs ++ cs)
inside_append n [] cs f g = g
inside_append n (b ∷ bs) cs f g = (f.0, inside_append n bs cs f.1 g)

inside_moved : (n k : ℕ) (bs : List Link) → ((i : ℕ) (b : Link) → slice_get bs i ≡ Some b → Inside k b) → EachInside (n + k) (map (moved n) bs)
inside_moved n k [] h = tt
inside_moved n k (b ∷ bs) h =
    let e : Inside k b = h 0 b refl in
    ((omega (arith, e.0), omega (arith, e.1)), inside_moved n k bs (λ i c g. h (suc i) c g))

-- So has each own binding.
abbrev pub EndsIn : ℕ → List OwnBinding → Type 0
EndsIn n [] = Unit {0}
EndsIn n (b ∷ bs) = (b.from < n) × (b.to < n) × EndsIn n bs

inside_own : (n K : ℕ) (own : List OwnBinding) → EndsIn n own → EachInside n (map (own_link K) own)
inside_own n K [] e = tt
inside_own n K (b ∷ bs) e = ((e.0, e.1), inside_own n K bs e.2)

ends_append : (n : ℕ) (bs cs : List OwnBinding) → EndsIn n bs → EndsIn n cs → EndsIn n (bs ++ cs)
ends_append n [] cs f g = g
ends_append n (b ∷ bs) cs f g = (f.0, f.1, ends_append n bs cs f.2 g)

ends_take : (n i : ℕ) (bs : List OwnBinding) → EndsIn n bs → EndsIn n (take i bs)
ends_take n zero bs f = tt
ends_take n (suc i) [] f = tt
ends_take n (suc i) (b ∷ bs) f = (f.0, f.1, ends_take n i bs f.2)

ends_drop : (n i : ℕ) (bs : List OwnBinding) → EndsIn n bs → EndsIn n (drop i bs)
ends_drop n zero bs f = f
ends_drop n (suc i) [] f = tt
ends_drop n (suc i) (b ∷ bs) f = ends_drop n i bs f.2

ends_reconditioned : (n i on off : ℕ) (bs : List OwnBinding) → EndsIn n bs → EndsIn n (reconditioned i on off bs)
ends_reconditioned n i on off [] f = tt
ends_reconditioned n zero on off (b ∷ bs) f = f
ends_reconditioned n (suc i) on off (b ∷ bs) f = (f.0, f.1, ends_reconditioned n i on off bs f.2)

length_reconditioned : (i on off : ℕ) (bs : List OwnBinding) → length (reconditioned i on off bs) ≡ length bs
length_reconditioned i on off [] = refl
length_reconditioned zero on off (b ∷ bs) = refl
length_reconditioned (suc i) on off (b ∷ bs) = ap suc (length_reconditioned i on off bs)

-- The own bindings keep their limits.
pub record Owned (o : Opening) (own : List OwnBinding) : Type 0 where
  pub few : length own ≤ 128
  pub ends : EndsIn (all_places o) own

-- So does the network with them in front of the far one.
pub owned_fits : (o : Opening) → OpeningFits o → (own : List OwnBinding) → Owned o own → Fits (standing o own)
owned_fits o fits own owned = record {
  few_places = let few = fits.few_places in omega (arith, all);
  few_bindings =
      let few = fits.few_bindings in
      let less = owned.few in
      omega (arith, length-append mine others, length-map own (own_link o.far.conditions), length-map o.far.bindings (moved (length o.marks)));
  ends = λ i b e. inside_at (places (standing o own)) (mine ++ others) i b inside e;
} where
  mine : List Link
  mine = map (own_link o.far.conditions) own

  others : List Link
  others = map (moved (length o.marks)) o.far.bindings

  all : all_places o ≡ places (standing o own)
  all = sym (length-append o.marks o.far.marks)

  inside : EachInside (places (standing o own)) (mine ++ others)
  inside =
      subst (λ (n : ℕ). EachInside n (mine ++ others)) all
      (inside_append (all_places o) mine others (inside_own (all_places o) o.far.conditions own owned.ends)
      (inside_moved (length o.marks) (places o.far) o.far.bindings fits.far.ends))

-- A change that passes its tests leaves them within their limits.
pub changed_owned : (o : Opening) (own : List OwnBinding) (change : Change) → change_refusal o (length own) change ≡ None
    → has_room (length own) change ≡ true → Owned o own → Owned o (changed change own)
changed_owned o own (Bind b) free room owned =
    let inside = met (nat_lt b.from (all_places o) && nat_lt b.to (all_places o)) NoPlace (both_none _ _ free).0 in
    let ends = and_parts (nat_lt b.from (all_places o)) (nat_lt b.to (all_places o)) inside in
    let less : length own < 128 = ltb-true (length own) 128 room in
    record {
      few = omega (arith, length-append own (b ∷ []));
      ends = ends_append (all_places o) own (b ∷ []) owned.ends (ltb-true b.from (all_places o) ends.0, ltb-true b.to (all_places o) ends.1, tt);
    }
changed_owned o own (Unbind i) free room owned =
    let few = owned.few in
    record {
      few = omega (arith, length-append (take i own) (drop (suc i) own), length-take i own, length-drop (suc i) own);
      ends = ends_append (all_places o) (take i own) (drop (suc i) own) (ends_take (all_places o) i own owned.ends)
          (ends_drop (all_places o) (suc i) own owned.ends);
    }
changed_owned o own (Recondition i on off) free room owned =
    let few = owned.few in
    record {
      few = omega (arith, length_reconditioned i on off own);
      ends = ends_reconditioned (all_places o) i on off own owned.ends;
    }
