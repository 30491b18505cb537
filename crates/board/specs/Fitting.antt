-- Boards and views keep to the limits of a network: what they give for `fits`. Proved facts, no definitions.
use Rattle.std.specs.Prelude.{◌≡◌, ℕ, zero, suc, ◌+◌, ◌≤◌, ◌<◌, true, ◌&&◌, List, [], ◌∷◌, ◌++◌, map, length, remove, Some, refl}
use Rattle.std.specs.List.{slice_get}
use Rattle.std.proofs.Common.{ap, sym, subst, arith, ltb, length-append}
use Rattle.std.proofs.lemmas.List.{length-map}
use Rattle.std.proofs.lemmas.List.Edits.{length-remove}
use Rattle.std.proofs.lemmas.Bool.{and_parts, and_from, ltb-true}
use Rattle.conditions.specs.declared.set.ConditionSet.{Ghosts as SetGhosts}
use Rattle.routing.specs.declared.network.Network.{Ghosts}
use Rattle.routing.specs.Net.{Link, places}
use Rattle.routing.specs.Bindings.{Inside, Fits}
use Rattle.board.specs.declared.board.Board.{Board}
use Rattle.board.specs.declared.proposed.Proposed.{Proposed}
use Rattle.paper.specs.declared.own.OwnBinding.{OwnBinding}
use Rattle.paper.specs.declared.change.Change.{Change}
use Rattle.paper.specs.declared.change.Change.TheVariants.{Bind, Unbind, Recondition}
use Rattle.board.specs.declared.own.KeptBinding.{KeptBinding}
use Rattle.paper.specs.Own.{own_link, reconditioned, changed}
use Rattle.paper.specs.Paper.{Opening, moved, standing, all_places}
use Rattle.board.specs.Boards.{opening_of, board_net, view_net}
use Rattle.board.specs.Possible.{ends_inside, can_make, change_of}
use Rattle.board.specs.Entries.{bindings_of}

-- A link of a network in front of another, and where its ends are.
module _ (n : ℕ) where
  abbrev AllInside : List Link → Type 0
  AllInside ls = (i : ℕ) (l : Link) → slice_get ls i ≡ Some l → Inside n l

  -- Own bindings, with links behind them.
  own_inside : (K : ℕ) (own : List OwnBinding) (far : List Link) → ends_inside n own ≡ true → AllInside far → AllInside (map (own_link K) own ++ far)
  own_inside K [] far all h i l e = h i l e
  own_inside K (b ∷ bs) far all h zero l e =
      let here = (and_parts (ltb b.from n && ltb b.to n) (ends_inside n bs) all).0 in
      let ends = and_parts (ltb b.from n) (ltb b.to n) here in
      let same : own_link K b ≡ l = cc in
      subst (Inside n) same (ltb-true b.from n ends.0, ltb-true b.to n ends.1)
  own_inside K (b ∷ bs) far all h (suc i) l e = own_inside K bs far (and_parts (ltb b.from n && ltb b.to n) (ends_inside n bs) all).1 h i l e

  -- Far links moved past own places.
  moved_inside : (m k : ℕ) (far : List Link) → m + k ≡ n → ((i : ℕ) (l : Link) → slice_get far i ≡ Some l → Inside k l) → AllInside (map (moved m) far)
  moved_inside m k [] sum h i l e = let z : ◌≡◌ {A = ℕ} 0 1 = cc in absurd (omega arith)
  moved_inside m k (f ∷ fs) sum h zero l e =
      let ends = h 0 f refl in
      let same : moved m f ≡ l = cc in
      let from : m + f.from < n = omega (arith, ends.0) in
      let to : m + f.to < n = omega (arith, ends.1) in
      subst (Inside n) same (from, to)
  moved_inside m k (f ∷ fs) sum h (suc i) l e = moved_inside m k fs sum (λ j. h (suc j)) i l e

-- Own bindings with their ends among the places, in front of a far network that leaves them room.
pub standing_fits : (o : Opening) (own : List OwnBinding) → Fits o.far → all_places o ≤ 256 → length o.far.bindings ≤ 3968
    → ends_inside (all_places o) own ≡ true → length own ≤ 128 → Fits (standing o own)
standing_fits o own fits few small ends room =
    let all : length (o.marks ++ o.far.marks) ≡ all_places o = length-append o.marks o.far.marks in
    record {
      few_places = omega arith;
      few_bindings =
          let links = length-append (map (own_link o.far.conditions) own) (map (moved (length o.marks)) o.far.bindings) in
          let front = length-map own (own_link o.far.conditions) in
          let back = length-map o.far.bindings (moved (length o.marks)) in
          omega arith;
      ends = subst (λ n. AllInside n (standing o own).bindings) (sym all)
          (own_inside (all_places o) o.far.conditions own _ ends (moved_inside (all_places o) (length o.marks) (places o.far) o.far.bindings refl fits.ends));
    }

-- A change that can be made keeps the ends among the places, and the number of own bindings.
ends_added : (n : ℕ) (own : List OwnBinding) (b : OwnBinding) → (ltb b.from n && ltb b.to n) ≡ true → ends_inside n own ≡ true → ends_inside n (own ++ b ∷ []) ≡ true
ends_added n [] b here all = and_from _ _ here refl
ends_added n (o ∷ os) b here all =
    let parts = and_parts (ltb o.from n && ltb o.to n) (ends_inside n os) all in
    and_from (ltb o.from n && ltb o.to n) _ parts.0 (ends_added n os b here parts.1)

ends_removed : (n i : ℕ) (own : List OwnBinding) → ends_inside n own ≡ true → ends_inside n (remove own i) ≡ true
ends_removed n zero [] all = refl
ends_removed n (suc i) [] all = refl
ends_removed n zero (o ∷ os) all = (and_parts (ltb o.from n && ltb o.to n) (ends_inside n os) all).1
ends_removed n (suc i) (o ∷ os) all =
    let parts = and_parts (ltb o.from n && ltb o.to n) (ends_inside n os) all in
    and_from (ltb o.from n && ltb o.to n) _ parts.0 (ends_removed n i os parts.1)

ends_reconditioned : (n i on off : ℕ) (own : List OwnBinding) → ends_inside n own ≡ true → ends_inside n (reconditioned i on off own) ≡ true
ends_reconditioned n i on off [] all = refl
ends_reconditioned n zero on off (o ∷ os) all = all
ends_reconditioned n (suc i) on off (o ∷ os) all =
    let parts = and_parts (ltb o.from n && ltb o.to n) (ends_inside n os) all in
    and_from (ltb o.from n && ltb o.to n) _ parts.0 (ends_reconditioned n i on off os parts.1)

pub ends_changed : (n : ℕ) (change : Change) (own : List OwnBinding) → can_make n change own ≡ true → ends_inside n own ≡ true → ends_inside n (changed change own) ≡ true
ends_changed n (Bind b) own can all = ends_added n own b (and_parts (ltb b.from n && ltb b.to n) _ can).0 all
ends_changed n (Unbind i) own can all = ends_removed n i own all
ends_changed n (Recondition i on off) own can all = ends_reconditioned n i on off own all

length_again : (i on off : ℕ) (own : List OwnBinding) → length (reconditioned i on off own) ≡ length own
length_again i on off [] = refl
length_again zero on off (b ∷ bs) = refl
length_again (suc i) on off (b ∷ bs) = ap suc (length_again i on off bs)

pub few_changed : (n : ℕ) (change : Change) (own : List OwnBinding) → can_make n change own ≡ true → length own ≤ 128 → length (changed change own) ≤ 128
few_changed n (Bind b) own can few =
    let room = ltb-true (length own) 128 (and_parts (ltb b.from n && ltb b.to n) _ can).1 in omega (arith, length-append own (b ∷ []), room)
few_changed n (Unbind i) own can few = let there = ltb-true i (length own) (and_parts true _ can).1 in omega (arith, length-remove own i there, few)
few_changed n (Recondition i on off) own can few = omega (arith, length_again i on off own, few)

kept_length : {S : Type 0} {s : SetGhosts S} (es : List (KeptBinding S s)) → length (bindings_of es) ≡ length es
kept_length [] = refl
kept_length (e ∷ es) = ap suc (kept_length es)

pub board_fits : {F S : Type 0} {g : Ghosts F S} {s : SetGhosts S} → ((f : F) → Fits (g.meaning f)) → (b : Board F S g s) → Fits (board_net b)
board_fits {g = g} far b =
    let counted = b.front.counted in
    let few_places = b.front.few_places in
    let as_many = kept_length b.own.items.items in
    let few_own = b.own.few in
    standing_fits (opening_of b) (bindings_of b.own.items.items) (far b.front.far) (omega arith) b.front.few_bindings
    (subst (λ n. ends_inside n (bindings_of b.own.items.items) ≡ true) counted b.ends) (omega arith)

pub view_fits : {F S : Type 0} {g : Ghosts F S} {s : SetGhosts S} → ((f : F) → Fits (g.meaning f)) → (p : Proposed F S g s) → Fits (view_net p)
view_fits {g = g} far p =
    let b = p.board.now in
    let own : List OwnBinding = bindings_of b.own.items.items in
    let counted = b.front.counted in
    let few_places = b.front.few_places in
    let as_many = kept_length b.own.items.items in
    let few_own = b.own.few in
    standing_fits (opening_of b) (changed (change_of p.change) own) (far b.front.far) (omega arith) b.front.few_bindings
    (subst (λ n. ends_inside n (changed (change_of p.change) own) ≡ true) counted (ends_changed b.front.count (change_of p.change) own p.possible b.ends))
    (few_changed b.front.count (change_of p.change) own p.possible (omega arith))
