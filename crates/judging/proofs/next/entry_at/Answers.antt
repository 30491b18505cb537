use Rattle.std.proofs.Common.{◌≡◌, ℕ, ◌^◌, ◌<◌, Bool, true, false, List, length, get_or, Some, None, Option, MatchOption, sym, subst}
use Rattle.conditions.specs.Sets.{Picked}
use Rattle.routing.specs.Net.{Net, settings}
use Rattle.judging.specs.Chosen.{at_place, entering}
use Rattle.judging.specs.Judged.{covers}
use Rattle.judging.proofs.Nexts.{entering_some, entering_none}
use Rattle.judging.proofs.next.entry_at.Goals as goal

-- What is picked of the set of a place is the setting of its entry.
enters : {S : Type 0} (holds : S → ℕ → Bool) (N : Net) (sets : List S) (t : ℕ) (s : S) → t < length sets → s ≡ get_or sets t s
    → ((a : ℕ) → holds s a ≡ true → a < settings N) → (o : Option ℕ)
    → MatchOption o ((a : ℕ) → holds s a ≡ false) (Picked (λ a. holds s a ≡ true)) → at_place t o ≡ entering N (covers holds sets) t
enters holds N sets t s within is below None none = sym (entering_none holds N sets t s within is below none)
enters holds N sets t s within is below (Some m) picked = sym (entering_some holds N sets t s within is below m picked)

pub returns : goal.returns
returns g c =
    let holds = g.N.Set.ConditionSet.holds in
    let N : Net = g.N.Network.meaning c.args.net.now in
    let s = c.index-sets-place.result in
    let below : (a : ℕ) → holds s a ≡ true → a < settings N =
    λ a h. subst (λ (k : ℕ). a < 2 ^ k) (sym (g.met.N.Network.over c.args.net.now)) (g.met.N.Set.ConditionSet.below s a h) in
    enters holds N c.args.sets.now c.args.place s c.requires.inside c.index-sets-place.is below c.pick.result c.pick.ensures
