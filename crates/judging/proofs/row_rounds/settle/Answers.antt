use Rattle.std.proofs.Common.{◌≡◌, ℕ, suc, length, sym, subst, arith}
use Rattle.routing.specs.Net.{Pos, Net, places}
use Rattle.rounds.specs.Claims.{Is}
use Rattle.rounds.specs.Rounds.{Stable, Decided}
use Rattle.judging.specs.Judged.{covers}
use Rattle.judging.proofs.Turns.{turn_ends, turn_keeps, lists_same, lists_go_on, least_at, has_at}
use Rattle.judging.proofs.row_rounds.settle.Goals as goal

pub loop-round-preserved : goal.loop-round-preserved
loop-round-preserved g c = λ f t makes turns first.
    let holds = g.N.Set.ConditionSet.holds in
    let N : Net = g.N.Network.meaning c.args.net.now in
    let i = c.loop-round.round in
    let part = c.loop-round.part in
    let after = c.combine.new.sets in
    let long : length part ≡ places N = omega arith in
    let reached = c.loop-round.invariant f t makes turns first in
    let next : Decided N (covers holds after) (Is (t (suc i))) =
    turns (covers holds part) (covers holds c.steps_into.new.out) (covers holds after) i reached.has c.steps_into.ensures
    (λ x w. c.combine.ensures.after f makes x (let l = w.place_in in omega arith)) in
    lists_go_on holds g.N.Set.ConditionSet.count g.met.N.Set.ConditionSet.below N (g.met.N.Network.over c.args.net.now) (λ j. Is (t j)) part after i long reached next
    c.combine.result c.combine.ensures.same c.if-combine.false

pub returns-then-combine-clause-least : goal.returns-then-combine-clause-least
returns-then-combine-clause-least g c = λ f t makes turns first settles.
    let holds = g.N.Set.ConditionSet.holds in
    let N : Net = g.N.Network.meaning c.args.net.now in
    let T : ℕ → Pos → Type 0 = λ j. Is (t j) in
    let i = c.loop-round.round in
    let part = c.loop-round.part in
    let after = c.combine.new.sets in
    let long : length part ≡ places N = omega arith in
    let reached = c.loop-round.invariant f t makes turns first in
    let next : Decided N (covers holds after) (T (suc i)) =
    turns (covers holds part) (covers holds c.steps_into.new.out) (covers holds after) i reached.has c.steps_into.ensures
    (λ x w. c.combine.ensures.after f makes x (let l = w.place_in in omega arith)) in
    let same = lists_same holds g.N.Set.ConditionSet.count g.met.N.Set.ConditionSet.below N (g.met.N.Network.over c.args.net.now) T part after i long reached next
    c.combine.result c.combine.ensures.same c.if-combine.true in
    (turn_ends N T (covers holds part) (covers holds after) i reached next same, turn_keeps N T (covers holds part) (covers holds after) i reached next same)

pub returns-clause-least : goal.returns-clause-least
returns-clause-least g c = λ f t makes turns first settles.
    let N : Net = g.N.Network.meaning c.args.net.now in
    let T : ℕ → Pos → Type 0 = λ j. Is (t j) in
    let n = c.places-n.result in
    let i = c.loop-round.round in
    let b = covers g.N.Set.ConditionSet.holds c.loop-round.part in
    let reached = c.loop-round.invariant f t makes turns first in
    let all : n ≡ places N = c.places-n.ensures in
    let last : i ≡ n = omega arith in
    (least_at N T b i n last reached (subst (Stable N T) (sym all) settles), has_at N T b i n last reached)
