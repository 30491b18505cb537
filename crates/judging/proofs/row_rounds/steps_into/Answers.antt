use Rattle.std.proofs.Common.{ℕ, ◌+◌, ◌^◌, ◌<◌, List, length, Decides, sym, subst, arith}
use Rattle.routing.specs.Net.{Pos, Net, settings}
use Rattle.routing.specs.Bindings.{linked}
use Rattle.rounds.specs.Claims.{Is}
use Rattle.judging.specs.Judged.{covers}
use Rattle.judging.proofs.Covers.{covers_below}
use Rattle.judging.proofs.Into.{Into, into_more, into_all}
use Rattle.judging.proofs.row_rounds.steps_into.Goals as goal
use Rattle.judging.proofs.row_rounds.steps_into.Goals.{in-Some, in_default}

pub loop-i-preserved : goal.loop-i-preserved
loop-i-preserved g c = λ x within.
    let holds = g.N.Set.ConditionSet.holds in
    let N : Net = g.N.Network.meaning c.args.net.now in
    let sets = c.args.sets.now in
    let X : Pos → Type 0 = Is (covers holds sets) in
    let out = c.loop-i.out in
    let i = c.loop-i.i in
    let goal : List g.row.N-Set.Denot → Type 0 = λ o. Decides (covers holds o x) (Into N X (i + 1) x) in
    let below : (y : Pos) → X y → y.setting < settings N =
    λ y h. subst (λ (k : ℕ). y.setting < 2 ^ k) (sym (g.met.N.Network.over c.args.net.now)) (covers_below holds g.N.Set.ConditionSet.count g.met.N.Set.ConditionSet.below sets y h) in
    elim c.match-binding.branch [
      | in-Some w ↦
          let in_out : x.place < length out = omega (arith, within.place_in) in
          subst goal (sym w.out-is)
          (into_more N X i (linked holds w.in-Some.b) w.in-Some.ensures.value w.in-Some.ensures.ends.1 below
          (covers holds out x) _ x (c.loop-i.invariant x within) (w.forward.ensures x in_out))
      | in_default w ↦ let past = w.in_default.ensures.value in absurd (omega arith)
    ]

pub returns : goal.returns
returns g c = λ x within.
    let holds = g.N.Set.ConditionSet.holds in
    let N : Net = g.N.Network.meaning c.args.net.now in
    into_all N (Is (covers holds c.args.sets.now)) c.loop-i.i (omega arith) _ x (c.loop-i.invariant x within)
