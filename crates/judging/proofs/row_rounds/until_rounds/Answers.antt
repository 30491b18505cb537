use Rattle.std.proofs.Common.{rules, ℕ, suc, Bool, ◌&&◌, ◌||◌, List, sym, subst}
use Rattle.routing.specs.Net.{Pos, Net, places}
use Rattle.rounds.specs.Claims.{Is}
use Rattle.rounds.specs.Rounds.{Grown, Decided}
use Rattle.rounds.specs.Truth.{grown}
use Rattle.rounds.proofs.Settle.{until_settled}
use Rattle.rounds.proofs.Truth.{grown_decides, is_decides}
use Rattle.judging.specs.Judged.{covers}
use Rattle.judging.proofs.Turns.{grown_turn, has_of_test, test_of_has, stable_of_has, least_of_test}
use Rattle.judging.proofs.row_rounds.until_rounds.Goals as goal

pub returns : goal.returns
returns g c =
    let holds = g.N.Set.ConditionSet.holds in
    let N : Net = g.N.Network.meaning c.args.net.now in
    let p : Pos → Bool = covers holds c.args.p.now in
    let q : Pos → Bool = covers holds c.args.q.now in
    let t : ℕ → Pos → Bool = grown N p q in
    let T : ℕ → Pos → Type 0 = Grown N (Is p) (Is q) in
    let decide : (i : ℕ) → Decided N (t i) (T i) = grown_decides N p q (Is p) (Is q) (is_decides N p) (is_decides N q) in
    let settled = c.settle.ensures.least (λ s p q. s || (p && q)) t (λ s p q v post a. search rules)
    (λ b into after i has steps made. test_of_has N t T decide after (suc i)
    (grown_turn N (Is p) (Is q) p b into after i (is_decides N p) (has_of_test N t T decide b i has) steps made))
    (subst (λ (xs : List g.row.N-Set.Denot). Decided N (covers holds xs) (Is (t 0))) (sym c.copy_from_slice.ensures.after)
    (test_of_has N t T decide q 0 (is_decides N q)))
    (stable_of_has N t T decide (places N) (until_settled N p q (Is p) (Is q) (is_decides N p) (is_decides N q))) in
    record {
      few = c.settle.ensures.few;
      least = least_of_test N t T decide c.settle.result settled.0;
      after = has_of_test N t T decide (covers holds c.settle.new.part) c.settle.result settled.1;
    }
