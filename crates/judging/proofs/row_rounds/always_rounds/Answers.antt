use Rattle.std.proofs.Common.{rules, ℕ, suc, Bool, ◌&&◌, ◌||◌, List, sym, subst}
use Rattle.routing.specs.Net.{Pos, Net, places}
use Rattle.rounds.specs.Claims.{Is}
use Rattle.rounds.specs.Rounds.{Kept, Decided}
use Rattle.rounds.specs.Truth.{kept}
use Rattle.rounds.proofs.Settle.{always_settled}
use Rattle.rounds.proofs.Truth.{kept_decides, is_decides}
use Rattle.judging.specs.Judged.{covers}
use Rattle.judging.proofs.Turns.{kept_turn, has_of_test, test_of_has, stable_of_has, least_of_test}
use Rattle.judging.proofs.row_rounds.always_rounds.Goals as goal

pub returns : goal.returns
returns g c =
    let holds = g.N.Set.ConditionSet.holds in
    let N : Net = g.N.Network.meaning c.args.net.now in
    let p : Pos → Bool = covers holds c.args.p.now in
    let t : ℕ → Pos → Bool = kept N p in
    let T : ℕ → Pos → Type 0 = Kept N (Is p) in
    let decide : (i : ℕ) → Decided N (t i) (T i) = kept_decides N p (Is p) (is_decides N p) in
    let settled = c.settle.ensures.least (λ s p q. s && (p || q)) t (λ s p q v post a. search rules)
    (λ b into after i has steps made. test_of_has N t T decide after (suc i)
    (kept_turn N (Is p) (covers holds c.args.rests.now) b into after i c.requires.rested (has_of_test N t T decide b i has) steps made))
    (subst (λ (xs : List g.row.N-Set.Denot). Decided N (covers holds xs) (Is (t 0))) (sym c.copy_from_slice.ensures.after)
    (test_of_has N t T decide p 0 (is_decides N p)))
    (stable_of_has N t T decide (places N) (always_settled N p (Is p) (is_decides N p))) in
    record {
      few = c.settle.ensures.few;
      least = least_of_test N t T decide c.settle.result settled.0;
      after = has_of_test N t T decide (covers holds c.settle.new.part) c.settle.result settled.1;
    }
