use Rattle.std.proofs.Common.{rules, ℕ, ◌&&◌, ◌||◌, refl, ap, ◌∙◌, arith}
use Rattle.std.proofs.lemmas.Bool.Decides.{Decides-at, Decides-and, Decides-or}
use Rattle.std.proofs.Math.Bool.{and_self, or_self}
use Rattle.routing.specs.Net.{Net, Pos}
use Rattle.rounds.specs.Claims.{Is}
use Rattle.rounds.specs.Rounds.{Grown, Kept, LeastStable, Decided}
use Rattle.rounds.proofs.Exact.{until_exact, always_exact}
use Rattle.rounds.proofs.Truth.{is_decides}
use Rattle.judging.specs.Judged.{covers}
use Rattle.judging.proofs.Rows.{named_shape, named_rounds, decided_like}
use Rattle.judging.proofs.work.work_row.Goals as goal

pub returns-in-And : goal.returns-in-And
returns-in-And g c =
    let holds = g.N.Set.ConditionSet.holds in
    let N : Net = g.N.Network.meaning c.args.net.now in
    let p = covers holds c.args.first.now in
    let q = covers holds c.args.second.now in
    let b = covers holds c.write_combined.new.part in
    let made = c.write_combined.ensures (λ s t u. s && (t || u)) (λ s t u v post a. search rules) in
    record {
      few = omega arith;
      written = named_shape N b (Is p) (Is q) c.args.op _ c.in-And.is
          (λ x w. Decides-at (b x) (p x && q x) (made x (let l = w.place_in in omega arith) ∙ ap (λ u. p x && u) (or_self (q x)))
          (Decides-and (p x) (q x) (is_decides N p x w) (is_decides N q x w)));
      counted = named_rounds N (Is p) (Is q) c.args.op _ 0 c.in-And.is refl;
    }

pub returns-in-Or : goal.returns-in-Or
returns-in-Or g c =
    let holds = g.N.Set.ConditionSet.holds in
    let N : Net = g.N.Network.meaning c.args.net.now in
    let p = covers holds c.args.first.now in
    let q = covers holds c.args.second.now in
    let b = covers holds c.write_combined-in-Or.new.part in
    let made = c.write_combined-in-Or.ensures (λ s t u. s || (t && u)) (λ s t u v post a. search rules) in
    record {
      few = omega arith;
      written = named_shape N b (Is p) (Is q) c.args.op _ c.in-Or.is
          (λ x w. Decides-at (b x) (p x || q x) (made x (let l = w.place_in in omega arith) ∙ ap (λ u. p x || u) (and_self (q x)))
          (Decides-or (p x) (q x) (is_decides N p x w) (is_decides N q x w)));
      counted = named_rounds N (Is p) (Is q) c.args.op _ 0 c.in-Or.is refl;
    }

pub returns-in-Until : goal.returns-in-Until
returns-in-Until g c =
    let holds = g.N.Set.ConditionSet.holds in
    let N : Net = g.N.Network.meaning c.args.net.now in
    let p = covers holds c.args.first.now in
    let q = covers holds c.args.second.now in
    let b = covers holds c.until_rounds.new.part in
    let k = c.until_rounds.result in
    let T : ℕ → Pos → Type 0 = Grown N (Is p) (Is q) in
    let least : LeastStable N T k = c.until_rounds.ensures.least in
    record {
      few = c.until_rounds.ensures.few;
      written = named_shape N b (Is p) (Is q) c.args.op _ c.in-Until.is (decided_like N b (T k) _ (until_exact N p q (Is p) (Is q) (is_decides N p) (is_decides N q) k least.stable) c.until_rounds.ensures.after);
      counted = named_rounds N (Is p) (Is q) c.args.op _ k c.in-Until.is least;
    }

pub returns-in-Always : goal.returns-in-Always
returns-in-Always g c =
    let holds = g.N.Set.ConditionSet.holds in
    let N : Net = g.N.Network.meaning c.args.net.now in
    let p = covers holds c.args.first.now in
    let Q : Pos → Type 0 = Is (covers holds c.args.second.now) in
    let b = covers holds c.always_rounds.new.part in
    let k = c.always_rounds.result in
    let T : ℕ → Pos → Type 0 = Kept N (Is p) in
    let least : LeastStable N T k = c.always_rounds.ensures.least in
    record {
      few = c.always_rounds.ensures.few;
      written = named_shape N b (Is p) Q c.args.op _ c.in-Always.is (decided_like N b (T k) _ (always_exact N p (Is p) (is_decides N p) k least.stable) c.always_rounds.ensures.after);
      counted = named_rounds N (Is p) Q c.args.op _ k c.in-Always.is least;
    }
