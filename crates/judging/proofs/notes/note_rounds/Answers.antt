use Rattle.std.proofs.Common.{rules, ◌≡◌, ℕ, suc, ◌+◌, ◌<◌, Bool, true, false, ◌&&◌, ◌||◌, length, sym, ap, ◌∙◌, subst, ⊎_elim, add-one, arith}
use Rattle.std.proofs.lemmas.Bool.{cases_eq}
use Rattle.routing.specs.Net.{Net, Pos, Within, places}
use Rattle.rounds.specs.Truth.{grown}
use Rattle.judging.specs.Judged.{covers}
use Rattle.judging.specs.Notes.{Noted}
use Rattle.judging.specs.Steps.{as_pos}
use Rattle.judging.proofs.Choices.{least_is, least_none}
use Rattle.judging.proofs.Covers.{covers_read}
use Rattle.judging.proofs.Hops.{noted_more, noted_none, grown_next, grown_first, into_same}
use Rattle.judging.proofs.notes.note_rounds.Goals as goal

pub loop-round-init : goal.loop-round-init
loop-round-init g c =
    let holds = g.N.Set.ConditionSet.holds in
    let N : Net = g.N.Network.meaning c.args.net.now in
    let p = covers holds c.args.p.now in
    let q = covers holds c.args.part.now in (
      λ y w. grown_first N p q y,
      λ j l. absurd (omega arith),
      noted_none N (grown N p q) c.args.notes.now c.requires.fresh,
    )

pub returns-then-contains : goal.returns-then-contains
returns-then-contains g c =
    let holds = g.N.Set.ConditionSet.holds in
    let N : Net = g.N.Network.meaning c.args.net.now in
    let T : ℕ → Pos → Bool = grown N (covers holds c.args.p.now) (covers holds c.args.part.now) in
    let x : Pos = as_pos c.args.start in
    let part = c.loop-round.part in
    let i = c.loop-round.round in
    let in_part : x.place < length part = (let l = c.requires.inside.place_in in omega arith) in
    let here : covers holds part x ≡ true = covers_read holds part x c.index-part-start.result in_part c.index-part-start.is ∙ sym c.contains.ensures ∙ c.if-contains.true in
    record {
      hops = sym (least_is (suc (places N)) (λ j. T j x) i (let v = c.places-n.ensures in omega arith) (sym (c.loop-round.invariant.0 x c.requires.inside) ∙ here) c.loop-round.invariant.1);
      notes = c.loop-round.invariant.2;
    }

pub loop-round-preserved : goal.loop-round-preserved
loop-round-preserved g c =
    let holds = g.N.Set.ConditionSet.holds in
    let N : Net = g.N.Network.meaning c.args.net.now in
    let p = covers holds c.args.p.now in
    let q = covers holds c.args.part.now in
    let T : ℕ → Pos → Bool = grown N p q in
    let x : Pos = as_pos c.args.start in
    let part = c.loop-round.part in
    let i = c.loop-round.round in
    let inv = c.loop-round.invariant in
    let next : i + 1 ≡ suc i = add-one i in
    let in_part : x.place < length part = (let l = c.requires.inside.place_in in omega arith) in
    let here : covers holds part x ≡ false = covers_read holds part x c.index-part-start.result in_part c.index-part-start.is ∙ sym c.contains.ensures ∙ c.if-contains.false in
    let after : (y : Pos) → Within N y → covers holds c.combine.new.sets y ≡ T (suc i) y =
    λ y w. grown_next N p q (covers holds part) (covers holds c.steps_into.new.out) (covers holds c.combine.new.sets) i y (inv.0 y w)
    (into_same N (covers holds part) (T i) inv.0 (covers holds c.steps_into.new.out y) y (c.steps_into.ensures y w))
    (c.combine.ensures.after (λ s t u. s || (t && u)) (λ s t u v post a. search rules) y (let l = w.place_in in omega arith)) in
    let none : (j : ℕ) → j < suc i → T j x ≡ false =
    λ j l. ⊎_elim (λ e. ap (λ k. T k x) e ∙ sym (inv.0 x c.requires.inside) ∙ here) (λ ne. inv.1 j (omega arith)) (cases_eq j i) in
    let noted : Noted N T (suc i) c.note_entered.new.notes =
    noted_more N p q i c.loop-round.notes c.note_entered.new.notes (covers holds part) inv.0 (λ t l. c.note_entered.ensures t (omega arith)) inv.2 in
    subst (λ (k : ℕ). ((y : Pos) → Within N y → covers holds c.combine.new.sets y ≡ T k y) × ((j : ℕ) → j < k → T j x ≡ false) × Noted N T k c.note_entered.new.notes)
    (sym next) (after, none, noted)

pub returns : goal.returns
returns g c =
    let holds = g.N.Set.ConditionSet.holds in
    let N : Net = g.N.Network.meaning c.args.net.now in
    let T : ℕ → Pos → Bool = grown N (covers holds c.args.p.now) (covers holds c.args.part.now) in
    record {
      hops = sym (least_none (suc (places N)) (λ j. T j (as_pos c.args.start)) (λ j l. c.loop-round.invariant.1 j (let v = c.places-n.ensures in omega arith)));
      notes = tt;
    }
