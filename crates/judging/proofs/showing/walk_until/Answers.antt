use Rattle.std.proofs.Common.{suc, List, None, sym, refl, ap, ◌∙◌, subst, arith}
use Rattle.std.proofs.lemmas.List.{get_or-replicate}
use Rattle.routing.specs.Net.{Net, Pos, places}
use Rattle.rounds.specs.Truth.{grown}
use Rattle.judging.specs.declared.shown.Ending.TheVariants.{Reaches}
use Rattle.judging.specs.Chosen.{Chosen}
use Rattle.judging.specs.Judged.{covers}
use Rattle.judging.specs.Steps.{as_pos, Written}
use Rattle.judging.proofs.Choices.{least_out}
use Rattle.judging.proofs.Hops.{until_some, until_none, noted_walk}
use Rattle.judging.proofs.showing.walk_until.Goals as goal

pub note_rounds-requires : goal.note_rounds-requires
note_rounds-requires g c =
    let few = (g.N.Network.fits c.args.net.now).few_places in
    record {
      part = c.requires.part;
      p = c.requires.p;
      into = c.requires.into;
      room = omega arith;
      inside = c.requires.inside;
      fresh = λ t l. get_or-replicate 256 t None None (omega arith);
    }

pub walk_down-requires : goal.walk_down-requires
walk_down-requires g c =
    let few = (g.N.Network.fits c.args.net.now).few_places in
    let d = (least_out (suc (places (g.N.Network.meaning c.args.net.now))) _ c.in-Some.hops (sym c.in-Some.ensures.hops)).0 in
    let kept = c.note_rounds.auto.notes in
    record { room = omega arith; list = omega arith }

pub returns-in-Some : goal.returns-in-Some
returns-in-Some g c =
    let holds = g.N.Set.ConditionSet.holds in
    let N : Net = g.N.Network.meaning c.args.net.now in
    let p = covers holds c.args.p.now in
    let q = covers holds c.args.part.now in
    let x : Pos = as_pos c.args.at in
    let d = c.in-Some.hops in
    let o = least_out (suc (places N)) (λ i. grown N p q i x) d (sym c.in-Some.ensures.hops) in
    let is = until_some N p q x d c.in-Some.ensures.hops
    ∙ ap (λ (ps : List Pos). record { positions = ps; ending = Reaches })
    (sym (noted_walk N p q (g.N.Network.fits c.args.net.now) d _ c.in-Some.ensures.notes d (omega arith) x o.1 (λ e s. o.2 e (omega arith)))) in
    subst (λ (k : Chosen). Written k c.args.steps.now c.walk_down.new.steps c.walk_down.result) (sym is) c.walk_down.ensures

pub returns-in-None : goal.returns-in-None
returns-in-None g c =
    let holds = g.N.Set.ConditionSet.holds in
    let N : Net = g.N.Network.meaning c.args.net.now in
    let is = until_none N (covers holds c.args.p.now) (covers holds c.args.part.now) (as_pos c.args.at) c.in-None.ensures.hops in
    subst (λ (k : Chosen). Written k c.args.steps.now c.args.steps.now (record { count = 0; ending = Reaches })) (sym is) (record { counted = refl; ended = refl; front = refl; rest = refl })
