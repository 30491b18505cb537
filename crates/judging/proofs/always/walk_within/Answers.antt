use Rattle.std.proofs.Common.{rules, ◌≡◌, ℕ, suc, ◌+◌, ◌-◌, ◌<◌, List, [], map, length, take, drop, set, Option, sym, ap, ◌∙◌, subst, arith, length-set}
use Rattle.std.specs.Option.{MatchOption}
use Rattle.routing.specs.Net.{Net, Pos, places}
use Rattle.judging.specs.Judged.{covers}
use Rattle.judging.specs.declared.shown.RouteStep.{RouteStep}
use Rattle.judging.specs.Chosen.{index_of, walk_always}
use Rattle.judging.specs.Steps.{as_pos}
use Rattle.judging.specs.declared.shown.Ending.TheVariants.{Rests, Returns}
use Rattle.judging.proofs.Walked.{next_is, next_is_none, rest_more, written_front, written_last, walk_returns, walk_ends, walk_rests, walk_goes_on, seen_more}
use Rattle.judging.proofs.always.walk_within.Goals as goal

-- A part from the start.
from_start : (at : RouteStep) (steps : List RouteStep) (k : ℕ) (o : Option ℕ) → o ≡ index_of (as_pos at) (map as_pos (take (k - 0) steps)) → index_of (as_pos at) (map as_pos (take k steps)) ≡ o
from_start at steps k o e = let z : k - 0 ≡ k = omega arith in sym (e ∙ ap (λ j. index_of (as_pos at) (map as_pos (take j steps))) z)

pub returns-in-Some : goal.returns-in-Some
returns-in-Some g c =
    let N : Net = g.N.Network.meaning c.args.net.now in
    let X = covers g.N.Set.ConditionSet.holds c.args.sets.now in
    let steps = c.loop-count.steps in
    let k = c.loop-count.count in
    let at = c.loop-count.at in
    written_front _ c.args.steps.now steps k _ (let l = c.loop-count.invariant.2 in omega arith)
    (c.loop-count.invariant.0 ∙ walk_returns N X (map as_pos (take k steps)) (as_pos at) _ c.in-Some.i (from_start at steps k _ c.in-Some.ensures)) c.loop-count.invariant.1

pub returns-in-None : goal.returns-in-None
returns-in-None g c =
    let N : Net = g.N.Network.meaning c.args.net.now in
    let X = covers g.N.Set.ConditionSet.holds c.args.sets.now in
    let steps = c.loop-count.steps in
    let k = c.loop-count.count in
    let at = c.loop-count.at in
    let total = walk_always N X (places N + 1) [] (as_pos c.args.start) in
    let inside : k < length steps = (let l = c.loop-count.invariant.2 in omega arith) in
    let fuel : places N + 1 - k ≡ suc (places N - k) = omega arith in
    let seen : List Pos = map as_pos (take k steps) in
    written_last total c.args.steps.now steps k at _ inside
    (c.loop-count.invariant.0 ∙ ap (λ f. walk_always N X f seen (as_pos at)) fuel
    ∙ walk_rests N X seen (as_pos at) (places N - k) (from_start at steps k _ c.in_default.ensures) (next_is_none _ (sym c.in-None.is ∙ c.next_into.ensures)))
    c.loop-count.invariant.1

pub loop-count-preserved : goal.loop-count-preserved
loop-count-preserved g c =
    let N : Net = g.N.Network.meaning c.args.net.now in
    let X = covers g.N.Set.ConditionSet.holds c.args.sets.now in
    let steps = c.loop-count.steps in
    let k = c.loop-count.count in
    let at = c.loop-count.at in
    let next = c.in-Some-next_into.next in
    let inside : k < length steps = (let l = c.loop-count.invariant.2 in omega arith) in
    let fuel : places N + 1 - k ≡ suc (places N - k) = omega arith in
    let less : places N - k ≡ places N + 1 - (k + 1) = omega arith in
    let seen : List Pos = map as_pos (take k steps) in (
      c.loop-count.invariant.0 ∙ ap (λ f. walk_always N X f seen (as_pos at)) fuel
          ∙ walk_goes_on N X seen (as_pos at) (places N - k) (as_pos next) (from_start at steps k _ c.in_default.ensures) (next_is _ next (sym c.in-Some-next_into.is ∙ c.next_into.ensures))
          ∙ ap (λ (ps : List Pos). walk_always N X (places N - k) ps (as_pos next)) (sym (seen_more steps k at inside))
          ∙ ap (λ f. walk_always N X f (map as_pos (take (k + 1) (set steps k at))) (as_pos next)) less,
      rest_more steps c.args.steps.now k at c.loop-count.invariant.1,
      length-set steps k at ∙ c.loop-count.invariant.2,
    )

pub returns : goal.returns
returns g c =
    let N : Net = g.N.Network.meaning c.args.net.now in
    let X = covers g.N.Set.ConditionSet.holds c.args.sets.now in
    let steps = c.loop-count.steps in
    let k = c.loop-count.count in
    let n = c.places-n.result in
    let at = c.loop-count.at in
    let last : k ≡ n + 1 = omega arith in
    let empty : places N + 1 - k ≡ 0 = (let v = c.places-n.ensures in omega arith) in
    let ends : MatchOption c.find_step-2.result (c.map_or.result ≡ Rests) (λ i. c.map_or.result ≡ Returns i) = search rules in
    written_front _ c.args.steps.now steps (n + 1) _ (let l = c.loop-count.invariant.2 in omega arith)
    (c.loop-count.invariant.0 ∙ ap (λ j. walk_always N X (places N + 1 - k) (map as_pos (take j steps)) (as_pos at)) last
    ∙ ap (λ f. walk_always N X f (map as_pos (take (n + 1) steps)) (as_pos at)) empty
    ∙ walk_ends N X (map as_pos (take (n + 1) steps)) (as_pos at) _ c.map_or.result (from_start at steps (n + 1) _ c.find_step-2.ensures) ends)
    (subst (λ (j : ℕ). drop j steps ≡ drop j c.args.steps.now) last c.loop-count.invariant.1)
