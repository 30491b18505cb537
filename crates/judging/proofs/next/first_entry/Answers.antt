use Rattle.std.proofs.Common.{◌≡◌, ℕ, None, Option, sym, ap, ◌∙◌, arith}
use Rattle.routing.specs.Net.{Net, Pos}
use Rattle.routing.specs.Bindings.{linked}
use Rattle.judging.specs.Chosen.{at_place}
use Rattle.judging.specs.Steps.{as_next, as_pos}
use Rattle.judging.proofs.Nexts.{first_none, first_found, first_elsewhere, first_shut, first_outside}
use Rattle.judging.proofs.next.first_entry.Goals as goal
use Rattle.judging.proofs.next.first_entry.Goals.{in-Some+then-b-at+then-contains+in_default-entry, in-Some+else-b-at, else-b-at-via-then-b-at+else-contains, else-b-at-via-else-b-at, in_default}

-- Where nothing is given of a place, it has no entry.
no_entry : (t : ℕ) (a : Option ℕ) (e : Option Pos) → at_place t a ≡ e → a ≡ None → e ≡ None
no_entry t a e is none = sym is ∙ ap (at_place t) none

pub returns-in-Some-entry : goal.returns-in-Some-entry
returns-in-Some-entry g c = λ enter gives.
    let holds = g.N.Set.ConditionSet.holds in
    let N : Net = g.N.Network.meaning c.args.net.now in
    let b = c.in-Some.b in
    sym (ap as_next (first_found enter (as_pos c.args.at) N.bindings c.loop-i.i (linked holds b) c.in-Some.ensures.value (c.loop-i.invariant enter gives) _
    c.if-b-at.true (sym c.contains.ensures ∙ c.if-contains.true)
    (sym (gives b.to c.entry.result c.in-Some.ensures.ends.1 c.entry.ensures) ∙ ap (at_place b.to) c.in-Some-entry.is)))

pub loop-i-preserved : goal.loop-i-preserved
loop-i-preserved g c = λ enter gives.
    let holds = g.N.Set.ConditionSet.holds in
    let N : Net = g.N.Network.meaning c.args.net.now in
    let x : Pos = as_pos c.args.at in
    let i = c.loop-i.i in
    let inv = c.loop-i.invariant enter gives in
    elim c.match-binding.branch [
      | in-Some+then-b-at+then-contains+in_default-entry w ↦
          let b = w.in-Some.b in
          first_outside enter x N.bindings i (linked holds b) w.in-Some.ensures.value inv
          (no_entry b.to w.entry.result (enter b.to) (gives b.to w.entry.result w.in-Some.ensures.ends.1 w.entry.ensures) w.in_default-entry.is)
      | in-Some+else-b-at w ↦
          elim w.else-b-at.branch [
            | else-b-at-via-then-b-at+else-contains v ↦ first_shut enter x N.bindings i (linked holds w.in-Some.b) w.in-Some.ensures.value inv (sym v.contains.ensures ∙ v.if-contains.false)
            | else-b-at-via-else-b-at v ↦ first_elsewhere enter x N.bindings i (linked holds w.in-Some.b) w.in-Some.ensures.value inv v.if-b-at.false
          ]
      | in_default w ↦ let past = w.in_default.ensures.value in absurd (omega arith)
    ]

pub returns : goal.returns
returns g c = λ enter gives.
    let N : Net = g.N.Network.meaning c.args.net.now in
    sym (ap as_next (c.loop-i.invariant enter gives ∙ first_none enter (as_pos c.args.at) N.bindings c.loop-i.i (omega arith)))
