use Rattle.std.proofs.Common.{rules, ◌≡◌, Bool, sym, ap, ◌∙◌}
use Rattle.routing.specs.Net.{Net, Pos}
use Rattle.judging.specs.Judged.{covers}
use Rattle.judging.specs.Chosen.{entering, next_in}
use Rattle.judging.specs.Notes.{first_link}
use Rattle.judging.specs.Steps.{as_next, as_pos}
use Rattle.judging.proofs.Nexts.{next_first}
use Rattle.judging.proofs.next.next_into.Goals as goal

-- The next position by the bindings in order.
as_first : (N : Net) (X : Pos → Bool) (x : Pos) → next_in N X x ≡ first_link (entering N X) x N.bindings
unfolding next_in
as_first N X x = next_first N X x N.bindings

pub returns : goal.returns
returns g c =
    let holds = g.N.Set.ConditionSet.holds in
    let N : Net = g.N.Network.meaning c.args.net.now in
    let X = covers holds c.args.sets.now in
    c.first_entry.ensures (entering N X) (λ t a l given. search rules) ∙ sym (ap as_next (as_first N X (as_pos c.args.at)))
