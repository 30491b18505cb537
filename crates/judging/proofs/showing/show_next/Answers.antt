use Rattle.std.proofs.Common.{List, [], ◌∷◌, ◌++◌, set, sym, refl, ap, ◌∙◌, arith, length-set}
use Rattle.std.proofs.lemmas.Bool.{cond-true, cond-false}
use Rattle.routing.specs.Net.{Pos}
use Rattle.judging.specs.declared.shown.Ending.TheVariants.{Reaches, Rests, Returns}
use Rattle.judging.specs.Chosen.{chosen_next}
use Rattle.judging.specs.Steps.{as_pos}
use Rattle.judging.proofs.Walked.{next_is, next_is_none, rest_more, seen_more, written_last}
use Rattle.judging.proofs.showing.show_next.Goals as goal

pub returns-then-eq : goal.returns-then-eq
unfolding chosen_next
returns-then-eq g c =
    let steps = c.args.steps.now in
    let at = c.args.at in
    let next = c.in-Some.next in
    written_last _ steps steps 0 at (Returns 0) (omega arith)
    (ap (chosen_next (as_pos at)) (next_is _ next (sym c.in-Some.is ∙ c.next_into.ensures)) ∙ cond-true _ _ _ (sym c.eq.ensures ∙ c.if-eq.true))
    refl

pub returns-else-eq : goal.returns-else-eq
unfolding chosen_next
returns-else-eq g c =
    let steps = c.args.steps.now in
    let at = c.args.at in
    let next = c.in-Some.next in
    written_last _ steps (set steps 0 at) 1 next Reaches (simp length-set (omega arith))
    (ap (chosen_next (as_pos at)) (next_is _ next (sym c.in-Some.is ∙ c.next_into.ensures)) ∙ cond-false _ _ _ (sym c.eq.ensures ∙ c.if-eq.false)
    ∙ ap (λ (ps : List Pos). record { positions = ps ++ (as_pos next ∷ []); ending = Reaches }) (sym (seen_more steps 0 at (omega arith))))
    (rest_more steps steps 0 at refl)

pub returns-in-None : goal.returns-in-None
unfolding chosen_next
returns-in-None g c =
    let steps = c.args.steps.now in
    let at = c.args.at in
    written_last _ steps steps 0 at Rests (omega arith) (ap (chosen_next (as_pos at)) (next_is_none _ (sym c.in-None.is ∙ c.next_into.ensures))) refl
