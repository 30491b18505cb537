use Rattle.std.proofs.Common.{◌≡◌, ℕ, suc, ◌+◌, ◌-◌, ◌<◌, List, [], ◌∷◌, ◌++◌, map, length, take, drop, set, Some, None, Option, sym, refl, ap, ◌∙◌, subst, append_assoc, arith, length-set}
use Rattle.routing.specs.Net.{Net, Pos}
use Rattle.judging.specs.declared.shown.Ending.TheVariants.{Reaches}
use Rattle.judging.specs.declared.notes.Note.{Note}
use Rattle.judging.specs.Chosen.{goes_on}
use Rattle.judging.specs.Notes.{noted_next, walk_noted}
use Rattle.judging.specs.Steps.{as_pos}
use Rattle.judging.proofs.Walked.{next_is, next_is_none, rest_more, written_last, seen_more}
use Rattle.judging.proofs.until.walk_down.Goals as goal

walk_none : (N : Net) (notes : List (Option Note)) (d : ℕ) (x : Pos) → noted_next N notes d x ≡ None → walk_noted N notes (suc d) x ≡ x ∷ []
unfolding walk_noted
walk_none N notes d x e = ap (λ (o : Option Pos). x ∷ goes_on o (walk_noted N notes d)) e

walk_some : (N : Net) (notes : List (Option Note)) (d : ℕ) (x y : Pos) → noted_next N notes d x ≡ Some y → walk_noted N notes (suc d) x ≡ x ∷ walk_noted N notes d y
unfolding walk_noted
walk_some N notes d x y e = ap (λ (o : Option Pos). x ∷ goes_on o (walk_noted N notes d)) e

walk_end : (N : Net) (notes : List (Option Note)) (x : Pos) → walk_noted N notes 0 x ≡ x ∷ []
unfolding walk_noted
walk_end N notes x = refl

pub returns-in-None : goal.returns-in-None
returns-in-None g c =
    let N : Net = g.N.Network.meaning c.args.net.now in
    let notes = c.args.notes.now in
    let steps = c.loop-count.steps in
    let k = c.loop-count.count in
    let at = c.loop-count.at in
    let h = c.args.hops in
    let inside : k < length steps = (let l = c.loop-count.invariant.2 in omega arith) in
    let left : h - k ≡ suc (h - k - 1) = omega arith in
    let seen : List Pos = map as_pos (take k steps) in
    let is : walk_noted N notes h (as_pos c.args.start) ≡ seen ++ (as_pos at ∷ []) =
    c.loop-count.invariant.0 ∙ ap (λ d. seen ++ walk_noted N notes d (as_pos at)) left
    ∙ ap (λ (ps : List Pos). seen ++ ps) (walk_none N notes (h - k - 1) (as_pos at) (next_is_none _ (sym c.in-None.is ∙ c.nearest.ensures))) in
    written_last _ c.args.steps.now steps k at Reaches inside (ap (λ (ps : List Pos). record { positions = ps; ending = Reaches }) is) c.loop-count.invariant.1

pub loop-count-preserved : goal.loop-count-preserved
loop-count-preserved g c =
    let N : Net = g.N.Network.meaning c.args.net.now in
    let notes = c.args.notes.now in
    let steps = c.loop-count.steps in
    let k = c.loop-count.count in
    let at = c.loop-count.at in
    let next = c.in-Some.next in
    let h = c.args.hops in
    let inside : k < length steps = (let l = c.loop-count.invariant.2 in omega arith) in
    let left : h - k ≡ suc (h - k - 1) = omega arith in
    let less : h - k - 1 ≡ h - (k + 1) = omega arith in
    let seen : List Pos = map as_pos (take k steps) in (
      c.loop-count.invariant.0 ∙ ap (λ d. seen ++ walk_noted N notes d (as_pos at)) left
          ∙ ap (λ (ps : List Pos). seen ++ ps) (walk_some N notes (h - k - 1) (as_pos at) (as_pos next) (next_is _ next (sym c.in-Some.is ∙ c.nearest.ensures)))
          ∙ sym (append_assoc seen (as_pos at ∷ []) (walk_noted N notes (h - k - 1) (as_pos next)))
          ∙ ap (λ (ps : List Pos). ps ++ walk_noted N notes (h - k - 1) (as_pos next)) (sym (seen_more steps k at inside))
          ∙ ap (λ d. map as_pos (take (k + 1) (set steps k at)) ++ walk_noted N notes d (as_pos next)) less,
      rest_more steps c.args.steps.now k at c.loop-count.invariant.1,
      length-set steps k at ∙ c.loop-count.invariant.2,
    )

pub returns : goal.returns
returns g c =
    let N : Net = g.N.Network.meaning c.args.net.now in
    let notes = c.args.notes.now in
    let steps = c.loop-count.steps in
    let k = c.loop-count.count in
    let at = c.loop-count.at in
    let h = c.args.hops in
    let last : k ≡ h = omega arith in
    let inside : h < length steps = (let l = c.loop-count.invariant.2 in omega arith) in
    let done : h - k ≡ 0 = omega arith in
    let seen : List Pos = map as_pos (take h steps) in
    let is : walk_noted N notes h (as_pos c.args.start) ≡ seen ++ (as_pos at ∷ []) =
    c.loop-count.invariant.0
    ∙ ap (λ j. map as_pos (take j steps) ++ walk_noted N notes (h - k) (as_pos at)) last
    ∙ ap (λ d. seen ++ walk_noted N notes d (as_pos at)) done ∙ ap (λ (ps : List Pos). seen ++ ps) (walk_end N notes (as_pos at)) in
    written_last _ c.args.steps.now steps h at Reaches inside (ap (λ (ps : List Pos). record { positions = ps; ending = Reaches }) is)
    (subst (λ (j : ℕ). drop j steps ≡ drop j c.args.steps.now) last c.loop-count.invariant.1)
