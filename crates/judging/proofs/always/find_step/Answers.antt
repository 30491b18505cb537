use Rattle.std.proofs.Common.{rules, ◌≡◌, List, [], ◌∷◌, map, refl, ◌∙◌, arith}
use borrow.Author.Tests.{tests}
use Rattle.std.specs.List.{position}
use Rattle.std.proofs.lemmas.Iterator.{YieldsList-from_slice}
use Rattle.std.proofs.lemmas.Iterator.Search.{position_from_yields_List}
use Rattle.routing.specs.Net.{Pos}
use Rattle.judging.specs.declared.shown.RouteStep.{RouteStep}
use Rattle.judging.specs.Chosen.{same_pos, index_of}
use Rattle.judging.specs.Steps.{as_pos}
use Rattle.judging.proofs.always.find_step.Goals as goal

-- The first record that is the position, among their positions.
index_position : (x : Pos) (xs : List RouteStep) → position (λ s. same_pos x (as_pos s)) xs ≡ index_of x (map as_pos xs)
unfolding index_of
index_position x [] = refl
index_position x (s ∷ xs) = let i = index_position x xs in grind arith

pub returns : goal.returns
returns c =
    let at = as_pos c.args.at in
    position_from_yields_List (λ s. same_pos at (as_pos s)) _ _ c.position.result c.position.ensures.ran (YieldsList-from_slice c.args.seen.now cc) (λ x b q k. search (rules, tests))
    ∙ index_position at c.args.seen.now
