-- What showing a judged row shows.
use Rattle.std.proofs.Common.{◌≡◌, ℕ, ◌<◌, ◌≤◌, Bool, true, List, length, get_or, sym, ap, ◌∙◌, subst, arith}
use Rattle.routing.specs.Net.{Net, Pos, Within, places}
use Rattle.routing.specs.Bindings.{Fits}
use Rattle.routing.specs.Rules.{Rule, Means}
use Rattle.rounds.specs.Rounds.{Decided}
use Rattle.tables.specs.declared.row.Row.{Row}
use Rattle.tables.specs.declared.row.Operation.{Operation}
use Rattle.tables.specs.Tables.{accepted, coded, no_row, row_fits, rule_at}
use Rattle.tables.proofs.Fits.{accepted_row}
use Rattle.judging.specs.declared.shown.RouteStep.{RouteStep}
use Rattle.judging.specs.declared.shown.Shown.{Shown}
use Rattle.judging.specs.Answers.{RouteShown}
use Rattle.judging.specs.Chosen.{Chosen, chosen}
use Rattle.judging.specs.Judged.{covers, row_part, WrittenBefore}
use Rattle.judging.specs.Shown.{CanShow, Shows, Trail}
use Rattle.judging.specs.Steps.{chosen_by, Written}
use Rattle.judging.proofs.Asked.{can_show}
use Rattle.judging.proofs.Right.{shown_right}
use Rattle.judging.proofs.RuleRows.{operation_rule, fits_first, fits_second, rule_at_row}
use Rattle.judging.proofs.Same.{same_true_at, chosen_same}

-- The route that is chosen by the tests of a judged row, where its rule is true, is the row's and shows it.
pub row_shown : {S : Type 0} (holds : S → ℕ → Bool) (N : Net) → Fits N → (rows : List Row) (row : ℕ) (x : Pos) (op : Operation) (main : List S)
    → accepted N.conditions rows ≡ true → row < length rows → coded op ≡ get_or rows row no_row → 6 ≤ (get_or rows row no_row).operation → Within N x
    → WrittenBefore holds N rows (length rows) main → Means N (rule_at rows row) x → (before after : List RouteStep) (s : Shown)
    → Written (chosen_by N op (covers holds (row_part (places N) (coded op).first main)) (covers holds (row_part (places N) (coded op).second main)) (covers holds (row_part (places N) row main)) x) before after s
    → RouteShown N rows row x before after s
row_shown holds N fits_net rows row x op main taken row_in is six w judged true_here before after s shown =
    record { written = written; trail = right.0; shows = subst (Shows N (rule_at rows row) x (chosen N (rule_at rows row) x).positions) (sym written.ended) right.1 }
  where
    fit : row_fits N.conditions row (coded op) ≡ true
    fit = ap (row_fits N.conditions row) is ∙ accepted_row N.conditions rows taken row row_in

    rule_is : rule_at rows row ≡ operation_rule op (rule_at rows (coded op).first) (rule_at rows (coded op).second)
    rule_is = rule_at_row N.conditions rows row op is (accepted_row N.conditions rows taken row row_in)

    choice : chosen_by N op (covers holds (row_part (places N) (coded op).first main)) (covers holds (row_part (places N) (coded op).second main)) (covers holds (row_part (places N) row main)) x ≡ chosen N (rule_at rows row) x
    choice =
        chosen_same N fits_net op (rule_at rows (coded op).first) (rule_at rows (coded op).second) (covers holds (row_part (places N) (coded op).first main)) (covers holds (row_part (places N) (coded op).second main)) (covers holds (row_part (places N) row main)) x w
        (λ e. same_true_at N (covers holds (row_part (places N) (coded op).first main)) (rule_at rows (coded op).first) (judged (coded op).first (let l = fits_first N.conditions row op fit e in omega arith)))
        (λ e. same_true_at N (covers holds (row_part (places N) (coded op).second main)) (rule_at rows (coded op).second) (judged (coded op).second (let l = fits_second N.conditions row op fit e in omega arith)))
        (same_true_at N (covers holds (row_part (places N) row main)) (operation_rule op (rule_at rows (coded op).first) (rule_at rows (coded op).second)) (subst (λ (k : Rule). Decided N (covers holds (row_part (places N) row main)) (Means N k)) rule_is (judged row row_in)))
        ∙ ap (λ (k : Rule). chosen N k x) (sym rule_is)

    written : Written (chosen N (rule_at rows row) x) before after s
    written = subst (λ (k : Chosen). Written k before after s) choice shown

    can : CanShow (rule_at rows row)
    can = subst CanShow (sym rule_is) (can_show op (rule_at rows (coded op).first) (rule_at rows (coded op).second) (subst (λ (r : Row). 6 ≤ r.operation) (sym is) six))

    right : Trail N x (chosen N (rule_at rows row) x).positions × Shows N (rule_at rows row) x (chosen N (rule_at rows row) x).positions (chosen N (rule_at rows row) x).ending
    right = shown_right N fits_net (rule_at rows row) x w can true_here
