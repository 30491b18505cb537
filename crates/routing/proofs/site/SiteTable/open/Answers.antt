use Rattle.std.proofs.Common.{◌≡◌, ℕ, ◌≤◌, false, cond, ◌||◌, ltb, ◌⊎◌, List, length, Some, None, sym, refl, ap, ◌∙◌, inl, inr, arith}
use Rattle.std.specs.List.{slice_get}
use Rattle.std.proofs.lemmas.Option.{slice_get_read}
use Rattle.std.proofs.lemmas.Bool.{or_from, le-ltb, cond-false}
use Rattle.routing.specs.declared.binding.Binding.{Binding}
use Rattle.routing.specs.declared.refusal.Refusal.TheVariants.{NoPlace, OverLimit}
use Rattle.routing.specs.Refusals.{all_inside, opening}
use Rattle.routing.proofs.Inside.{inside_more, inside_fails}
use Rattle.routing.proofs.site.SiteTable.open.Goals as goal
use Rattle.routing.proofs.site.SiteTable.open.Goals.{then-from-marks-via-then-from-marks, then-from-marks-via-else-from-marks+then-from-marks-2}

-- Within the limits, records with an end that is no place are refused for it.
outside : {S : Type 0} (marks : List ℕ) (records : List (Binding S)) → length marks ≤ 256 → length records ≤ 4096 → all_inside (length marks) records ≡ false
    → opening marks records ≡ Some NoPlace
outside marks records few_marks few_records e =
    cond-false (ltb 256 (length marks) || ltb 4096 (length records)) (Some OverLimit) _ (or_from _ _ (le-ltb 256 (length marks) few_marks) (le-ltb 4096 (length records) few_records))
    ∙ ap (λ t. cond t None (Some NoPlace)) e

pub returns-then-from-marks-clause-refusal : goal.returns-then-from-marks-clause-refusal
returns-then-from-marks-clause-refusal g c =
    let x = c.b-item.result in
    let read : slice_get c.args.records.now c.loop-b.b-index ≡ Some x = slice_get_read _ _ _ x refl c.loop-b-test.true c.b-item.is in
    let n : ℕ = length c.args.marks.now in
    let out : (n ≤ x.from) ⊎ (n ≤ x.to) = elim c.then-from-marks.branch [ then-from-marks-via-then-from-marks w ↦ inl (omega arith) | then-from-marks-via-else-from-marks+then-from-marks-2 w ↦ inr (omega arith) ] in
    sym (outside c.args.marks.now c.args.records.now c.if-marks-gt-MOST_PLACES.false c.if-records-gt-MOST_BINDINGS.false
    (inside_fails n c.args.records.now c.loop-b.b-index x read out))

pub loop-b-preserved : goal.loop-b-preserved
loop-b-preserved g c =
    let x = c.b-item.result in
    inside_more (length c.args.marks.now) c.args.records.now c.loop-b.b-index x
    (slice_get_read _ _ _ x refl c.loop-b-test.true c.b-item.is) (rw (sym c.from.ensures) c.if-from-marks.false) (rw (sym c.from-else-from-marks.ensures) c.if-from-marks-2.false) c.loop-b.invariant
