use Rattle.std.proofs.Common.{◌≡◌, ℕ, ltb, cond, List, length, is_some, Some, None, Ok, Err, Result, sym, ap, ◌∙◌, ⊎_elim}
use Rattle.std.specs.List.{slice_get}
use Rattle.std.specs.Result.{result_ok, MatchResult}
use Rattle.std.proofs.lemmas.Bool.{cases_lt, cond-true, cond-false, lt-ltb, le-ltb}
use Rattle.plan.specs.declared.fault.FileFault.{FileFault}
use Rattle.plan.specs.declared.file.shaped.ShapedFile.{ShapedFile}
use Rattle.plan.specs.Contents.{listed, rule_count, text_at}
use Rattle.plan.specs.Files.{shaped_text}
use Rattle.plan.specs.Shape.{shape_fault}
use Rattle.plan.proofs.Listed.{nth_listed, nth_past}
use Rattle.plan.proofs.file.rules.rule_text.Goals as goal

-- What was opened is the file.
opened : (r : Result ShapedFile FileFault) (Q : FileFault → Type 0) (file : List ℕ) (f : ShapedFile)
    → MatchResult r (λ g. g.counted.bytes.now ≡ file) Q → Some f ≡ result_ok r → f.counted.bytes.now ≡ file
opened (Ok g) Q file f is e = let same : f ≡ g = cc in ap (λ (x : ShapedFile). x.counted.bytes.now) same ∙ is
opened (Err x) Q file f is e = let z : ◌≡◌ {A = ℕ} 0 1 = cc in cc

-- Without a fault the text is that of the plan.
shaped_text_is : (file : List ℕ) (i : ℕ) → shape_fault (length file) file ≡ None
    → shaped_text file i ≡ slice_get (listed (rule_count file) (text_at file)) i
shaped_text_is file i none =
    let count = rule_count file in
    let text = Some (text_at file i) in
    ap (λ o. cond (is_some o) None (cond (ltb i count) text None)) none
    ∙ ⊎_elim
    (λ below. cond-true (ltb i count) text None (lt-ltb i count below) ∙ sym (nth_listed count (text_at file) i below))
    (λ past. cond-false (ltb i count) text None (le-ltb i count past) ∙ sym (nth_past count (text_at file) i past))
    (cases_lt i count)

pub returns : goal.returns
returns c =
    let f = c.in_ok-shaped.shaped in
    let lent = opened c.open.result _ c.args.file.now f c.open.ensures c.in_ok-shaped.ensures.value in
    c.text.ensures
    ∙ (sym (shaped_text_is f.counted.bytes.now c.args.rule f.shaped) ∙ ap (λ (file : List ℕ). shaped_text file c.args.rule) lent)
