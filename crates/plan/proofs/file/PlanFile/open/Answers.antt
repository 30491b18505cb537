use Rattle.std.proofs.Common.{◌≡◌, ℕ, List, get_or, Fits, w8, sym, ◌∙◌, subst}
use Rattle.plan.proofs.Decoded.{file_is_plan}
use Rattle.plan.proofs.Shaped.{shape_passes}
use Rattle.plan.proofs.file.PlanFile.open.Goals as goal

pub returns : goal.returns
returns c =
    let f = c.in_ok-file.file in
    let file = f.counted.bytes.now in
    let lent : file ≡ c.args.bytes.now = c.in_ok-file.ensures in
    let fits = subst (λ (bs : List ℕ). (i : ℕ) → Fits w8 (get_or bs i 0)) (sym lent) c.type_inv.bytes in
    let plan = file_is_plan file fits (shape_passes _ file f.shaped) c.in_ok-check_texts.ensures in
    (lent, (plan.0, plan.1 ∙ lent))
