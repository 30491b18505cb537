-- What judging the shut network says of a rehearsal.
use Rattle.std.proofs.Common.{◌≡◌, ℕ, ◌*◌, Bool, true, false, cond, ◌&&◌, ltb, leb, List, length, Some, None, Option, ap, ◌∙◌, arith}
use Rattle.conditions.specs.declared.word.Word.{Word}
use Rattle.routing.specs.declared.binding.Binding.{Binding}
use Rattle.routing.specs.declared.refusal.Refusal.{Refusal}
use Rattle.routing.specs.declared.refusal.Refusal.TheVariants.{BadTable, NoBinding, TooShort}
use Rattle.routing.specs.Refusals.{opening}
use Rattle.tables.specs.declared.row.Row.{Row}
use Rattle.tables.specs.Tables.{accepted}
use Rattle.judging.specs.Judged.{judge_refusal}
use Rattle.verdicts.specs.Sites.{first_refusal}
use Rattle.verdicts.specs.Shutting.{shut_at}
use Rattle.verdicts.specs.Rehearsals.{shut_net, rehearse_refusal}
use Rattle.verdicts.proofs.Shutting.{shut_opening}

-- Without the test of the number there is no refusal either.
fewer_tests : (o : Option Refusal) (a b r : Bool)
    → first_refusal o (cond a (cond b (cond r None (Some TooShort)) (Some NoBinding)) (Some BadTable)) ≡ None
    → first_refusal o (cond a (cond r None (Some TooShort)) (Some BadTable)) ≡ None
fewer_tests None true true r e = e
fewer_tests None true false r e = let z : ◌≡◌ {A = ℕ} 0 1 = cc in absurd (omega arith)
fewer_tests None false b r e = e
fewer_tests (Some x) a b r e = e

-- A rehearsal that is not refused is not refused at the shut records.
pub site_ready : (marks : List ℕ) (records : List (Binding Word)) (i : ℕ) (rows : List Row) (main spare : ℕ)
    → rehearse_refusal marks records i rows main spare ≡ None
    → first_refusal (opening marks (shut_at i records)) (judge_refusal (shut_net marks records i) rows main spare) ≡ None
site_ready marks records i rows main spare e =
    ap (λ (o : Option Refusal). first_refusal o (judge_refusal (shut_net marks records i) rows main spare)) (shut_opening marks i records)
    ∙ fewer_tests (opening marks records) (accepted 6 rows) (ltb i (length records)) (leb (length rows * length marks) main && leb (2 * length marks) spare) e
