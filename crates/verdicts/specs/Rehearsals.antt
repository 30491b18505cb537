-- The network that a rehearsal judges, and when a rehearsal is refused.
use Rattle.std.specs.Prelude.{ℕ, ◌*◌, cond, ◌&&◌, List, length, Some, None, Option, nat_le, nat_lt}
use Rattle.conditions.specs.declared.word.Word.{Word}
use Rattle.conditions.specs.WordSets.{word_holds}
use Rattle.routing.specs.declared.binding.Binding.{Binding}
use Rattle.routing.specs.declared.refusal.Refusal.{Refusal}
use Rattle.routing.specs.declared.refusal.Refusal.TheVariants.{BadTable, NoBinding, TooShort}
use Rattle.routing.specs.Net.{Net}
use Rattle.routing.specs.Bindings.{net_of}
use Rattle.routing.specs.Refusals.{opening}
use Rattle.tables.specs.declared.row.Row.{Row}
use Rattle.tables.specs.Tables.{accepted}
use Rattle.verdicts.specs.Sites.{first_refusal}
use Rattle.verdicts.specs.Shutting.{shut_at}

-- The network of the marks and the records, with binding i shut.
abbrev pub shut_net : List ℕ → List (Binding Word) → ℕ → Net
shut_net marks records i = net_of 6 word_holds marks (shut_at i records)

-- Why a rehearsal is refused: the marks and records, else the table, else a number that is no binding,
-- else a main list shorter than rows × places or a spare shorter than 2 × places.
abbrev pub rehearse_refusal : List ℕ → List (Binding Word) → ℕ → List Row → ℕ → ℕ → Option Refusal
rehearse_refusal marks records i rows main spare =
    first_refusal (opening marks records)
    (cond (accepted 6 rows)
    (cond (nat_lt i (length records))
    (cond (nat_le (length rows * length marks) main && nat_le (2 * length marks) spare) None (Some TooShort))
    (Some NoBinding))
    (Some BadTable))
