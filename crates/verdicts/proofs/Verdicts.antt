-- What an accepted call says, and verdicts on positions that are the same.
use Rattle.std.proofs.Common.{◌≡◌, ℕ, ◌*◌, ◌<◌, ◌≤◌, true, ◌&&◌, leb, List, length, None}
use Rattle.std.proofs.lemmas.Bool.{and_parts, leb-true}
use Rattle.conditions.proofs.Picking.{picked_like}
use Rattle.routing.specs.declared.refusal.Refusal.TheVariants.{BadTable, TooShort}
use Rattle.routing.specs.Net.{Pos, Net, Within, places, settings}
use Rattle.tables.specs.declared.row.Row.{Row}
use Rattle.tables.specs.Tables.{accepted}
use Rattle.judging.specs.Judged.{judge_refusal}
use Rattle.judging.proofs.Alike.{Alike}
use Rattle.judging.proofs.Asked.{two_tests}
use Rattle.verdicts.specs.declared.verdict.Verdict.{Verdict}
use Rattle.verdicts.specs.declared.verdict.Verdict.TheVariants.{Holds, Breaks}
use Rattle.verdicts.specs.Verdicts.{Told}

-- A judgement that is not refused has an accepted table and room.
pub record Ready (N : Net) (rows : List Row) (main spare : ℕ) : Type 0 where
  pub taken : accepted N.conditions rows ≡ true
  pub room : length rows * places N ≤ main
  pub room_spare : 2 * places N ≤ spare

pub ready : (N : Net) (rows : List Row) (main spare : ℕ) → judge_refusal N rows main spare ≡ None → Ready N rows main spare
ready N rows main spare e =
    let t = two_tests BadTable TooShort (accepted N.conditions rows) (leb (length rows * places N) main && leb (2 * places N) spare) e in
    let both = and_parts (leb (length rows * places N) main) (leb (2 * places N) spare) t.1 in
    record { taken = t.0; room = leb-true _ _ both.0; room_spare = leb-true _ _ both.1 }

-- A verdict on the same positions.
pub told_alike : (N : Net) (P Q : Pos → Type 0) → Alike N P Q → (v : Verdict) → Told N P v → Told N Q v
told_alike N P Q e Holds h = λ x w entry. (e x w).0 (h x w entry)
told_alike N P Q e (Breaks s a) h =
    let within : (b : ℕ) → b < settings N → Within N (record { place = s; setting = b }) = λ b l. record { place_in = h.inside; setting_in = l } in
    record {
      inside = h.inside;
      entry = h.entry;
      earlier = λ x w l entry. (e x w).0 (h.earlier x w l entry);
      picked = picked_like _ _ a
          (λ b. (λ k. (k.0, λ q. k.1 ((e _ (within b k.0)).1 q)), λ k. (k.0, λ p. k.1 ((e _ (within b k.0)).0 p))))
          h.picked;
    }
