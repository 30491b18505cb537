-- What judging says of tables, and what is shown of one that breaks.
use Rattle.std.proofs.Common.{◌≡◌, ℕ, zero, suc, ◌+◌, ◌<◌, ◌≤◌, true, List, [], ◌∷◌, ◌++◌, length, map, take, max, Some, Ok, Err, Result, get_or, refl, ap, sym, ◌∙◌, subst, arith, add-one}
use Rattle.std.proofs.Math.Nat.{mul-le-mul_left}
use Rattle.arrayvec.specs.ArrayVec.{ArrayVec}
use Rattle.std.specs.List.{slice_get}
use Rattle.std.specs.Result.{IsOk, OnOk}
use Rattle.std.proofs.lemmas.Bool.{and_parts, and_from}
use Rattle.std.proofs.lemmas.List.{length-map}
use Rattle.std.proofs.lemmas.Option.{slice_get_within}
use Rattle.conditions.proofs.Picking.{picked_in}
use Rattle.routing.specs.Net.{Net, Pos, Within, settings}
use Rattle.routing.specs.Bindings.{Fits}
use Rattle.tables.specs.declared.row.Row.{Row}
use Rattle.tables.specs.Tables.{accepted, rule_at}
use Rattle.tables.proofs.Fits.{accepted_few}
use Rattle.judging.specs.declared.breaking.Broken.{Broken}
use Rattle.judging.specs.declared.shown.RouteStep.{RouteStep}
use Rattle.judging.specs.Breaking.{Explained, Exhibits}
use Rattle.judging.specs.Chosen.{chosen}
use Rattle.judging.specs.Judged.{RoundsBefore}
use Rattle.judging.specs.Steps.{as_pos, as_steps}
use Rattle.judging.proofs.Counted.{rounds_few}
use Rattle.verdicts.specs.declared.verdict.Verdict.{Verdict}
use Rattle.verdicts.specs.declared.verdict.Verdict.TheVariants.{Breaks}
use Rattle.verdicts.specs.Verdicts.{FirstFailing, Told}
use Rattle.paper.specs.Refused.{most_rows}
use Rattle.paper.specs.Rules.{HoldsAtEntries, AllHold, FirstBroken, RoundsOfAll, ShownAsChosen, ShownRightly}
use Rattle.board.specs.Answers.{showing}
use Rattle.board.specs.Possible.{all_accepted}
use Rattle.board.specs.Tables.{rows_of}

-- An accepted table takes few rounds in any network.
pub few_rounds : (N : Net) (rows : List Row) (n : ℕ) → Fits N → accepted N.conditions rows ≡ true → RoundsBefore N rows (length rows) n → n ≤ 8192
few_rounds N rows n fits taken counted =
    let all = rounds_few N rows (length rows) n counted in
    let few = accepted_few N.conditions rows taken in
    let product = mul-le-mul_left (length rows) fits.few_places in
    omega arith

-- Where a rule breaks first it fails, at a position of the network.
module _ (N : Net) (P : Pos → Type 0) (s a : ℕ) (f : FirstFailing N P s a) where
  failing : (a < settings N) × (¬ (P (record { place = s; setting = a })))
  failing = picked_in (λ b. (b < settings N) × (¬ (P (record { place = s; setting = b })))) a f.picked

  pub failing_within : Within N (record { place = s; setting = a })
  failing_within = record { place_in = f.inside; setting_in = failing.0 }

  pub failing_fails : ¬ (P (record { place = s; setting = a }))
  failing_fails = failing.1

pub told_breaks : (N : Net) (P : Pos → Type 0) (v : Verdict) (s a : ℕ) → Told N P v → v ≡ Breaks s a → FirstFailing N P s a
told_breaks N P v s a told is = subst (Told N P) is told

-- The positions of records are those that they were made of.
back_again : (ps : List Pos) → map as_pos (as_steps ps) ≡ ps
back_again [] = refl
back_again (p ∷ ps) = ap (λ rest. p ∷ rest) (back_again ps)

-- What is shown of a rule that breaks is the chosen route, and each route so shown breaks it.
module _ (N : Net) (rows : List Row) (x : Pos) (steps steps' : List RouteStep) (b : Broken) (e : Explained N rows x steps steps' (Some b)) where
  listed : map as_pos (take b.shown.count steps') ≡ (chosen N (rule_at rows b.row) x).positions
  listed = ap (map as_pos) e.1.written.front ∙ back_again (chosen N (rule_at rows b.row) x).positions

  pub route_chosen : ShownAsChosen N rows x (showing (Some b.shown) steps')
  route_chosen = (b.row, e.0, listed, e.1.written.ended)

  pub route_right : ShownRightly N rows x (showing (Some b.shown) steps')
  route_right = (b.row, e.0, subst (λ ps. Exhibits N (rule_at rows b.row) x ps b.shown.ending) (sym listed) e.2)

-- The tables that a board keeps, by number.
pub table_at : (rules : List (ArrayVec Row)) (i : ℕ) (d : ArrayVec Row) (t : List Row) → i < length rules → d ≡ get_or rules i d → t ≡ d.items → slice_get (rows_of rules) i ≡ Some t
table_at [] i d t l e is = absurd (omega arith)
table_at (r ∷ rs) zero d t l e is = ap (λ v. Some v.items) (sym e) ∙ ap Some (sym is)
table_at (r ∷ rs) (suc i) d t l e is = table_at rs i d t (omega arith) e is

take_suc : (ts : List (List Row)) (i : ℕ) (t : List Row) → slice_get ts i ≡ Some t → take (suc i) ts ≡ take i ts ++ t ∷ []
take_suc [] i t e = let z : ◌≡◌ {A = ℕ} 0 1 = cc in absurd (omega arith)
take_suc (u ∷ us) zero t e = let same : u ≡ t = cc in ap (λ v. v ∷ []) same
take_suc (u ∷ us) (suc i) t e = ap (λ rest. u ∷ rest) (take_suc us i t e)

pub take_next : (ts : List (List Row)) (i : ℕ) (t : List Row) → slice_get ts i ≡ Some t → take (i + 1) ts ≡ take i ts ++ t ∷ []
take_next ts i t e = rw add-one (take_suc ts i t e)

pub rows_of_more : (rules : List (ArrayVec Row)) (r : ArrayVec Row) → rows_of (rules ++ r ∷ []) ≡ rows_of rules ++ r.items ∷ []
rows_of_more [] r = refl
rows_of_more (u ∷ us) r = ap (λ rest. u.items ∷ rest) (rows_of_more us r)

-- The first rule that breaks is the table that is kept at its number.
pub first_here : (N : Net) (rules : List (ArrayVec Row)) (k : ℕ) (at : Pos) (d : ArrayVec Row) (t : List Row) → d ≡ get_or rules k d → t ≡ d.items
    → (rows : List Row) → FirstBroken N (rows_of rules) k at rows → FirstBroken N (rows_of rules) k at t
first_here N rules k at d t is items rows first =
    let inside : k < length rules = omega (arith, slice_get_within (rows_of rules) k rows first.listed, length-map rules (λ (r : ArrayVec Row). r.items)) in
    let here : Some rows ≡ Some t = sym first.listed ∙ table_at rules k d t inside is items in
    let same : rows ≡ t = cc in
    subst (FirstBroken N (rows_of rules) k at) same first

-- One table more.
module _ (N : Net) where
  pub hold_more : (ts : List (List Row)) (t : List Row) → AllHold N ts → HoldsAtEntries N t → AllHold N (ts ++ t ∷ [])
  hold_more [] t all h = (h, tt)
  hold_more (u ∷ us) t all h = (all.0, hold_more us t all.1 h)

  pub rounds_more : (ts : List (List Row)) (t : List Row) (n m : ℕ) → RoundsOfAll N ts n → RoundsBefore N t (length t) m → RoundsOfAll N (ts ++ t ∷ []) (n + m)
  rounds_more [] t n m all h = (m, 0, h, refl, omega (arith, all))
  rounds_more (u ∷ us) t n m all h =
      let rest = rounds_more us t all.1 m all.3 h in
      (all.0, all.1 + m, all.2, rest, omega (arith, all.4))

module _ (K : ℕ) where
  pub accepted_more : (ts : List (List Row)) (t : List Row) → all_accepted K ts ≡ true → accepted K t ≡ true → all_accepted K (ts ++ t ∷ []) ≡ true
  accepted_more [] t all h = and_from (accepted K t) true h refl
  accepted_more (u ∷ us) t all h =
      let parts = and_parts (accepted K u) (all_accepted K us) all in
      and_from (accepted K u) _ parts.0 (accepted_more us t parts.1 h)

  pub accepted_each : (ts : List (List Row)) (i : ℕ) (t : List Row) → all_accepted K ts ≡ true → slice_get ts i ≡ Some t → accepted K t ≡ true
  accepted_each [] i t all e = let z : ◌≡◌ {A = ℕ} 0 1 = cc in absurd (omega arith)
  accepted_each (u ∷ us) zero t all e = let same : u ≡ t = cc in ap (accepted K) (sym same) ∙ (and_parts (accepted K u) (all_accepted K us) all).0
  accepted_each (u ∷ us) (suc i) t all e = accepted_each us i t (and_parts (accepted K u) (all_accepted K us) all).1 e

-- The largest of the tables and one more.
pub most_more : (ts : List (List Row)) (t : List Row) → most_rows (ts ++ t ∷ []) ≡ max (most_rows ts) (length t)
most_more [] t = omega arith
most_more (u ∷ us) t = let rest = most_more us t in omega arith

-- No table has more rows than the largest.
pub rows_within : (ts : List (List Row)) (i : ℕ) (t : List Row) → slice_get ts i ≡ Some t → length t ≤ most_rows ts
rows_within [] i t e = let z : ◌≡◌ {A = ℕ} 0 1 = cc in absurd (omega arith)
rows_within (u ∷ us) zero t e = let same : u ≡ t = cc in let as_many = ap length same in omega arith
rows_within (u ∷ us) (suc i) t e = let rest = rows_within us i t e in omega arith

-- One table more: the largest so far is that of all of them, and has at most 32 rows.
pub largest_larger : (ts : List (List Row)) (i n : ℕ) (t : List Row) → slice_get ts i ≡ Some t → n ≡ most_rows (take i ts) → n < length t → length t ≡ most_rows (take (i + 1) ts)
largest_larger ts i n t listed is more = rw (take_next ts i t listed) (let all = most_more (take i ts) t in omega arith)

pub largest_kept : (ts : List (List Row)) (i n : ℕ) (t : List Row) → slice_get ts i ≡ Some t → n ≡ most_rows (take i ts) → length t ≤ n → n ≡ most_rows (take (i + 1) ts)
largest_kept ts i n t listed is less = rw (take_next ts i t listed) (let all = most_more (take i ts) t in omega arith)

-- What is known of a value that there is.
pub on_ok : {T E : Type 0} (r : Result T E) (P : Type 0) → IsOk r → OnOk r P → P
on_ok (Ok v) P is h = h
on_ok (Err e) P is h = let z : ◌≡◌ {A = ℕ} 0 1 = cc in absurd (omega arith)
