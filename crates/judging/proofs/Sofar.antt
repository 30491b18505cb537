-- Judging row by row.
use Rattle.std.proofs.Common.{◌≡◌, ℕ, suc, ◌+◌, ◌-◌, ◌*◌, ◌<◌, ◌≤◌, Bool, true, List, length, get_or, take, drop, sym, refl, ap, ◌∙◌, subst, ⊎_elim, suc-mul, add-one, arith}
use Rattle.std.specs.List.{between}
use Rattle.std.proofs.lemmas.List.{take-take, drop-drop}
use Rattle.std.proofs.lemmas.Slice.{between_is}
use Rattle.std.proofs.lemmas.Bool.{cases_eq}
use Rattle.routing.specs.Net.{Net, places}
use Rattle.routing.specs.Rules.{Rule, Means}
use Rattle.rounds.specs.Claims.{Is}
use Rattle.rounds.specs.Rounds.{Decided}
use Rattle.tables.specs.declared.row.Row.{Row}
use Rattle.tables.specs.declared.row.Operation.{Operation}
use Rattle.tables.specs.Tables.{coded, row_fits, no_row, rule_at}
use Rattle.judging.specs.Judged.{covers, row_part, RoundsOf, RoundsBefore, WrittenBefore}
use Rattle.judging.specs.Shapes.{Shape, Rounds}
use Rattle.judging.proofs.Alike.{Alike, shape_alike, rounds_alike}
use Rattle.judging.proofs.Operands.{part_before}
use Rattle.judging.proofs.Rows.{decided_like}
use Rattle.judging.proofs.RuleRows.{operation_rule, shape_means, rounds_of, fits_first, fits_second, rule_at_row}

-- Parts of two lists that agree up to m.
same_part : {X : Type 0} (xs ys : List X) (m a e : ℕ) → take m xs ≡ take m ys → e ≤ m → between a e xs ≡ between a e ys
same_part xs ys m a e same l =
    between_is xs a e ∙ ap (drop a) (sym (take-take e m xs l) ∙ ap (take e) same ∙ take-take e m ys l) ∙ sym (between_is ys a e)

-- Lists that agree from m on agree from further on.
same_rest : {X : Type 0} (xs ys : List X) (m n : ℕ) → drop m xs ≡ drop m ys → m ≤ n → drop n xs ≡ drop n ys
same_rest xs ys m n same l =
    let e : m + (n - m) ≡ n = omega arith in
    ap (λ k. drop k xs) (sym e) ∙ sym (drop-drop (n - m) m xs) ∙ ap (drop (n - m)) same ∙ drop-drop (n - m) m ys ∙ ap (λ k. drop k ys) e

-- The first r rows are judged.
pub record Sofar {S : Type 0} (holds : S → ℕ → Bool) (N : Net) (rows : List Row) (before main : List S) (r rounds : ℕ) : Type 0 where
  pub written : WrittenBefore holds N rows r main
  pub rest : drop (length rows * places N) main ≡ drop (length rows * places N) before
  pub counted : RoundsBefore N rows r rounds
  pub few : rounds ≤ r * places N

module _ {S : Type 0} (holds : S → ℕ → Bool) (N : Net) (K : ℕ) (rows : List Row) (start main after : List S) (r rounds k : ℕ) (op : Operation)
    (within : r < length rows) (is : coded op ≡ get_or rows r no_row) (fits : row_fits K r (get_or rows r no_row) ≡ true)
    (sofar : Sofar holds N rows start main r rounds) where
  fit : row_fits K r (coded op) ≡ true
  fit = ap (row_fits K r) is ∙ fits

  -- An operand's part holds the positions of its rule.
  operand : (i : ℕ) → i < r → Alike N (Is (covers holds (row_part (places N) i main))) (Means N (rule_at rows i))
  operand i l x w = sofar.written i l x w

  module _ (same_before : take (r * places N) after ≡ take (r * places N) main)
      (same_behind : drop (r * places N + places N) after ≡ drop (r * places N + places N) main)
      (made : Decided N (covers holds (row_part (places N) r after))
      (Shape N op (Is (covers holds (row_part (places N) (coded op).first main))) (Is (covers holds (row_part (places N) (coded op).second main)))))
      (worked : Rounds N op (Is (covers holds (row_part (places N) (coded op).first main))) (Is (covers holds (row_part (places N) (coded op).second main))) k)
      (few : k ≤ places N) where
    rule_is : rule_at rows r ≡ operation_rule op (rule_at rows (coded op).first) (rule_at rows (coded op).second)
    rule_is = rule_at_row K rows r op is fits

    this : Decided N (covers holds (row_part (places N) r after)) (Means N (rule_at rows r))
    this = subst (λ (f : Rule). Decided N (covers holds (row_part (places N) r after)) (Means N f)) (sym rule_is)
        (shape_means N _ (rule_at rows (coded op).first) (rule_at rows (coded op).second) op
        (decided_like N _ _ _
        (shape_alike N _ _ _ _ op (λ e. operand (coded op).first (fits_first K r op fit e)) (λ e. operand (coded op).second (fits_second K r op fit e)))
        made))

    counts : RoundsOf N (rule_at rows r) k
    counts = subst (λ (f : Rule). RoundsOf N f k) (sym rule_is)
        (rounds_of N (rule_at rows (coded op).first) (rule_at rows (coded op).second) op k
        (rounds_alike N _ _ _ _ op k (λ e. operand (coded op).first (fits_first K r op fit e)) (λ e. operand (coded op).second (fits_second K r op fit e)) worked))

    written_more : WrittenBefore holds N rows (suc r) after
    written_more i l = ⊎_elim
        (λ e. subst (λ (j : ℕ). Decided N (covers holds (row_part (places N) j after)) (Means N (rule_at rows j))) (sym e) this)
        (λ ne. let b : i < r = omega arith in
        subst (λ (xs : List S). Decided N (covers holds xs) (Means N (rule_at rows i)))
        (sym (same_part after main (r * places N) (i * places N) (i * places N + places N) same_before (part_before i r (places N) b)))
        (sofar.written i b))
        (cases_eq i r)

    pub sofar_more : Sofar holds N rows start after (r + 1) (rounds + k)
    sofar_more = subst (λ (j : ℕ). Sofar holds N rows start after j (rounds + k)) (sym (add-one r)) (record {
      written = written_more;
      rest = same_rest after main (r * places N + places N) (length rows * places N) same_behind (part_before r (length rows) (places N) within) ∙ sofar.rest;
      counted = (rounds, k, sofar.counted, counts, refl);
      few = let m = suc-mul r (places N) in let f = sofar.few in omega arith;
    })
