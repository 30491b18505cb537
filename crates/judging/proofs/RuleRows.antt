-- The rule of a row, from the rules of the rows before it.
use Rattle.std.proofs.Common.{◌≡◌, ℕ, zero, suc, ◌<◌, Bool, true, ltb, ◌⊎◌, List, [], ◌∷◌, ◌++◌, length, get_or, sym, refl, ap, ◌∙◌, inl, inr, arith, length-append}
use Rattle.std.proofs.lemmas.List.{get_or_append_left, get_or_push}
use Rattle.std.proofs.lemmas.Bool.{and_parts, ltb-true, cases_eq, false≢true}
use Rattle.routing.specs.Net.{Pos, Net}
use Rattle.routing.specs.Rules.{Rule, truth, non, both, either, ex, eu, eg, Means}
use Rattle.rounds.specs.Rounds.{Decided}
use Rattle.tables.specs.declared.row.Row.{Row}
use Rattle.tables.specs.declared.row.Operation.{Operation}
use Rattle.tables.specs.declared.row.Operation.TheVariants.{Yes, Mark, Condition, Not, And, Or, Next, Until, Always}
use Rattle.tables.specs.Tables.{row_fits, coded, operation_rules, row_rule, no_row, rules_before, rule_at}
use Rattle.judging.specs.Judged.{RoundsOf}
use Rattle.judging.specs.Shapes.{Shape, Rounds, first_is_row, second_is_row}

length_rules : (rows : List Row) (r : ℕ) → length (rules_before rows r) ≡ r
unfolding rules_before
length_rules rows zero = refl
length_rules rows (suc r) = let e = length_rules rows r in length-append (rules_before rows r) _ ∙ (omega arith)

-- The rules before a row are those of the rows.
pub earlier_rule : (rows : List Row) (r p : ℕ) → p < r → get_or (rules_before rows r) p truth ≡ rule_at rows p
unfolding rules_before rule_at
earlier_rule rows zero p l = absurd (omega arith)
earlier_rule rows (suc r) p l = go (cases_eq p r) (earlier_rule rows r p)
  where
    before : List Rule
    before = rules_before rows r

    last : Rule
    last = row_rule before (get_or rows r no_row)

    go : (p ≡ r) ⊎ (p ≡ r → ⊥) → (p < r → get_or before p truth ≡ row_rule (rules_before rows p) (get_or rows p no_row))
        → get_or (before ++ (last ∷ [])) p truth ≡ row_rule (rules_before rows p) (get_or rows p no_row)
    go (inl e) h =
        get_or_push before last truth p (length_rules rows r ∙ sym e) ∙ ap (λ k. row_rule (rules_before rows k) (get_or rows k no_row)) (sym e)
    go (inr ne) h = get_or_append_left before (last ∷ []) truth p (let k = length_rules rows r in omega arith) ∙ h (omega arith)

-- The rule that an operation makes of two rules.
abbrev pub operation_rule : Operation → Rule → Rule → Rule
operation_rule op p q = get_or (operation_rules (coded op).first p q) (coded op).operation truth

-- It means the operation's shape, and has its rounds.
pub shape_means : (N : Net) (b : Pos → Bool) (p q : Rule) (op : Operation) → Decided N b (Shape N op (Means N p) (Means N q)) → Decided N b (Means N (operation_rule op p q))
shape_means N b p q Yes h = h
shape_means N b p q (Mark k) h = h
shape_means N b p q (Condition k) h = h
shape_means N b p q (Not i) h = h
shape_means N b p q (And i j) h = h
shape_means N b p q (Or i j) h = h
shape_means N b p q (Next i) h = h
shape_means N b p q (Until i j) h = h
shape_means N b p q (Always i) h = h

pub rounds_of : (N : Net) (p q : Rule) (op : Operation) (i : ℕ) → Rounds N op (Means N p) (Means N q) i → RoundsOf N (operation_rule op p q) i
rounds_of N p q Yes i h = h
rounds_of N p q (Mark k) i h = h
rounds_of N p q (Condition k) i h = h
rounds_of N p q (Not _) i h = h
rounds_of N p q (And _ _) i h = h
rounds_of N p q (Or _ _) i h = h
rounds_of N p q (Next _) i h = h
rounds_of N p q (Until _ _) i h = h
rounds_of N p q (Always _) i h = h

pub fits_first : (K i : ℕ) (op : Operation) → row_fits K i (coded op) ≡ true → first_is_row op ≡ true → (coded op).first < i
fits_first K i Yes h e = absurd (false≢true e)
fits_first K i (Mark k) h e = absurd (false≢true e)
fits_first K i (Condition k) h e = absurd (false≢true e)
fits_first K i (Not p) h e = ltb-true p i (and_parts (ltb p i) true h).0
fits_first K i (And p q) h e = ltb-true p i (and_parts (ltb p i) (ltb q i) h).0
fits_first K i (Or p q) h e = ltb-true p i (and_parts (ltb p i) (ltb q i) h).0
fits_first K i (Next p) h e = ltb-true p i (and_parts (ltb p i) true h).0
fits_first K i (Until p q) h e = ltb-true p i (and_parts (ltb p i) (ltb q i) h).0
fits_first K i (Always p) h e = ltb-true p i (and_parts (ltb p i) true h).0

pub fits_second : (K i : ℕ) (op : Operation) → row_fits K i (coded op) ≡ true → second_is_row op ≡ true → (coded op).second < i
fits_second K i Yes h e = absurd (false≢true e)
fits_second K i (Mark k) h e = absurd (false≢true e)
fits_second K i (Condition k) h e = absurd (false≢true e)
fits_second K i (Not p) h e = absurd (false≢true e)
fits_second K i (And p q) h e = ltb-true q i (and_parts (ltb p i) (ltb q i) h).1
fits_second K i (Or p q) h e = ltb-true q i (and_parts (ltb p i) (ltb q i) h).1
fits_second K i (Next p) h e = absurd (false≢true e)
fits_second K i (Until p q) h e = ltb-true q i (and_parts (ltb p i) (ltb q i) h).1
fits_second K i (Always p) h e = absurd (false≢true e)

-- An operation without rows makes its rule of any rules.
pub rule_of : (op : Operation) (p p' q q' : Rule) → (first_is_row op ≡ true → p ≡ p') → (second_is_row op ≡ true → q ≡ q') → operation_rule op p q ≡ operation_rule op p' q'
rule_of Yes p p' q q' e d = refl
rule_of (Mark k) p p' q q' e d = refl
rule_of (Condition k) p p' q q' e d = refl
rule_of (Not _) p p' q q' e d = ap non (e refl)
rule_of (And _ _) p p' q q' e d = ap (λ a. both a q) (e refl) ∙ ap (both p') (d refl)
rule_of (Or _ _) p p' q q' e d = ap (λ a. either a q) (e refl) ∙ ap (either p') (d refl)
rule_of (Next _) p p' q q' e d = ap ex (e refl)
rule_of (Until _ _) p p' q q' e d = ap (λ a. eu a q) (e refl) ∙ ap (eu p') (d refl)
rule_of (Always _) p p' q q' e d = ap eg (e refl)

-- The rule of a row that fits is its operation's, of the rules of its operands.
pub rule_at_row : (K : ℕ) (rows : List Row) (r : ℕ) (op : Operation) → coded op ≡ get_or rows r no_row → row_fits K r (get_or rows r no_row) ≡ true
    → rule_at rows r ≡ operation_rule op (rule_at rows (coded op).first) (rule_at rows (coded op).second)
unfolding rule_at
rule_at_row K rows r op is fits =
    let fit : row_fits K r (coded op) ≡ true = ap (row_fits K r) is ∙ fits in
    ap (row_rule (rules_before rows r)) (sym is)
    ∙ rule_of op _ (row_rule (rules_before rows (coded op).first) (get_or rows (coded op).first no_row)) _ (row_rule (rules_before rows (coded op).second) (get_or rows (coded op).second no_row))
    (λ e. earlier_rule rows r (coded op).first (fits_first K r op fit e))
    (λ e. earlier_rule rows r (coded op).second (fits_second K r op fit e))
