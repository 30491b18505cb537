-- What a text is answered with.
use Rattle.std.proofs.Common.{◌⊎◌, inl, inr, ◌≡◌, ℕ, suc, ◌+◌, ◌<◌, ◌≤◌, Bool, true, false, cond, ltb, leb, List, [], ◌∷◌, ◌++◌, length, is_some, Some, None, Ok, Err, Option, sym, refl, ap, ◌∙◌, subst, arith, length-append}
use Rattle.routing.specs.Rules.{Rule}
use Rattle.rule_text.specs.declared.word.Word.{Word}
use Rattle.rule_text.specs.Descent.{nothing, behind_part, or_with, Item, bad, items, unread, end_of, outcome, rows_kept, next_number, push_rows, ChoiceRead, ChoiceFails}
use Rattle.std.proofs.lemmas.List.{length-take-le}
use Rattle.std.proofs.lemmas.Bool.{cond-true, cond-false, le-leb, lt-leb, ltb-false, ltb-true, true≢false}
use Rattle.tables.specs.declared.row.Row.{Row}
use Rattle.rule_text.specs.declared.fault.Fault.{Fault}
use Rattle.rule_text.specs.declared.fault.FaultKind.TheVariants.{CannotFollow, TooManyRows}
use Rattle.rule_text.specs.declared.parse.Parser.{Parser}
use Rattle.rule_text.specs.declared.reader.Reader.{Reader}
use Rattle.rule_text.specs.declared.table.Table.{Table}
use Rattle.rule_text.specs.Faults.{fault}
use Rattle.rule_text.specs.Rows.{rows_of}
use Rattle.rule_text.specs.Reading.{Answer, Reading, table_rows}
use Rattle.std.specs.Option.{ok_or}
use Rattle.rule_text.proofs.Accepts.{begin}
use Rattle.rule_text.proofs.Emitted.{push_some}
use Rattle.rule_text.proofs.Steps.{parser, at_none, only_closer, stuck, word_told}
use Rattle.rule_text.proofs.Verdict.{rowed, reading_of}

module _ (K : ℕ) (text : List ℕ) (short : length text ≤ 200) where
  pub refused : (e : Fault) → outcome (length text) (items K text 0) begin ≡ Err e → Reading K text (Err e)
  refused e h = subst (λ r. Reading K text (rowed (length text) r)) h (reading_of K text short)

  pub fitting : (f : Rule) → outcome (length text) (items K text 0) begin ≡ Ok f → length (rows_of 0 f) ≤ 32 → Reading K text (Ok f)
  fitting f h l =
      subst (Reading K text) (cond-true (leb (length (rows_of 0 f)) 32) _ _ (le-leb _ 32 l))
      (subst (λ r. Reading K text (rowed (length text) r)) h (reading_of K text short))

  pub crowding : (f : Rule) → outcome (length text) (items K text 0) begin ≡ Ok f → 32 < length (rows_of 0 f) → Reading K text (Err (fault TooManyRows (length text)))
  crowding f h l =
      subst (Reading K text) (cond-false (leb (length (rows_of 0 f)) 32) _ _ (lt-leb _ 32 l))
      (subst (λ r. Reading K text (rowed (length text) r)) h (reading_of K text short))

  pub first_bad : (e : Fault) (rest : List Item) → items K text 0 ≡ bad e ∷ rest → Reading K text (Err e)
  unfolding outcome
  first_bad e rest h = refused e (ap (λ is. outcome (length text) is begin) h)

none_from_is_some : (o : Option Word) → is_some o ≡ false → o ≡ None
none_from_is_some None e = refl
none_from_is_some (Some v) e = cc

push_over : (ws rows : List Row) → None ≡ push_rows (Some rows) ws → length rows ≤ 32 → 32 < length rows + length ws
push_over [] rows e l = cc
push_over (w ∷ ws) rows e l = go (ltb (length rows) 32) refl (push_over ws (rows ++ (w ∷ []))) e
  where
    go : (b : Bool) → ltb (length rows) 32 ≡ b
        → (None ≡ push_rows (Some (rows ++ (w ∷ []))) ws → length (rows ++ (w ∷ [])) ≤ 32 → 32 < length (rows ++ (w ∷ [])) + length ws)
        → None ≡ push_rows (cond b (Some (rows ++ (w ∷ []))) None) ws → 32 < length rows + suc (length ws)
    go true t more h =
        let small = ltb-true (length rows) 32 t in
        let long = length-append rows (w ∷ []) in
        let rest : 32 < length (rows ++ (w ∷ [])) + length ws = more h (omega arith) in
        omega arith
    go false t more h = omega (arith, ltb-false (length rows) 32 t)

-- The whole text is read.
module _ (K : ℕ) (text : List ℕ) (short : length text ≤ 200) (a : Reader) (unread_is : items K text 0 ≡ unread a) (ends : end_of a ≡ length text) where
  pub rule_bad : (e : Fault) → ChoiceFails 32 a e → Reading K text (Err e)
  rule_bad e reads =
      refused K text short e (ap (λ is. outcome (length text) is begin) unread_is ∙ ap (λ i. outcome i (unread a) begin) (sym ends) ∙ reads nothing refl)

  module _ (b : Parser) (t : Option Table) (r : ℕ) (reads : ChoiceRead 32 (parser a t) b (Ok r)) where
    to_end : outcome (length text) (items K text 0) begin ≡ outcome (length text) (unread b.reader) (behind_part reads.0 reads.1 nothing)
    to_end =
        ap (λ is. outcome (length text) is begin) unread_is ∙ ap (λ i. outcome i (unread a) begin) (sym ends)
        ∙ reads.6 nothing refl
        ∙ ap (λ i. outcome i (unread b.reader) (behind_part reads.0 reads.1 nothing)) ends

    pub more_words : is_some b.reader.word ≡ true → Reading K text (Err (fault CannotFollow b.reader.start))
    more_words more = go (word_told b.reader.word)
      where
        go : (b.reader.word ≡ None) ⊎ ((v : Word) × (b.reader.word ≡ Some v)) → Reading K text (Err (fault CannotFollow b.reader.start))
        go (inl e) = absurd (true≢false (sym more ∙ ap is_some e))
        go (inr (v, e)) =
            refused K text short (fault CannotFollow b.reader.start)
            (to_end ∙ stuck (length text) b.reader v (behind_part reads.0 reads.1 nothing) e
            (only_closer reads.1 reads.0 nothing v (λ x. reads.4 (e ∙ ap Some x)) (λ x. reads.5 (e ∙ ap Some x)) (λ x. cc)))

    pub table_answered : rows_kept t ≡ Some [] → is_some b.reader.word ≡ false → Answer K text (ok_or b.table (fault TooManyRows (length text)))
    table_answered none all = go b.table reads.2.rows_are
      where
        f : Rule
        f = or_with reads.0 reads.1

        rule_is : outcome (length text) (items K text 0) begin ≡ Ok f
        rule_is = to_end ∙ at_none (length text) b.reader (behind_part reads.0 reads.1 nothing) (none_from_is_some b.reader.word all)

        go : (u : Option Table) → rows_kept u ≡ push_rows (rows_kept t) (rows_of (next_number (rows_kept t)) f)
            → Answer K text (ok_or u (fault TooManyRows (length text)))
        go None h =
            let over : 32 < length {A = Row} [] + length (rows_of 0 f) =
            push_over (rows_of 0 f) [] (h ∙ ap (λ k. push_rows k (rows_of (next_number k) f)) none) (omega arith) in
            crowding K text short f rule_is (omega (arith, over))
        go (Some u) h =
            let same : table_rows u ≡ rows_of 0 f =
            push_some (rows_of 0 f) [] (table_rows u) (h ∙ ap (λ k. push_rows k (rows_of (next_number k) f)) none) in
            let long = length-take-le u.len u.rows (omega (arith, u.few, u.sized)) in
            let count : length (rows_of 0 f) ≤ 32 = omega (arith, ap length same, u.few) in
            (f, fitting K text short f rule_is count, same)
