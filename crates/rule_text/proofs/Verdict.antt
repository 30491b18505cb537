-- What the reader comes to is what taking the words one by one comes to.
use Rattle.std.proofs.Common.{◌≡◌, ℕ, suc, ◌≤◌, Bool, true, false, cond, ◌&&◌, leb, List, [], ◌∷◌, ◌++◌, map, length, Some, None, Ok, Err, Option, Result, sym, refl, ap, ◌∙◌, subst, inl, inr, arith}
use Rattle.std.proofs.lemmas.List.{append_assoc, append-nil}
use Rattle.std.specs.Option.{option_and_then}
use Rattle.routing.specs.Rules.{Rule}
use Rattle.rule_text.specs.declared.word.Word.{Word}
use Rattle.rule_text.specs.Grammar.{IsRule, CanFollow}
use Rattle.rule_text.specs.Descent.{State, next_state, levels_at, rule_read, item, item_of, items, outcome, moved, at_end, level_tested}
use Rattle.std.proofs.lemmas.List.Sums.{fold-append}
use Rattle.std.proofs.lemmas.Bool.{leb-true, leb-false, and_parts, and_cases, true≢false}
use Rattle.rule_text.specs.declared.fault.Fault.{Fault}
use Rattle.rule_text.specs.declared.fault.FaultKind.{FaultKind}
use Rattle.rule_text.specs.declared.fault.FaultKind.TheVariants.{TooManyRows}
use Rattle.rule_text.specs.Faults.{fault}
use Rattle.rule_text.specs.Words.{word_of, tested}
use Rattle.rule_text.specs.Texts.{Placed, words_from}
use Rattle.rule_text.specs.Levels.{behind, behind_all, level, has_level}
use Rattle.rule_text.specs.Rows.{rows_of}
use Rattle.rule_text.specs.Reading.{Taking, refused, unfit, deep, taken, unfinished, crowded, fits, Reading, read}
use Rattle.rule_text.proofs.Accepts.{accepts, begin, accepted_as}
use Rattle.rule_text.proofs.Stands.{Stands, StandsAt, stands_more, ends_as, begins, levels, LevelsAt, levels_more, length_levels}

-- What the words before tell of a state.
pub record Known (before : List Word) (s : State) : Type 0 where
  pub stands : Stands s before
  pub whole_rules : (rest : List Word) (f : Rule) → IsRule (before ++ rest) f → accepts rest s ≡ Some f
  pub open_levels : behind_all [] before ≡ levels s

pub begin_known : Known [] begin
begin_known = record { stands = refl; whole_rules = accepted_as; open_levels = refl }

pub known_more : (before : List Word) (s s' : State) (w : Word) → Known before s → next_state s w ≡ Some s' → Known (before ++ (w ∷ [])) s'
known_more before s s' w k e = record {
  stands = subst (λ q. StandsAt q (before ++ (w ∷ []))) e (stands_more s w before k.stands);
  whole_rules = λ rest f d.
      ap (λ q. option_and_then (accepts rest) q) (sym e) ∙ k.whole_rules (w ∷ rest) f (subst (λ v. IsRule v f) (append_assoc before (w ∷ []) rest) d);
  open_levels = fold-append behind [] before (w ∷ []) ∙ ap (λ q. behind q w) k.open_levels ∙ subst (λ q. LevelsAt q (behind (levels s) w)) e (levels_more s w);
}

pub level_is : (before : List Word) (s : State) → Known before s → level before ≡ suc (levels_at s)
level_is before s k = ap suc (ap length k.open_levels ∙ length_levels s)

pub follows : (before : List Word) (s s' : State) (w : Word) → Known before s → next_state s w ≡ Some s' → CanFollow before w
follows before s s' w k e =
    let (rest, f, d) = begins s' (before ++ (w ∷ [])) (known_more before s s' w k e).stands in
    (rest, f, subst (λ v. IsRule v f) (append_assoc before (w ∷ []) rest) d)

pub follows_not : (before : List Word) (s : State) (w : Word) → Known before s → next_state s w ≡ None → ¬ (CanFollow before w)
follows_not before s w k e (rest, f, d) =
    let none : None ≡ Some f = ap (λ q. option_and_then (accepts rest) q) (sym e) ∙ k.whole_rules (w ∷ rest) f d in
    cc

pub no_rule : (before : List Word) (s : State) → Known before s → rule_read s ≡ None → (f : Rule) → ¬ (IsRule before f)
no_rule before s k e f d =
    let none : None ≡ Some f = sym e ∙ k.whole_rules [] f (subst (λ v. IsRule v f) (sym (append-nil before)) d) in
    cc

-- The test of the rows comes last.
abbrev pub rowed : ℕ → Result Rule Fault → Result Rule Fault
rowed end (Ok f) = cond (leb (length (rows_of 0 f)) 32) (Ok f) (Err (fault TooManyRows end))
rowed end (Err e) = Err e

module _ (K end : ℕ) where
  ends : (before : List Word) (s : State) → Known before s → Taking K end before [] (rowed end (at_end end (rule_read s)))
  ends before s k = go (rule_read s) refl
    where
      rows : (f : Rule) → IsRule before f → (b : Bool) → leb (length (rows_of 0 f)) 32 ≡ b → Taking K end before [] (cond b (Ok f) (Err (fault TooManyRows end)))
      rows f d true e = fits before f d (leb-true _ 32 e)
      rows f d false e = crowded before f d (leb-false _ 32 e)

      go : (o : Option Rule) → rule_read s ≡ o → Taking K end before [] (rowed end (at_end end o))
      go None e = unfinished before (no_rule before s k e)
      go (Some f) e = rows f (ends_as s before f k.stands e) (leb (length (rows_of 0 f)) 32) refl

  goes : (ps : List Placed) (before : List Word) (s : State) (p : Placed) (w : Word) → Known before s → tested K (word_of p.bytes) ≡ Ok w
      → ((b : List Word) (s' : State) → Known b s' → Taking K end b ps (rowed end (outcome end (map (item K) ps) s')))
      → (o : Option State) → next_state s w ≡ o
      → Taking K end before (p ∷ ps) (rowed end (moved p.at (has_level w && leb 32 (levels_at s)) o (outcome end (map (item K) ps))))
  goes ps before s p w k t next None e = unfit before p ps w t (follows_not before s w k e)
  goes ps before s p w k t next (Some s') e = go (has_level w && leb 32 (levels_at s)) refl
    where
      go : (b : Bool) → (has_level w && leb 32 (levels_at s)) ≡ b
          → Taking K end before (p ∷ ps) (rowed end (level_tested b p.at (outcome end (map (item K) ps) s')))
      go true h =
          let parts = and_parts (has_level w) (leb 32 (levels_at s)) h in
          deep before p ps w t (follows before s s' w k e) parts.0 (omega (arith, leb-true 32 (levels_at s) parts.1, level_is before s k))
      go false h =
          taken before p ps w (rowed end (outcome end (map (item K) ps) s')) t (follows before s s' w k e)
          (λ l. elim (and_cases (has_level w) (leb 32 (levels_at s)) h) [
            | inl n ↦ absurd (true≢false (sym l ∙ n))
            | inr n ↦ omega (arith, leb-false 32 (levels_at s) n, level_is before s k)
          ])
          (next (before ++ (w ∷ [])) s' (known_more before s s' w k e))

  -- What the reader comes to.
  pub verdict : (ps : List Placed) (before : List Word) (s : State) → Known before s → Taking K end before ps (rowed end (outcome end (map (item K) ps) s))
  unfolding outcome
  verdict [] before s k = ends before s k
  verdict (p ∷ ps) before s k = go (verdict ps) (tested K (word_of p.bytes)) refl
    where
      go : ((b : List Word) (s' : State) → Known b s' → Taking K end b ps (rowed end (outcome end (map (item K) ps) s')))
          → (t : Result Word FaultKind) → tested K (word_of p.bytes) ≡ t
          → Taking K end before (p ∷ ps) (rowed end (outcome end (item_of p.at t ∷ map (item K) ps) s))
      go next (Err kind) e = refused before p ps kind e
      go next (Ok w) e = goes ps before s p w k e next (next_state s w) refl

-- Every text comes to something.
pub reading_of : (K : ℕ) (text : List ℕ) → length text ≤ 200 → Reading K text (rowed (length text) (outcome (length text) (items K text 0) begin))
reading_of K text h = read text _ h (verdict K (length text) (words_from 0 text) [] begin begin_known)
