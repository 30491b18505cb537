-- Taking the words of a text comes to one thing only.
use Rattle.std.proofs.Common.{◌≡◌, ℕ, ◌≤◌, Bool, true, false, ◌&&◌, leb, ◌⊎◌, List, [], ◌∷◌, map, length, Some, None, Ok, Err, Option, Result, sym, refl, ap, ◌∙◌, subst, inl, inr, arith}
use Rattle.std.proofs.lemmas.List.{append-nil}
use Rattle.routing.specs.Rules.{Rule}
use Rattle.rule_text.specs.declared.word.Word.{Word}
use Rattle.rule_text.specs.Grammar.{IsRule, CanFollow}
use Rattle.rule_text.specs.Descent.{State, next_state, levels_at, rule_read, Item, item, item_of, outcome, moved, at_end, level_tested}
use Rattle.std.proofs.lemmas.Bool.{cond-true, cond-false, le-leb, lt-leb, and_from, and_right, cases_Bool}
use Rattle.rule_text.specs.declared.fault.Fault.{Fault}
use Rattle.rule_text.specs.declared.fault.FaultKind.{FaultKind}
use Rattle.rule_text.specs.declared.fault.FaultKind.TheVariants.{CannotFollow}
use Rattle.rule_text.specs.Faults.{fault}
use Rattle.rule_text.specs.Words.{word_of, tested}
use Rattle.rule_text.specs.Texts.{Placed}
use Rattle.rule_text.specs.Levels.{level, has_level}
use Rattle.rule_text.specs.Rows.{rows_of}
use Rattle.rule_text.specs.Reading.{Taking, refused, unfit, deep, taken, unfinished, crowded, fits, Reading, too_long, read}
use Rattle.rule_text.proofs.Accepts.{begin}
use Rattle.rule_text.proofs.Stands.{ends_as}
use Rattle.rule_text.proofs.Verdict.{Known, begin_known, known_more, level_is, follows, follows_not, rowed}

module _ (K end : ℕ) where
  at_kind : (before : List Word) (s : State) (p : Placed) (rest : List Item) (kind : FaultKind) → tested K (word_of p.bytes) ≡ Err kind
      → Err (fault kind p.at) ≡ rowed end (outcome end (item K p ∷ rest) s)
  unfolding outcome
  at_kind before s p rest kind e = sym (ap (λ t. rowed end (outcome end (item_of p.at t ∷ rest) s)) e)

  -- At a word that passes its first two tests.
  at_good : (s : State) (p : Placed) (rest : List Item) (w : Word) → tested K (word_of p.bytes) ≡ Ok w
      → rowed end (outcome end (item K p ∷ rest) s) ≡ rowed end (moved p.at (has_level w && leb 32 (levels_at s)) (next_state s w) (outcome end rest))
  unfolding outcome
  at_good s p rest w e = ap (λ t. rowed end (outcome end (item_of p.at t ∷ rest) s)) e

  state_told : (o : Option State) → (o ≡ None) ⊎ ((s : State) × (o ≡ Some s))
  state_told None = inl refl
  state_told (Some s) = inr (s, refl)

  rule_told : (o : Option Rule) → (o ≡ None) ⊎ ((f : Rule) × (o ≡ Some f))
  rule_told None = inl refl
  rule_told (Some f) = inr (f, refl)

  unfit_once : (before : List Word) (s : State) (p : Placed) (rest : List Item) (w : Word) → Known before s → tested K (word_of p.bytes) ≡ Ok w → ¬ (CanFollow before w)
      → Err (fault CannotFollow p.at) ≡ rowed end (outcome end (item K p ∷ rest) s)
  unfit_once before s p rest w k t n = go (state_told (next_state s w))
    where
      go : (next_state s w ≡ None) ⊎ ((s' : State) × (next_state s w ≡ Some s')) → Err (fault CannotFollow p.at) ≡ rowed end (outcome end (item K p ∷ rest) s)
      go (inl e) = sym (at_good s p rest w t ∙ ap (λ o. rowed end (moved p.at (has_level w && leb 32 (levels_at s)) o (outcome end rest))) e)
      go (inr (s', e)) = absurd (n (follows before s s' w k e))

  follows_to : (before : List Word) (s : State) (w : Word) → Known before s → CanFollow before w → (s' : State) × (next_state s w ≡ Some s')
  follows_to before s w k f = go (state_told (next_state s w))
    where
      go : (next_state s w ≡ None) ⊎ ((s' : State) × (next_state s w ≡ Some s')) → (s' : State) × (next_state s w ≡ Some s')
      go (inl e) = absurd (follows_not before s w k e f)
      go (inr h) = h

  step_once : (before : List Word) (s s' : State) (p : Placed) (rest : List Item) (w : Word) (b : Bool) → tested K (word_of p.bytes) ≡ Ok w → next_state s w ≡ Some s'
      → (has_level w && leb 32 (levels_at s)) ≡ b → rowed end (outcome end (item K p ∷ rest) s) ≡ rowed end (level_tested b p.at (outcome end rest s'))
  step_once before s s' p rest w b t e h =
      at_good s p rest w t
      ∙ ap (λ o. rowed end (moved p.at (has_level w && leb 32 (levels_at s)) o (outcome end rest))) e
      ∙ ap (λ c. rowed end (level_tested c p.at (outcome end rest s'))) h

  low : (before : List Word) (s : State) (w : Word) → Known before s → (has_level w ≡ true → level before ≤ 32) → (has_level w && leb 32 (levels_at s)) ≡ false
  low before s w k h = go (cases_Bool (has_level w))
    where
      go : (has_level w ≡ true) ⊎ (has_level w ≡ false) → (has_level w && leb 32 (levels_at s)) ≡ false
      go (inl e) = and_right (has_level w) (leb 32 (levels_at s)) (lt-leb 32 (levels_at s) (omega (arith, h e, level_is before s k)))
      go (inr e) = ap (λ b. b && leb 32 (levels_at s)) e

  pub once : {before : List Word} {ps : List Placed} {r : Result Rule Fault} → Taking K end before ps r → (s : State) → Known before s
      → r ≡ rowed end (outcome end (map (item K) ps) s)
  unfolding outcome
  once (refused before p ps kind e) s k = at_kind before s p (map (item K) ps) kind e
  once (unfit before p ps w t n) s k = unfit_once before s p (map (item K) ps) w k t n
  once (deep before p ps w t f h l) s k =
      let next = follows_to before s w k f in
      sym (step_once before s next.0 p (map (item K) ps) w true t next.1
      (and_from (has_level w) (leb 32 (levels_at s)) h (le-leb 32 (levels_at s) (omega (arith, level_is before s k)))))
  once (taken before p ps w r t f h d) s k =
      let next = follows_to before s w k f in
      once d next.0 (known_more before s next.0 w k next.1)
      ∙ sym (step_once before s next.0 p (map (item K) ps) w false t next.1 (low before s w k h))
  once (unfinished before n) s k = go (rule_told (rule_read s))
    where
      go : (rule_read s ≡ None) ⊎ ((f : Rule) × (rule_read s ≡ Some f)) → Err (fault CannotFollow end) ≡ rowed end (at_end end (rule_read s))
      go (inl e) = sym (ap (λ o. rowed end (at_end end o)) e)
      go (inr (f, e)) = absurd (n f (ends_as s before f k.stands e))
  once (crowded before f d l) s k =
      let is : rule_read s ≡ Some f = k.whole_rules [] f (subst (λ v. IsRule v f) (sym (append-nil before)) d) in
      sym (ap (λ o. rowed end (at_end end o)) is ∙ cond-false (leb (length (rows_of 0 f)) 32) _ _ (lt-leb _ 32 l))
  once (fits before f d l) s k =
      let is : rule_read s ≡ Some f = k.whole_rules [] f (subst (λ v. IsRule v f) (sym (append-nil before)) d) in
      sym (ap (λ o. rowed end (at_end end o)) is ∙ cond-true (leb (length (rows_of 0 f)) 32) _ _ (le-leb _ 32 l))

-- A text has one reading.
pub reading_once : (K : ℕ) (text : List ℕ) (r q : Result Rule Fault) → Reading K text r → Reading K text q → r ≡ q
reading_once K text _ _ (too_long _ l) (too_long _ m) = refl
reading_once K text _ q (too_long _ l) (read _ _ h d) = absurd (omega arith)
reading_once K text r _ (read _ _ h d) (too_long _ l) = absurd (omega arith)
reading_once K text r q (read _ _ h d) (read _ _ i e) = once K (length text) d begin begin_known ∙ sym (once K (length text) e begin begin_known)
