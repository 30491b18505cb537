-- What the public contracts claim.
use Rattle.std.proofs.Common.{◌≡◌, ℕ, ◌<◌, ◌≤◌, true, ◌⊎◌, ◌↔◌, List, [], ◌∷◌, ◌++◌, length, IfOk, Some, Ok, Err, Result, sym, refl, ap, ◌∙◌, subst, inl, inr}
use Rattle.std.proofs.lemmas.List.{append_assoc, append-nil}
use Rattle.std.proofs.lemmas.Bool.{and_from, and_parts, cases_lt, cond-true}
use Rattle.routing.specs.Rules.{Rule, Means}
use Rattle.tables.specs.Tables.{accepted}
use Rattle.rule_text.specs.declared.word.Word.{Word}
use Rattle.rule_text.specs.Grammar.{IsRule, Spelled, Says}
use Rattle.rule_text.specs.declared.fault.Fault.{Fault}
use Rattle.rule_text.specs.declared.table.Table.{Table}
use Rattle.rule_text.specs.Words.{in_range, word_of, tested}
use Rattle.rule_text.specs.Texts.{Placed, words_from}
use Rattle.rule_text.specs.Brackets.{all_in_range}
use Rattle.rule_text.specs.Levels.{has_level, level}
use Rattle.rule_text.specs.Rows.{rows_of}
use Rattle.rule_text.specs.Reading.{Taking, refused, unfit, deep, taken, unfinished, crowded, fits, Reading, too_long, read, Answer, Fits, LevelsFit, table_rows, StandsFor}
use Rattle.rule_text.proofs.Accepts.{one_rule}
use Rattle.rule_text.proofs.Alike.{alike}
use Rattle.rule_text.proofs.Fitting.{read_accepted, tested_ok}
use Rattle.rule_text.proofs.Grown.{table_rule}
use Rattle.rule_text.proofs.Once.{reading_once}
use Rattle.rule_text.proofs.Verdict.{reading_of}

-- The table of a rule stands for it.
stands_for : (f : Rule) → StandsFor (rows_of 0 f) f
stands_for f N x w = subst (λ g. Means N f x ↔ Means N g x) (sym (table_rule f)) (alike N f x w)

pub means_from : (K : ℕ) (text : List ℕ) (r : Result Table Fault) → Answer K text r → IfOk r (λ t. (f : Rule) → Reading K text (Ok f) → StandsFor (table_rows t) f)
means_from K text (Ok t) (g, d, e) = λ f h.
    let both_read : Ok f ≡ Ok g = reading_once K text (Ok f) (Ok g) h d in
    let same : g ≡ f = cc in
    subst (λ rows. StandsFor rows f) (sym e) (subst (λ q. StandsFor (rows_of 0 q) f) (sym same) (stands_for f))
means_from K text (Err e) h = tt

pub accepted_from : (K : ℕ) (text : List ℕ) (r : Result Table Fault) → Answer K text r → IfOk r (λ t. accepted K (table_rows t) ≡ true)
accepted_from K text (Ok t) (g, d, e) = subst (λ rows. accepted K rows ≡ true) (sym e) (read_accepted K text g d)
accepted_from K text (Err e) h = tt

-- The words that bytes spell are the only ones.
spelled_once : (ps : List Placed) (us vs : List Word) → Spelled ps us → Spelled ps vs → us ≡ vs
spelled_once [] us vs h k = h ∙ sym k
spelled_once (p ∷ ps) us vs (u, us', e, a, h) (v, vs', f, b, k) =
    let same : Some u ≡ Some v = sym a ∙ b in
    let word : u ≡ v = cc in
    e ∙ ap (λ w. w ∷ us') word ∙ ap (λ w. v ∷ w) (spelled_once ps us' vs' h k) ∙ sym f

pub text_once : (text : List ℕ) (f g : Rule) → Says text f → Says text g → f ≡ g
text_once text f g (us, h, d) (vs, k, e) = one_rule us f g d (subst (λ w. IsRule w g) (sym (spelled_once (words_from 0 text) us vs h k)) e)

pub decided : (K : ℕ) (text : List ℕ) → (r : Result Rule Fault) × Reading K text r × ((q : Result Rule Fault) → Reading K text q → q ≡ r)
decided K text = go (cases_lt 200 (length text))
  where
    by : (r : Result Rule Fault) → Reading K text r → (r : Result Rule Fault) × Reading K text r × ((q : Result Rule Fault) → Reading K text q → q ≡ r)
    by r d = (r, d, λ q e. reading_once K text q r e d)

    go : (200 < length text) ⊎ (length text ≤ 200) → (r : Result Rule Fault) × Reading K text r × ((q : Result Rule Fault) → Reading K text q → q ≡ r)
    go (inl h) = by _ (too_long text h)
    go (inr h) = by _ (reading_of K text h)

-- The words behind those taken, of a rule that is read.
abbrev Rest : ℕ → List Word → List Placed → Result Rule Fault → Type 0
Rest K before ps (Ok f) =
    (vs : List Word) × Spelled ps vs × IsRule (before ++ vs) f × (all_in_range K vs ≡ true) × LevelsFit before vs × (length (rows_of 0 f) ≤ 32)
Rest K before ps (Err e) = Unit {0}

rest_more : (K : ℕ) (before : List Word) (p : Placed) (ps : List Placed) (w : Word) (r : Result Rule Fault) → word_of p.bytes ≡ Some w → in_range K w ≡ true
    → (has_level w ≡ true → level before ≤ 32) → Rest K (before ++ (w ∷ [])) ps r → Rest K before (p ∷ ps) r
rest_more K before p ps w (Ok f) e i l (vs, h, d, all, low, few) =
    (w ∷ vs, (w, vs, refl, e, h), subst (λ v. IsRule v f) (append_assoc before (w ∷ []) vs) d, and_from (in_range K w) (all_in_range K vs) i all, (l, low), few)
rest_more K before p ps w (Err x) e i l h = tt

rest : (K end : ℕ) {before : List Word} {ps : List Placed} {r : Result Rule Fault} → Taking K end before ps r → Rest K before ps r
rest K end (refused before p ps kind e) = tt
rest K end (unfit before p ps w t n) = tt
rest K end (deep before p ps w t f h l) = tt
rest K end (taken before p ps w r t f h d) =
    rest_more K before p ps w r (tested_ok K (word_of p.bytes) w t).0 (tested_ok K (word_of p.bytes) w t).1 h (rest K end d)
rest K end (unfinished before n) = tt
rest K end (crowded before f d l) = tt
rest K end (fits before f d l) = ([], refl, subst (λ v. IsRule v f) (sym (append-nil before)) d, refl, tt, l)

-- Words that keep to every limit are taken to the end.
module _ (K end : ℕ) (f : Rule) (few : length (rows_of 0 f) ≤ 32) where
  takes : (ps : List Placed) (before vs : List Word) → Spelled ps vs → IsRule (before ++ vs) f → all_in_range K vs ≡ true → LevelsFit before vs → Taking K end before ps (Ok f)
  takes [] before vs e d all low = fits before f (subst (λ v. IsRule v f) (ap (λ v. before ++ v) e ∙ append-nil before) d) few
  takes (p ∷ ps) before vs (w, ws, e, is, h) d all low =
      let parts = and_parts (in_range K w) (all_in_range K ws) (subst (λ v. all_in_range K v ≡ true) e all) in
      let levels : LevelsFit before (w ∷ ws) = subst (LevelsFit before) e low in
      let rule : IsRule (before ++ (w ∷ ws)) f = subst (λ v. IsRule (before ++ v) f) e d in
      taken before p ps w (Ok f) (ap (tested K) is ∙ cond-true (in_range K w) _ _ parts.0) (ws, f, rule) levels.0
      (takes ps (before ++ (w ∷ [])) ws h (subst (λ v. IsRule v f) (sym (append_assoc before (w ∷ []) ws)) rule) parts.1 levels.1)

pub exact : (K : ℕ) (text : List ℕ) (f : Rule) → Reading K text (Ok f) ↔ Fits K text f
exact K text f = (to, from)
  where
    to : Reading K text (Ok f) → Fits K text f
    to (read _ _ l d) =
        let (ws, h, is, all, low, few) = rest K (length text) d in
        record { short = l; words = ws; spelled = h; rule = is; numbers = all; levels = low; rows = few }

    from : Fits K text f → Reading K text (Ok f)
    from h = read text (Ok f) h.short (takes K (length text) f h.rows (words_from 0 text) [] h.words h.spelled h.rule h.numbers h.levels)
