-- The tables that are read are such as judging takes.
use Rattle.std.proofs.Common.{ap, ◌∙◌, ◌≡◌, ℕ, suc, ◌+◌, ◌<◌, ◌≤◌, Bool, true, false, cond, ◌&&◌, ltb, leb, List, [], ◌∷◌, ◌++◌, length, Some, None, Ok, Err, Option, Result, sym, refl, subst, arith}
use Rattle.routing.specs.Rules.{Rule, truth, mark, condition, non, both, either, ex, eu, eg, ef, ax, au, ag, af}
use Rattle.rule_text.specs.declared.word.Prefix.{Prefix}
use Rattle.rule_text.specs.declared.word.Quantifier.{Quantifier}
use Rattle.rule_text.specs.declared.word.Word.{Word}
use Rattle.rule_text.specs.declared.word.Word.TheVariants.{Until, And, Or, Close, CloseSquare}
use Rattle.rule_text.specs.Grammar.{prefix_rule, until_rule, Strength, Forms, yes_word, mark_word, condition_word, prefixed, bracketed, until, single, and_words, alone, or_words, IsRule}
use Rattle.std.proofs.lemmas.List.Folds.{list_all-append}
use Rattle.std.proofs.lemmas.Bool.{and_parts, and_from, lt-ltb, le-leb, ltb-true}
use Rattle.tables.specs.declared.row.Row.{Row}
use Rattle.tables.specs.declared.row.Operation.TheVariants.{Not as NotRow, Until as UntilRow}
use Rattle.tables.specs.Tables.{coded, row_fits, rows_fit, accepted}
use Rattle.rule_text.specs.declared.fault.Fault.{Fault}
use Rattle.rule_text.specs.declared.fault.FaultKind.TheVariants.{OutOfRange}
use Rattle.rule_text.specs.declared.word.Prefix.TheVariants.{Not, Ex, Ax, Ef, Af, Eg, Ag}
use Rattle.rule_text.specs.declared.word.Quantifier.TheVariants.{Exists, Forall}
use Rattle.rule_text.specs.Words.{in_range, word_of, tested}
use Rattle.rule_text.specs.Texts.{Placed}
use Rattle.rule_text.specs.Brackets.{all_in_range, rule_in_range}
use Rattle.rule_text.specs.Rows.{root, rows_of, until_rows}
use Rattle.rule_text.specs.Reading.{Taking, refused, unfit, deep, taken, unfinished, crowded, fits, Reading, read}
use Rattle.rule_text.proofs.Emitted.{root_len}
use Rattle.rule_text.proofs.Grown.{root_from}

in_append : (K : ℕ) (us ws : List Word) → all_in_range K (us ++ ws) ≡ true → (all_in_range K us ≡ true) × (all_in_range K ws ≡ true)
in_append K us ws h = and_parts (all_in_range K us) (all_in_range K ws) (sym (list_all-append (in_range K) us ws) ∙ h)

pub in_both : (K : ℕ) (us ws : List Word) → all_in_range K us ≡ true → all_in_range K ws ≡ true → all_in_range K (us ++ ws) ≡ true
in_both K us ws h k = list_all-append (in_range K) us ws ∙ and_from (all_in_range K us) (all_in_range K ws) h k

prefix_in : (K : ℕ) (x : Prefix) (p : Rule) → rule_in_range K p ≡ true → rule_in_range K (prefix_rule x p) ≡ true
prefix_in K Not p h = h
prefix_in K Ex p h = h
prefix_in K Ax p h = h
prefix_in K Ef p h = h
prefix_in K Af p h = h
prefix_in K Eg p h = h
prefix_in K Ag p h = h

until_in : (K : ℕ) (k : Quantifier) (p q : Rule) → rule_in_range K p ≡ true → rule_in_range K q ≡ true → rule_in_range K (until_rule k p q) ≡ true
until_in K Exists p q h g = and_from (rule_in_range K p) (rule_in_range K q) h g
until_in K Forall p q h g = and_from (rule_in_range K p) (rule_in_range K q) h g

-- Words in range make a rule in range.
rule_in : (K : ℕ) {st : Strength} {ws : List Word} {f : Rule} → Forms st ws f → all_in_range K ws ≡ true → rule_in_range K f ≡ true
rule_in K yes_word h = refl
rule_in K (mark_word k) h = (and_parts (ltb k 32) true h).0
rule_in K (condition_word k) h = (and_parts (ltb k K) true h).0
rule_in K (prefixed x ws p d) h = prefix_in K x p (rule_in K d h)
rule_in K (bracketed ws p d) h = rule_in K d (in_append K ws (Close ∷ []) h).0
rule_in K (until k ws vs p r d e) h =
    let a = in_append K ws (Until ∷ (vs ++ (CloseSquare ∷ []))) h in
    until_in K k p r (rule_in K d a.0) (rule_in K e (in_append K vs (CloseSquare ∷ []) a.1).0)
rule_in K (single ws p d) h = rule_in K d h
rule_in K (and_words ws vs p q d e) h =
    let a = in_append K ws (And ∷ vs) h in and_from (rule_in_range K p) (rule_in_range K q) (rule_in K d a.0) (rule_in K e a.1)
rule_in K (alone ws p d) h = rule_in K d h
rule_in K (or_words ws vs p q d e) h =
    let a = in_append K ws (Or ∷ vs) h in and_from (rule_in_range K p) (rule_in_range K q) (rule_in K d a.0) (rule_in K e a.1)

pub tested_ok : (K : ℕ) (o : Option Word) (w : Word) → tested K o ≡ Ok w → (o ≡ Some w) × (in_range K w ≡ true)
tested_ok K None w e = cc
tested_ok K (Some v) w e = go (in_range K v) refl e
  where
    go : (b : Bool) → in_range K v ≡ b → cond b (Ok v) (Err OutOfRange) ≡ Ok w → (Some v ≡ Some w) × (in_range K w ≡ true)
    go true h q = let same : v ≡ w = cc in (ap Some same, subst (λ u. in_range K u ≡ true) same h)
    go false h q = cc

-- The words of a rule that is read.
abbrev ReadWords : ℕ → Result Rule Fault → Type 0
ReadWords K (Ok f) = (ws : List Word) × IsRule ws f × (all_in_range K ws ≡ true) × (length (rows_of 0 f) ≤ 32)
ReadWords K (Err e) = Unit {0}

read_words : (K end : ℕ) {before : List Word} {ps : List Placed} {r : Result Rule Fault} → Taking K end before ps r → all_in_range K before ≡ true → ReadWords K r
read_words K end (refused before p ps kind e) h = tt
read_words K end (unfit before p ps w t n) h = tt
read_words K end (deep before p ps w t f l m) h = tt
read_words K end (taken before p ps w r t f l d) h =
    read_words K end d (in_both K before (w ∷ []) h (and_from (in_range K w) true (tested_ok K (word_of p.bytes) w t).1 refl))
read_words K end (unfinished before n) h = tt
read_words K end (crowded before f d l) h = tt
read_words K end (fits before f d l) h = (before, d, h, l)

-- Rows of each operation fit where their operands are earlier.
module _ (K : ℕ) where
  fit_append : (i : ℕ) (us ws : List Row) → rows_fit K i us ≡ true → rows_fit K (i + length us) ws ≡ true → rows_fit K i (us ++ ws) ≡ true
  fit_append i [] ws h g = let same : i + 0 ≡ i = omega arith in subst (λ j. rows_fit K j ws ≡ true) same g
  fit_append i (u ∷ us) ws h g =
      let a = and_parts (row_fits K i u) (rows_fit K (suc i) us) h in
      let same : i + suc (length us) ≡ suc i + length us = omega arith in
      and_from (row_fits K i u) (rows_fit K (suc i) (us ++ ws)) a.0 (fit_append (suc i) us ws a.1 (subst (λ j. rows_fit K j ws ≡ true) same g))

  fit_behind : (n : ℕ) (p : Rule) (ws : List Row) → rows_fit K n (rows_of n p) ≡ true → rows_fit K (root n p + 1) ws ≡ true → rows_fit K n (rows_of n p ++ ws) ≡ true
  fit_behind n p ws h g = fit_append n (rows_of n p) ws h (subst (λ j. rows_fit K j ws ≡ true) (sym (root_len n p)) g)

  together : {x y : Bool} → x ≡ true → y ≡ true → (x && y) ≡ true
  together {x} {y} h g = and_from x y h g

  one_fits : (i a : ℕ) → a < i → (ltb a i && true) ≡ true
  one_fits i a h = and_from (ltb a i) true (lt-ltb a i h) refl

  two_fit : (i a b : ℕ) → a < i → b < i → (ltb a i && ltb b i) ≡ true
  two_fit i a b h g = and_from (ltb a i) (ltb b i) (lt-ltb a i h) (lt-ltb b i g)

  seven_fit : (p q n : ℕ) → p < n → q < n → rows_fit K n (until_rows p q n) ≡ true
  seven_fit p q n h g =
      together (one_fits n p h)
      (together (one_fits (suc n) q (omega arith))
      (together (two_fit (suc (suc n)) n (n + 1) (omega arith) (omega arith))
      (together (two_fit (suc (suc (suc n))) (n + 1) (n + 2) (omega arith) (omega arith))
      (together (one_fits (suc (suc (suc (suc n)))) (n + 1) (omega arith))
      (together (two_fit (suc (suc (suc (suc (suc n))))) (n + 3) (n + 4) (omega arith) (omega arith))
      (together (one_fits (suc (suc (suc (suc (suc (suc n)))))) (n + 5) (omega arith)) refl))))))

  rule_fits : (f : Rule) (n : ℕ) → rule_in_range K f ≡ true → rows_fit K n (rows_of n f) ≡ true
  unfolding rows_of
  rule_fits truth n h = refl
  rule_fits (mark k) n h = together (and_from (leb k 31) true (le-leb k 31 (omega (arith, ltb-true k 32 h))) refl) refl
  rule_fits (condition k) n h = together (and_from (ltb k K) true h refl) refl
  rule_fits (non p) n h = fit_behind n p _ (rule_fits p n h) (together (one_fits (root n p + 1) (root n p) (omega arith)) refl)
  rule_fits (both p q) n h =
      let a = and_parts (rule_in_range K p) (rule_in_range K q) h in
      let low = root_from (root n p + 1) q in
      fit_behind n p _ (rule_fits p n a.0) (fit_behind (root n p + 1) q _ (rule_fits q (root n p + 1) a.1)
      (together (two_fit (root (root n p + 1) q + 1) (root n p) (root (root n p + 1) q) (omega arith) (omega arith)) refl))
  rule_fits (either p q) n h =
      let a = and_parts (rule_in_range K p) (rule_in_range K q) h in
      let low = root_from (root n p + 1) q in
      fit_behind n p _ (rule_fits p n a.0) (fit_behind (root n p + 1) q _ (rule_fits q (root n p + 1) a.1)
      (together (two_fit (root (root n p + 1) q + 1) (root n p) (root (root n p + 1) q) (omega arith) (omega arith)) refl))
  rule_fits (ex p) n h = fit_behind n p _ (rule_fits p n h) (together (one_fits (root n p + 1) (root n p) (omega arith)) refl)
  rule_fits (eu p q) n h =
      let a = and_parts (rule_in_range K p) (rule_in_range K q) h in
      let low = root_from (root n p + 1) q in
      fit_behind n p _ (rule_fits p n a.0) (fit_behind (root n p + 1) q _ (rule_fits q (root n p + 1) a.1)
      (together (two_fit (root (root n p + 1) q + 1) (root n p) (root (root n p + 1) q) (omega arith) (omega arith)) refl))
  rule_fits (eg p) n h = fit_behind n p _ (rule_fits p n h) (together (one_fits (root n p + 1) (root n p) (omega arith)) refl)
  rule_fits (ef p) n h =
      let one_more : suc n ≡ n + 1 = omega arith in
      let low = root_from (n + 1) p in
      together refl (subst (λ j. rows_fit K j (rows_of (n + 1) p ++ (coded (UntilRow n (root (n + 1) p)) ∷ [])) ≡ true) (sym one_more)
      (fit_behind (n + 1) p _ (rule_fits p (n + 1) h) (together (two_fit (root (n + 1) p + 1) n (root (n + 1) p) (omega arith) (omega arith)) refl)))
  rule_fits (ax p) n h =
      fit_behind n p _ (rule_fits p n h)
      (together (one_fits (root n p + 1) (root n p) (omega arith))
      (together (one_fits (suc (root n p + 1)) (root n p + 1) (omega arith))
      (together (one_fits (suc (suc (root n p + 1))) (root n p + 2) (omega arith)) refl)))
  rule_fits (au p q) n h =
      let a = and_parts (rule_in_range K p) (rule_in_range K q) h in
      let low = root_from (root n p + 1) q in
      fit_behind n p _ (rule_fits p n a.0) (fit_behind (root n p + 1) q _ (rule_fits q (root n p + 1) a.1)
      (seven_fit (root n p) (root (root n p + 1) q) (root (root n p + 1) q + 1) (omega arith) (omega arith)))
  rule_fits (ag p) n h =
      let one_more : suc n ≡ n + 1 = omega arith in
      let low = root_from (n + 1) p in
      let r = root (n + 1) p in
      together refl (subst (λ j. rows_fit K j (rows_of (n + 1) p ++ (coded (NotRow r) ∷ coded (UntilRow n (r + 1)) ∷ coded (NotRow (r + 2)) ∷ [])) ≡ true) (sym one_more)
      (fit_behind (n + 1) p _ (rule_fits p (n + 1) h)
      (together (one_fits (r + 1) r (omega arith))
      (together (two_fit (suc (r + 1)) n (r + 1) (omega arith) (omega arith))
      (together (one_fits (suc (suc (r + 1))) (r + 2) (omega arith)) refl)))))
  rule_fits (af p) n h =
      fit_behind n p _ (rule_fits p n h)
      (together (one_fits (root n p + 1) (root n p) (omega arith))
      (together (one_fits (suc (root n p + 1)) (root n p + 1) (omega arith))
      (together (one_fits (suc (suc (root n p + 1))) (root n p + 2) (omega arith)) refl)))

-- The table of a rule that is read is accepted.
pub read_accepted : (K : ℕ) (text : List ℕ) (f : Rule) → Reading K text (Ok f) → accepted K (rows_of 0 f) ≡ true
read_accepted K text f (read _ _ l d) =
    let (ws, is, all, few) = read_words K (length text) d refl in
    let long = root_len 0 f in
    and_from (ltb 0 (length (rows_of 0 f))) _ (lt-ltb 0 (length (rows_of 0 f)) (omega arith))
    (and_from (leb (length (rows_of 0 f)) 32) _ (le-leb _ 32 few) (rule_fits K f 0 (rule_in K is all)))
