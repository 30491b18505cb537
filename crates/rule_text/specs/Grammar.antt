-- The grammar: which words are which rule.
use Rattle.std.specs.Prelude.{◌≡◌, ℕ, List, [], ◌∷◌, ◌++◌, Some}
use Rattle.routing.specs.Rules.{Rule, truth, mark, condition, non, both, either, ex, eu, eg, ef, ax, au, ag, af}
use Rattle.rule_text.specs.declared.word.Prefix.{Prefix}
use Rattle.rule_text.specs.declared.word.Prefix.TheVariants.{Not, Ex, Ax, Ef, Af, Eg, Ag}
use Rattle.rule_text.specs.declared.word.Quantifier.{Quantifier}
use Rattle.rule_text.specs.declared.word.Quantifier.TheVariants.{Exists, Forall}
use Rattle.rule_text.specs.declared.word.Word.{Word}
use Rattle.rule_text.specs.declared.word.Word.TheVariants.{Yes, Mark, Condition, Before, Routes, Until, And, Or, Open, Close, OpenSquare, CloseSquare}
use Rattle.rule_text.specs.Words.{word_of}
use Rattle.rule_text.specs.Texts.{Placed, words_from}

-- What a prefix makes of its part.
abbrev pub prefix_rule : Prefix → Rule → Rule
prefix_rule Not p = non p
prefix_rule Ex p = ex p
prefix_rule Ax p = ax p
prefix_rule Ef p = ef p
prefix_rule Af p = af p
prefix_rule Eg p = eg p
prefix_rule Ag p = ag p

-- E[p U q] and A[p U q].
abbrev pub until_rule : Quantifier → Rule → Rule → Rule
until_rule Exists p q = eu p q
until_rule Forall p q = au p q

-- What words can be together: the part of a prefix, the operands of `&`, and a whole rule with `|`.
pub data Strength : Type 0 where
  one : Strength
  ands : Strength
  ors : Strength

-- The words, at this strength, are this rule. Equal operators group from the left: the left operand may hold
-- another of them, the right one may not.
pub data Forms : Strength → List Word → Rule → Type 0 where
  yes_word : Forms one (Yes ∷ []) truth
  mark_word : (k : ℕ) → Forms one (Mark k ∷ []) (mark k)
  condition_word : (k : ℕ) → Forms one (Condition k ∷ []) (condition k)
  prefixed : (x : Prefix) (ws : List Word) (p : Rule) → Forms one ws p → Forms one (Before x ∷ ws) (prefix_rule x p)
  bracketed : (ws : List Word) (p : Rule) → Forms ors ws p → Forms one (Open ∷ (ws ++ (Close ∷ []))) p
  until : (q : Quantifier) (ws vs : List Word) (p r : Rule) → Forms ors ws p → Forms ors vs r
      → Forms one (Routes q ∷ OpenSquare ∷ (ws ++ (Until ∷ (vs ++ (CloseSquare ∷ []))))) (until_rule q p r)
  single : (ws : List Word) (p : Rule) → Forms one ws p → Forms ands ws p
  and_words : (ws vs : List Word) (p q : Rule) → Forms ands ws p → Forms one vs q → Forms ands (ws ++ (And ∷ vs)) (both p q)
  alone : (ws : List Word) (p : Rule) → Forms ands ws p → Forms ors ws p
  or_words : (ws vs : List Word) (p q : Rule) → Forms ors ws p → Forms ands vs q → Forms ors (ws ++ (Or ∷ vs)) (either p q)

-- The words are the rule.
abbrev pub IsRule : List Word → Rule → Type 0
IsRule ws f = Forms ors ws f

-- The bytes of the words, in their order, spell these words.
abbrev pub Spelled : List Placed → List Word → Type 0
Spelled [] ws = ws ≡ []
Spelled (p ∷ ps) ws = (v : Word) × (vs : List Word) × (ws ≡ v ∷ vs) × (word_of p.bytes ≡ Some v) × Spelled ps vs

-- The text is the rule, whatever its length, levels, rows or numbers.
abbrev pub Says : List ℕ → Rule → Type 0
Says text f = (ws : List Word) × Spelled (words_from 0 text) ws × IsRule ws f

-- A word can follow the words before it: some words that are a rule begin with those and it.
abbrev pub CanFollow : List Word → Word → Type 0
CanFollow before w = (rest : List Word) × (f : Rule) × IsRule (before ++ (w ∷ rest)) f
