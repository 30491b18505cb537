-- What holds of the grammar and of reading.
use Rattle.std.specs.Prelude.{◌≡◌, ℕ, true, ◌↔◌, List, Ok, Result}
use Rattle.routing.specs.Rules.{Rule}
use Rattle.rule_text.specs.declared.fault.Fault.{Fault}
use Rattle.rule_text.specs.declared.word.Word.{Word}
use Rattle.rule_text.specs.Grammar.{IsRule, Says}
use Rattle.rule_text.specs.Brackets.{all_in_range, rule_in_range, words_of}
use Rattle.rule_text.specs.Reading.{Fits, Reading}

-- Words, and so texts, are at most one rule.
abbrev pub Unambiguous : Type 0
Unambiguous = ((ws : List Word) (f g : Rule) → IsRule ws f → IsRule ws g → f ≡ g) × ((text : List ℕ) (f g : Rule) → Says text f → Says text g → f ≡ g)

-- Every rule over marks up to 31 and conditions below K has words: those with every part in brackets, with no number out of range.
abbrev pub Complete : Type 0
Complete = (K : ℕ) (f : Rule) → rule_in_range K f ≡ true → IsRule (words_of f) f × (all_in_range K (words_of f) ≡ true)

-- Every text comes to one thing: the rule that it is, or one refusal.
abbrev pub Decided : Type 0
Decided = (K : ℕ) (text : List ℕ) → (r : Result Rule Fault) × Reading K text r × ((q : Result Rule Fault) → Reading K text q → q ≡ r)

-- A text is read as a rule just when it is that rule and keeps to every limit.
abbrev pub Exact : Type 0
Exact = (K : ℕ) (text : List ℕ) (f : Rule) → Reading K text (Ok f) ↔ Fits K text f
