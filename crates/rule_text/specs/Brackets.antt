-- Words that write a rule with every part in brackets: so the grammar has every rule.
use Rattle.std.specs.Prelude.{ℕ, Bool, true, ◌&&◌, List, [], ◌∷◌, ◌++◌, nat_lt}
use Rattle.std.specs.List.{list_all}
use Rattle.routing.specs.Rules.{Rule, truth, mark, condition, non, both, either, ex, eu, eg, ef, ax, au, ag, af}
use Rattle.rule_text.specs.declared.word.Prefix.TheVariants.{Not, Ex, Ax, Ef, Af, Eg, Ag}
use Rattle.rule_text.specs.declared.word.Quantifier.TheVariants.{Exists, Forall}
use Rattle.rule_text.specs.declared.word.Word.{Word}
use Rattle.rule_text.specs.declared.word.Word.TheVariants.{Yes, Mark, Condition, Before, Routes, Until, And, Or, Open, Close, OpenSquare, CloseSquare}
use Rattle.rule_text.specs.Words.{in_range}

-- Every number of the words is in range.
abbrev pub all_in_range : ℕ → List Word → Bool
all_in_range K ws = list_all (in_range K) ws

-- The rule has marks up to 31 and conditions below K only.
abbrev pub rule_in_range : ℕ → Rule → Bool
rule_in_range K truth = true
rule_in_range K (mark k) = nat_lt k 32
rule_in_range K (condition k) = nat_lt k K
rule_in_range K (non p) = rule_in_range K p
rule_in_range K (both p q) = rule_in_range K p && rule_in_range K q
rule_in_range K (either p q) = rule_in_range K p && rule_in_range K q
rule_in_range K (ex p) = rule_in_range K p
rule_in_range K (eu p q) = rule_in_range K p && rule_in_range K q
rule_in_range K (eg p) = rule_in_range K p
rule_in_range K (ef q) = rule_in_range K q
rule_in_range K (ax p) = rule_in_range K p
rule_in_range K (au p q) = rule_in_range K p && rule_in_range K q
rule_in_range K (ag p) = rule_in_range K p
rule_in_range K (af q) = rule_in_range K q

abbrev pub in_brackets : List Word → List Word
in_brackets ws = Open ∷ (ws ++ (Close ∷ []))

-- The words of a rule, with every part in brackets.
abbrev pub words_of : Rule → List Word
words_of truth = Yes ∷ []
words_of (mark k) = Mark k ∷ []
words_of (condition k) = Condition k ∷ []
words_of (non p) = Before Not ∷ in_brackets (words_of p)
words_of (both p q) = in_brackets (words_of p) ++ (And ∷ in_brackets (words_of q))
words_of (either p q) = in_brackets (words_of p) ++ (Or ∷ in_brackets (words_of q))
words_of (ex p) = Before Ex ∷ in_brackets (words_of p)
words_of (eu p q) = Routes Exists ∷ OpenSquare ∷ (words_of p ++ (Until ∷ (words_of q ++ (CloseSquare ∷ []))))
words_of (eg p) = Before Eg ∷ in_brackets (words_of p)
words_of (ef q) = Before Ef ∷ in_brackets (words_of q)
words_of (ax p) = Before Ax ∷ in_brackets (words_of p)
words_of (au p q) = Routes Forall ∷ OpenSquare ∷ (words_of p ++ (Until ∷ (words_of q ++ (CloseSquare ∷ []))))
words_of (ag p) = Before Ag ∷ in_brackets (words_of p)
words_of (af q) = Before Af ∷ in_brackets (words_of q)
