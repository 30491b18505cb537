-- Every rule has words.
use Rattle.std.proofs.Common.{◌≡◌, ℕ, true, List, [], ◌∷◌, ◌++◌, refl}
use Rattle.routing.specs.Rules.{Rule, truth, mark, condition, non, both, either, ex, eu, eg, ef, ax, au, ag, af}
use Rattle.rule_text.specs.declared.word.Prefix.{Prefix}
use Rattle.rule_text.specs.declared.word.Word.{Word}
use Rattle.rule_text.specs.declared.word.Word.TheVariants.{Mark, Condition, Before, Until, And, Or, Close, CloseSquare}
use Rattle.rule_text.specs.Grammar.{prefix_rule, yes_word, mark_word, condition_word, prefixed, bracketed, until, single, and_words, alone, or_words, IsRule}
use Rattle.std.proofs.lemmas.Bool.{and_parts, and_from}
use Rattle.rule_text.specs.declared.word.Prefix.TheVariants.{Not, Ex, Ax, Ef, Af, Eg, Ag}
use Rattle.rule_text.specs.declared.word.Quantifier.TheVariants.{Exists, Forall}
use Rattle.rule_text.specs.Words.{in_range}
use Rattle.rule_text.specs.Brackets.{all_in_range, rule_in_range, in_brackets, words_of}
use Rattle.rule_text.proofs.Fitting.{in_both}

part : (x : Prefix) (ws : List Word) (p : Rule) → IsRule ws p → IsRule (Before x ∷ in_brackets ws) (prefix_rule x p)
part x ws p d = alone _ _ (single _ _ (prefixed x (in_brackets ws) p (bracketed ws p d)))

pub words_are : (f : Rule) → IsRule (words_of f) f
words_are truth = alone _ _ (single _ _ yes_word)
words_are (mark k) = alone _ _ (single _ _ (mark_word k))
words_are (condition k) = alone _ _ (single _ _ (condition_word k))
words_are (non p) = part Not (words_of p) p (words_are p)
words_are (both p q) =
    alone _ _ (and_words (in_brackets (words_of p)) (in_brackets (words_of q)) p q (single _ _ (bracketed (words_of p) p (words_are p))) (bracketed (words_of q) q (words_are q)))
words_are (either p q) =
    or_words (in_brackets (words_of p)) (in_brackets (words_of q)) p q (alone _ _ (single _ _ (bracketed (words_of p) p (words_are p)))) (single _ _ (bracketed (words_of q) q (words_are q)))
words_are (ex p) = part Ex (words_of p) p (words_are p)
words_are (eu p q) = alone _ _ (single _ _ (until Exists (words_of p) (words_of q) p q (words_are p) (words_are q)))
words_are (eg p) = part Eg (words_of p) p (words_are p)
words_are (ef q) = part Ef (words_of q) q (words_are q)
words_are (ax p) = part Ax (words_of p) p (words_are p)
words_are (au p q) = alone _ _ (single _ _ (until Forall (words_of p) (words_of q) p q (words_are p) (words_are q)))
words_are (ag p) = part Ag (words_of p) p (words_are p)
words_are (af q) = part Af (words_of q) q (words_are q)

module _ (K : ℕ) where
  in_it : (ws : List Word) → all_in_range K ws ≡ true → all_in_range K (in_brackets ws) ≡ true
  in_it ws h = in_both K ws (Close ∷ []) h refl

  joined : (w : Word) (us ws : List Word) → in_range K w ≡ true → all_in_range K us ≡ true → all_in_range K ws ≡ true → all_in_range K (us ++ (w ∷ ws)) ≡ true
  joined w us ws e h g = in_both K us (w ∷ ws) h (and_from (in_range K w) (all_in_range K ws) e g)

  pub words_in : (f : Rule) → rule_in_range K f ≡ true → all_in_range K (words_of f) ≡ true
  words_in truth h = refl
  words_in (mark k) h = and_from (in_range K (Mark k)) true h refl
  words_in (condition k) h = and_from (in_range K (Condition k)) true h refl
  words_in (non p) h = in_it (words_of p) (words_in p h)
  words_in (both p q) h =
      let a = and_parts (rule_in_range K p) (rule_in_range K q) h in
      joined And (in_brackets (words_of p)) (in_brackets (words_of q)) refl (in_it (words_of p) (words_in p a.0)) (in_it (words_of q) (words_in q a.1))
  words_in (either p q) h =
      let a = and_parts (rule_in_range K p) (rule_in_range K q) h in
      joined Or (in_brackets (words_of p)) (in_brackets (words_of q)) refl (in_it (words_of p) (words_in p a.0)) (in_it (words_of q) (words_in q a.1))
  words_in (ex p) h = in_it (words_of p) (words_in p h)
  words_in (eu p q) h =
      let a = and_parts (rule_in_range K p) (rule_in_range K q) h in
      joined Until (words_of p) (words_of q ++ (CloseSquare ∷ [])) refl (words_in p a.0) (in_both K (words_of q) (CloseSquare ∷ []) (words_in q a.1) refl)
  words_in (eg p) h = in_it (words_of p) (words_in p h)
  words_in (ef q) h = in_it (words_of q) (words_in q h)
  words_in (ax p) h = in_it (words_of p) (words_in p h)
  words_in (au p q) h =
      let a = and_parts (rule_in_range K p) (rule_in_range K q) h in
      joined Until (words_of p) (words_of q ++ (CloseSquare ∷ [])) refl (words_in p a.0) (in_both K (words_of q) (CloseSquare ∷ []) (words_in q a.1) refl)
  words_in (ag p) h = in_it (words_of p) (words_in p h)
  words_in (af q) h = in_it (words_of q) (words_in q h)
