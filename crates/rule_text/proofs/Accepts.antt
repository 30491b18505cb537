-- Words that are a rule lead the reader to that rule.
use Rattle.std.proofs.Common.{◌≡◌, List, [], ◌∷◌, ◌++◌, Some, None, Option, sym, refl, ap, ◌∙◌}
use Rattle.std.proofs.lemmas.List.{append_assoc, append-nil}
use Rattle.std.specs.Option.{option_and_then}
use Rattle.routing.specs.Rules.{Rule, both, either}
use Rattle.rule_text.specs.declared.word.Prefix.{Prefix}
use Rattle.rule_text.specs.declared.word.Quantifier.{Quantifier}
use Rattle.rule_text.specs.declared.word.Word.{Word}
use Rattle.rule_text.specs.declared.word.Word.TheVariants.{Routes, Until, And, Or, Open, Close, OpenSquare, CloseSquare}
use Rattle.rule_text.specs.Grammar.{until_rule, Strength, one, ands, ors, Forms, yes_word, mark_word, condition_word, prefixed, bracketed, until, single, and_words, alone, or_words, IsRule}
use Rattle.rule_text.specs.Descent.{bracket, until_first, until_second, Around, nothing, inside, State, before_part, behind_part, or_with, part_done, next_state, rule_read}

-- The rule that words come to, from a state on.
abbrev pub accepts : List Word → State → Option Rule
accepts [] s = rule_read s
accepts (w ∷ ws) s = option_and_then (accepts ws) (next_state s w)

abbrev pub begin : State
begin = before_part [] None None nothing

-- What words do, by their strength.
abbrev Claim : Strength → List Word → Rule → Type 0
Claim one ws p =
    (xs : List Prefix) (o a : Option Rule) (K : Around) (rest : List Word) → accepts (ws ++ rest) (before_part xs o a K) ≡ accepts rest (part_done xs o a K p)
Claim ands ws p =
    (o : Option Rule) (K : Around) (rest : List Word) → accepts (ws ++ rest) (before_part [] o None K) ≡ accepts rest (behind_part o p K)
Claim ors ws p =
    (o : Option Rule) × (f : Rule) × (or_with o f ≡ p)
    × ((K : Around) (rest : List Word) → accepts (ws ++ rest) (before_part [] None None K) ≡ accepts rest (behind_part o f K))

in_bracket : (ws : List Word) (p : Rule) → Claim ors ws p → Claim one (Open ∷ (ws ++ (Close ∷ []))) p
in_bracket ws p (q, f, is, reads) xs o a K rest =
    ap (λ v. accepts v (before_part [] None None (inside bracket xs o a K))) (append_assoc ws (Close ∷ []) rest)
    ∙ reads (inside bracket xs o a K) (Close ∷ rest)
    ∙ ap (λ g. accepts rest (part_done xs o a K g)) is

in_until : (k : Quantifier) (ws vs : List Word) (p r : Rule) → Claim ors ws p → Claim ors vs r
    → Claim one (Routes k ∷ OpenSquare ∷ (ws ++ (Until ∷ (vs ++ (CloseSquare ∷ []))))) (until_rule k p r)
in_until k ws vs p r (q, f, is, first) (s, g, so, second) xs o a K rest =
    let split : (ws ++ (Until ∷ (vs ++ (CloseSquare ∷ [])))) ++ rest ≡ ws ++ (Until ∷ (vs ++ (CloseSquare ∷ rest))) =
    append_assoc ws (Until ∷ (vs ++ (CloseSquare ∷ []))) rest ∙ ap (λ v. ws ++ (Until ∷ v)) (append_assoc vs (CloseSquare ∷ []) rest) in
    ap (λ v. accepts v (before_part [] None None (inside (until_first k) xs o a K))) split
    ∙ first (inside (until_first k) xs o a K) (Until ∷ (vs ++ (CloseSquare ∷ rest)))
    ∙ second (inside (until_second k (or_with q f)) xs o a K) (CloseSquare ∷ rest)
    ∙ ap (λ h. accepts rest (part_done xs o a K (until_rule k h (or_with s g)))) is
    ∙ ap (λ h. accepts rest (part_done xs o a K (until_rule k p h))) so

in_and : (ws vs : List Word) (p q : Rule) → Claim ands ws p → Claim one vs q → Claim ands (ws ++ (And ∷ vs)) (both p q)
in_and ws vs p q first second o K rest =
    ap (λ v. accepts v (before_part [] o None K)) (append_assoc ws (And ∷ vs) rest)
    ∙ first o K (And ∷ (vs ++ rest))
    ∙ second [] o (Some p) K rest

in_or : (ws vs : List Word) (p q : Rule) → Claim ors ws p → Claim ands vs q → Claim ors (ws ++ (Or ∷ vs)) (either p q)
in_or ws vs p q (o, f, is, first) second = (
  Some (or_with o f),
  q,
  ap (λ g. either g q) is,
  λ K rest.
      ap (λ v. accepts v (before_part [] None None K)) (append_assoc ws (Or ∷ vs) rest)
      ∙ first K (Or ∷ (vs ++ rest))
      ∙ second (Some (or_with o f)) K rest,
)

complete : {st : Strength} {ws : List Word} {p : Rule} → Forms st ws p → Claim st ws p
complete yes_word = λ xs o a K rest. refl
complete (mark_word k) = λ xs o a K rest. refl
complete (condition_word k) = λ xs o a K rest. refl
complete (prefixed x ws p d) = let h : Claim one ws p = complete d in λ xs o a K rest. h (x ∷ xs) o a K rest
complete (bracketed ws p d) = in_bracket ws p (complete d)
complete (until k ws vs p r d e) = in_until k ws vs p r (complete d) (complete e)
complete (single ws p d) = let h : Claim one ws p = complete d in λ o K rest. h [] o None K rest
complete (and_words ws vs p q d e) = in_and ws vs p q (complete d) (complete e)
complete (alone ws p d) = let h : Claim ands ws p = complete d in (None, p, refl, λ K rest. h None K rest)
complete (or_words ws vs p q d e) = in_or ws vs p q (complete d) (complete e)

-- Words that are a rule are accepted as that rule.
pub accepted_as : (ws : List Word) (f : Rule) → IsRule ws f → accepts ws begin ≡ Some f
accepted_as ws f d =
    let h : Claim ors ws f = complete d in
    ap (λ v. accepts v begin) (sym (append-nil ws)) ∙ h.3 nothing [] ∙ ap Some h.2

-- So words are at most one rule.
pub one_rule : (ws : List Word) (f g : Rule) → IsRule ws f → IsRule ws g → f ≡ g
one_rule ws f g d e =
    let same : Some f ≡ Some g = sym (accepted_as ws f d) ∙ accepted_as ws g e in cc
