-- Where the reader stands, by the words before.
use Rattle.std.proofs.Common.{◌≡◌, ◌+◌, List, [], ◌∷◌, ◌++◌, length, Some, None, Option, sym, refl, ap, ◌∙◌, subst, arith}
use Rattle.std.proofs.lemmas.List.{append_assoc, append-nil}
use Rattle.routing.specs.Rules.{Rule, truth, mark, condition}
use Rattle.rule_text.specs.declared.word.Prefix.{Prefix}
use Rattle.rule_text.specs.declared.word.Quantifier.{Quantifier}
use Rattle.rule_text.specs.declared.word.Word.{Word}
use Rattle.rule_text.specs.declared.word.Word.TheVariants.{Yes, Mark, Condition, Before, Routes, Until, And, Or, Open, Close, OpenSquare, CloseSquare}
use Rattle.rule_text.specs.Grammar.{prefix_rule, until_rule, one, ands, ors, Forms, yes_word, mark_word, condition_word, prefixed, bracketed, until, single, and_words, alone, or_words, IsRule}
use Rattle.rule_text.specs.Descent.{close_bracket, close_until, second_part, bracket, until_first, until_second, Around, nothing, inside, State, before_part, before_square, behind_part, and_with, or_with, wrapped, next_state, depth, levels_at, rule_read}
use Rattle.rule_text.specs.Levels.{Opened, prefix, group, part_ended, group_ended, behind}

-- The words up to a left operand of `|`, where P says which words stand before that.
abbrev OrPart : (List Word → Type 0) → Option Rule → List Word → Type 0
OrPart P None us = P us
OrPart P (Some p) us = (ks : List Word) × (vs : List Word) × (us ≡ ks ++ (vs ++ (Or ∷ []))) × P ks × Forms ors vs p

abbrev AndPart : (List Word → Type 0) → Option Rule → Option Rule → List Word → Type 0
AndPart P o None us = OrPart P o us
AndPart P o (Some p) us = (ks : List Word) × (vs : List Word) × (us ≡ ks ++ (vs ++ (And ∷ []))) × OrPart P o ks × Forms ands vs p

abbrev Waits : (List Word → Type 0) → List Prefix → Option Rule → Option Rule → List Word → Type 0
Waits P [] o a us = AndPart P o a us
Waits P (x ∷ xs) o a us = (ks : List Word) × (us ≡ ks ++ (Before x ∷ [])) × Waits P xs o a ks

abbrev Opens : Around → List Word → Type 0
Opens nothing us = us ≡ []
Opens (inside bracket xs o a K) us = (ks : List Word) × (us ≡ ks ++ (Open ∷ [])) × Waits (Opens K) xs o a ks
Opens (inside (until_first q) xs o a K) us = (ks : List Word) × (us ≡ ks ++ (Routes q ∷ OpenSquare ∷ [])) × Waits (Opens K) xs o a ks
Opens (inside (until_second q p) xs o a K) us =
    (ks : List Word) × (vs : List Word) × (us ≡ ks ++ (Routes q ∷ OpenSquare ∷ (vs ++ (Until ∷ [])))) × Waits (Opens K) xs o a ks × Forms ors vs p

abbrev Behind : (List Word → Type 0) → Option Rule → Rule → List Word → Type 0
Behind P o f us = (ks : List Word) × (vs : List Word) × (us ≡ ks ++ vs) × OrPart P o ks × Forms ands vs f

-- The words that lead to a state.
abbrev pub Stands : State → List Word → Type 0
Stands (before_part xs o a K) us = Waits (Opens K) xs o a us
Stands (before_square q xs o a K) us = (ks : List Word) × (us ≡ ks ++ (Routes q ∷ [])) × Waits (Opens K) xs o a ks
Stands (behind_part o f K) us = Behind (Opens K) o f us

abbrev pub StandsAt : Option State → List Word → Type 0
StandsAt None us = Unit {0}
StandsAt (Some s) us = Stands s us

done_and : (P : List Word → Type 0) (o a : Option Rule) (ks vs : List Word) (p : Rule) → AndPart P o a ks → Forms one vs p → Behind P o (and_with a p) (ks ++ vs)
done_and P o None ks vs p h d = (ks, vs, refl, h, single vs p d)
done_and P o (Some l) ks vs p (js, us, e, h, f) d = (
  js,
  us ++ (And ∷ vs),
  ap (λ w. w ++ vs) e ∙ append_assoc js (us ++ (And ∷ [])) vs ∙ ap (λ w. js ++ w) (append_assoc us (And ∷ []) vs),
  h,
  and_words us vs l p f d,
)

-- A part is read.
done : (P : List Word → Type 0) (xs : List Prefix) (o a : Option Rule) (ks vs : List Word) (p : Rule) → Waits P xs o a ks → Forms one vs p
    → Behind P o (and_with a (wrapped xs p)) (ks ++ vs)
done P [] o a ks vs p h d = done_and P o a ks vs p h d
done P (x ∷ xs) o a ks vs p (js, e, h) d =
    subst (Behind P o (and_with a (wrapped xs (prefix_rule x p)))) (sym (ap (λ w. w ++ vs) e ∙ append_assoc js (Before x ∷ []) vs))
    (done P xs o a js (Before x ∷ vs) (prefix_rule x p) h (prefixed x vs p d))

-- A whole rule is read.
abbrev Whole : (List Word → Type 0) → Rule → List Word → Type 0
Whole P f us = (ks : List Word) × (vs : List Word) × (us ≡ ks ++ vs) × P ks × Forms ors vs f

whole_read : (P : List Word → Type 0) (o : Option Rule) (f : Rule) (us : List Word) → Behind P o f us → Whole P (or_with o f) us
whole_read P None f us (ks, vs, e, h, d) = (ks, vs, e, h, alone vs f d)
whole_read P (Some p) f us (ks, vs, e, (js, ws, e', h, d'), d) = (
  js,
  ws ++ (Or ∷ vs),
  e ∙ ap (λ w. w ++ vs) e' ∙ append_assoc js (ws ++ (Or ∷ [])) vs ∙ ap (λ w. js ++ w) (append_assoc ws (Or ∷ []) vs),
  h,
  or_words ws vs p f d' d,
)

-- Behind the word that ends a bracket.
end_bracket : (ks us vs : List Word) (P : List Word → Type 0) (xs : List Prefix) (o a : Option Rule) (f : Rule) → us ≡ ks ++ (Open ∷ []) → Waits P xs o a ks → Forms ors vs f
    → Behind P o (and_with a (wrapped xs f)) (us ++ (vs ++ (Close ∷ [])))
end_bracket ks us vs P xs o a f e h d =
    subst (Behind P o (and_with a (wrapped xs f))) (sym (ap (λ w. w ++ (vs ++ (Close ∷ []))) e ∙ append_assoc ks (Open ∷ []) (vs ++ (Close ∷ []))))
    (done P xs o a ks (Open ∷ (vs ++ (Close ∷ []))) f h (bracketed vs f d))

end_until : (q : Quantifier) (ks us ws vs : List Word) (P : List Word → Type 0) (xs : List Prefix) (o a : Option Rule) (p f : Rule)
    → us ≡ ks ++ (Routes q ∷ OpenSquare ∷ (ws ++ (Until ∷ []))) → Waits P xs o a ks → Forms ors ws p → Forms ors vs f
    → Behind P o (and_with a (wrapped xs (until_rule q p f))) (us ++ (vs ++ (CloseSquare ∷ [])))
end_until q ks us ws vs P xs o a p f e h d d' =
    subst (Behind P o (and_with a (wrapped xs (until_rule q p f))))
    (sym (ap (λ w. w ++ (vs ++ (CloseSquare ∷ []))) e
    ∙ append_assoc ks (Routes q ∷ OpenSquare ∷ (ws ++ (Until ∷ []))) (vs ++ (CloseSquare ∷ []))
    ∙ ap (λ w. ks ++ (Routes q ∷ OpenSquare ∷ w)) (append_assoc ws (Until ∷ []) (vs ++ (CloseSquare ∷ [])))))
    (done P xs o a ks (Routes q ∷ OpenSquare ∷ (ws ++ (Until ∷ (vs ++ (CloseSquare ∷ []))))) (until_rule q p f) h (until q ws vs p f d d'))

close_step : (K : Around) (f : Rule) (us : List Word) → Whole (Opens K) f us → StandsAt (close_bracket K f) (us ++ (Close ∷ []))
close_step nothing f us h = tt
close_step (inside bracket xs o a K) f us (ks, vs, e, (js, e', w), d) =
    subst (Behind (Opens K) o (and_with a (wrapped xs f))) (sym (ap (λ v. v ++ (Close ∷ [])) e ∙ append_assoc ks vs (Close ∷ [])))
    (end_bracket js ks vs (Opens K) xs o a f e' w d)
close_step (inside (until_first q) xs o a K) f us h = tt
close_step (inside (until_second q p) xs o a K) f us h = tt

until_step : (K : Around) (f : Rule) (us : List Word) → Whole (Opens K) f us → StandsAt (second_part K f) (us ++ (Until ∷ []))
until_step nothing f us h = tt
until_step (inside bracket xs o a K) f us h = tt
until_step (inside (until_first q) xs o a K) f us (ks, vs, e, (js, e', w), d) = (
  js,
  vs,
  ap (λ v. v ++ (Until ∷ [])) (e ∙ ap (λ v. v ++ vs) e') ∙ append_assoc (js ++ (Routes q ∷ OpenSquare ∷ [])) vs (Until ∷ [])
      ∙ append_assoc js (Routes q ∷ OpenSquare ∷ []) (vs ++ (Until ∷ [])),
  w,
  d,
)
until_step (inside (until_second q p) xs o a K) f us h = tt

close_square_step : (K : Around) (f : Rule) (us : List Word) → Whole (Opens K) f us → StandsAt (close_until K f) (us ++ (CloseSquare ∷ []))
close_square_step nothing f us h = tt
close_square_step (inside bracket xs o a K) f us h = tt
close_square_step (inside (until_first q) xs o a K) f us h = tt
close_square_step (inside (until_second q p) xs o a K) f us (ks, vs, e, (js, ws, e', w, d'), d) =
    subst (Behind (Opens K) o (and_with a (wrapped xs (until_rule q p f)))) (sym (ap (λ v. v ++ (CloseSquare ∷ [])) e ∙ append_assoc ks vs (CloseSquare ∷ [])))
    (end_until q js ks ws vs (Opens K) xs o a p f e' w d' d)

-- One more word.
pub stands_more : (s : State) (w : Word) (us : List Word) → Stands s us → StandsAt (next_state s w) (us ++ (w ∷ []))
stands_more (before_part xs o a K) Yes us h = done (Opens K) xs o a us (Yes ∷ []) truth h yes_word
stands_more (before_part xs o a K) (Mark k) us h = done (Opens K) xs o a us (Mark k ∷ []) (mark k) h (mark_word k)
stands_more (before_part xs o a K) (Condition k) us h = done (Opens K) xs o a us (Condition k ∷ []) (condition k) h (condition_word k)
stands_more (before_part xs o a K) (Before x) us h = (us, refl, h)
stands_more (before_part xs o a K) (Routes q) us h = (us, refl, h)
stands_more (before_part xs o a K) Open us h = (us, refl, h)
stands_more (before_part xs o a K) Until us h = tt
stands_more (before_part xs o a K) And us h = tt
stands_more (before_part xs o a K) Or us h = tt
stands_more (before_part xs o a K) Close us h = tt
stands_more (before_part xs o a K) OpenSquare us h = tt
stands_more (before_part xs o a K) CloseSquare us h = tt
stands_more (before_square q xs o a K) Yes us h = tt
stands_more (before_square q xs o a K) (Mark k) us h = tt
stands_more (before_square q xs o a K) (Condition k) us h = tt
stands_more (before_square q xs o a K) (Before x) us h = tt
stands_more (before_square q xs o a K) (Routes r) us h = tt
stands_more (before_square q xs o a K) Open us h = tt
stands_more (before_square q xs o a K) Until us h = tt
stands_more (before_square q xs o a K) And us h = tt
stands_more (before_square q xs o a K) Or us h = tt
stands_more (before_square q xs o a K) Close us h = tt
stands_more (before_square q xs o a K) OpenSquare us (ks, e, h) =
    (ks, ap (λ v. v ++ (OpenSquare ∷ [])) e ∙ append_assoc ks (Routes q ∷ []) (OpenSquare ∷ []), h)
stands_more (before_square q xs o a K) CloseSquare us h = tt
stands_more (behind_part o p K) Yes us h = tt
stands_more (behind_part o p K) (Mark k) us h = tt
stands_more (behind_part o p K) (Condition k) us h = tt
stands_more (behind_part o p K) (Before x) us h = tt
stands_more (behind_part o p K) (Routes q) us h = tt
stands_more (behind_part o p K) Open us h = tt
stands_more (behind_part o p K) Until us h = until_step K (or_with o p) us (whole_read (Opens K) o p us h)
stands_more (behind_part o p K) And us (ks, vs, e, h, d) =
    (ks, vs, ap (λ v. v ++ (And ∷ [])) e ∙ append_assoc ks vs (And ∷ []), h, d)
stands_more (behind_part o p K) Or us h =
    let (ks, vs, e, g, d) = whole_read (Opens K) o p us h in
    (ks, vs, ap (λ v. v ++ (Or ∷ [])) e ∙ append_assoc ks vs (Or ∷ []), g, d)
stands_more (behind_part o p K) Close us h = close_step K (or_with o p) us (whole_read (Opens K) o p us h)
stands_more (behind_part o p K) OpenSquare us h = tt
stands_more (behind_part o p K) CloseSquare us h = close_square_step K (or_with o p) us (whole_read (Opens K) o p us h)

-- Where the text may end, the words are the rule.
pub ends_as : (s : State) (us : List Word) (f : Rule) → Stands s us → rule_read s ≡ Some f → IsRule us f
ends_as (before_part xs o a K) us f h e = cc
ends_as (before_square q xs o a K) us f h e = cc
ends_as (behind_part o p nothing) us f h e =
    let (ks, vs, e', g, d) = whole_read (Opens nothing) o p us h in
    let same : or_with o p ≡ f = cc in
    subst (λ r. IsRule us r) same (subst (λ v. IsRule v (or_with o p)) (sym (e' ∙ ap (λ v. v ++ vs) g)) d)
ends_as (behind_part o p (inside k xs q a K)) us f h e = cc

-- Any words that lead to a state begin a rule.
abbrev Begins : List Word → Type 0
Begins us = (rest : List Word) × (f : Rule) × IsRule (us ++ rest) f

begins_before : (us ws : List Word) (vs : List Word) → us ++ ws ≡ vs → Begins vs → Begins us
begins_before us ws vs e (rest, f, d) = (ws ++ rest, f, subst (λ v. IsRule v f) (sym (sym (append_assoc us ws rest) ∙ ap (λ v. v ++ rest) e)) d)

begins_behind : (K : Around) (f : Rule) (us : List Word) → Whole (Opens K) f us → Begins us
begins_behind nothing f us (ks, vs, e, g, d) = ([], f, subst (λ v. IsRule v f) (sym (append-nil us ∙ e ∙ ap (λ v. v ++ vs) g)) d)
begins_behind (inside bracket xs o a K) f us h =
    begins_before us (Close ∷ []) (us ++ (Close ∷ [])) refl
    (begins_behind K (or_with o (and_with a (wrapped xs f))) (us ++ (Close ∷ [])) (whole_read (Opens K) o (and_with a (wrapped xs f)) (us ++ (Close ∷ [])) (close_step (inside bracket xs o a K) f us h)))
begins_behind (inside (until_first q) xs o a K) f us h =
    let then = until_step (inside (until_first q) xs o a K) f us h in
    let filled = done (Opens (inside (until_second q f) xs o a K)) [] None None (us ++ (Until ∷ [])) (Yes ∷ []) truth then yes_word in
    let vs = (us ++ (Until ∷ [])) ++ (Yes ∷ []) in
    let all = close_square_step (inside (until_second q f) xs o a K) truth vs (whole_read (Opens (inside (until_second q f) xs o a K)) None truth vs filled) in
    begins_before us (Until ∷ Yes ∷ CloseSquare ∷ []) (vs ++ (CloseSquare ∷ []))
    (sym (append_assoc (us ++ (Until ∷ [])) (Yes ∷ []) (CloseSquare ∷ []) ∙ append_assoc us (Until ∷ []) (Yes ∷ CloseSquare ∷ [])))
    (begins_behind K (or_with o (and_with a (wrapped xs (until_rule q f truth)))) (vs ++ (CloseSquare ∷ []))
    (whole_read (Opens K) o (and_with a (wrapped xs (until_rule q f truth))) (vs ++ (CloseSquare ∷ [])) all))
begins_behind (inside (until_second q p) xs o a K) f us h =
    begins_before us (CloseSquare ∷ []) (us ++ (CloseSquare ∷ [])) refl
    (begins_behind K (or_with o (and_with a (wrapped xs (until_rule q p f)))) (us ++ (CloseSquare ∷ []))
    (whole_read (Opens K) o (and_with a (wrapped xs (until_rule q p f))) (us ++ (CloseSquare ∷ [])) (close_square_step (inside (until_second q p) xs o a K) f us h)))

begins_part : (xs : List Prefix) (o a : Option Rule) (K : Around) (us : List Word) → Waits (Opens K) xs o a us → Begins us
begins_part xs o a K us h =
    begins_before us (Yes ∷ []) (us ++ (Yes ∷ [])) refl
    (begins_behind K (or_with o (and_with a (wrapped xs truth))) (us ++ (Yes ∷ []))
    (whole_read (Opens K) o (and_with a (wrapped xs truth)) (us ++ (Yes ∷ [])) (done (Opens K) xs o a us (Yes ∷ []) truth h yes_word)))

pub begins : (s : State) (us : List Word) → Stands s us → Begins us
begins (before_part xs o a K) us h = begins_part xs o a K us h
begins (before_square q xs o a K) us h =
    begins_before us (OpenSquare ∷ []) (us ++ (OpenSquare ∷ [])) refl
    (begins_part [] None None (inside (until_first q) xs o a K) (us ++ (OpenSquare ∷ [])) (stands_more (before_square q xs o a K) OpenSquare us h))
begins (behind_part o p K) us h = begins_behind K (or_with o p) us (whole_read (Opens K) o p us h)

-- The open levels.
abbrev prefixes : List Prefix → List Opened → List Opened
prefixes [] s = s
prefixes (x ∷ xs) s = prefix ∷ prefixes xs s

abbrev groups : Around → List Opened
groups nothing = []
groups (inside k xs o a K) = group ∷ prefixes xs (groups K)

abbrev pub levels : State → List Opened
levels (before_part xs o a K) = prefixes xs (groups K)
levels (before_square q xs o a K) = group ∷ prefixes xs (groups K)
levels (behind_part o f K) = groups K

abbrev pub LevelsAt : Option State → List Opened → Type 0
LevelsAt None s = Unit {0}
LevelsAt (Some t) s = s ≡ levels t

groups_stay : (K : Around) → part_ended (groups K) ≡ groups K
groups_stay nothing = refl
groups_stay (inside k xs o a K) = refl

prefixes_end : (xs : List Prefix) (K : Around) → part_ended (prefixes xs (groups K)) ≡ groups K
prefixes_end [] K = groups_stay K
prefixes_end (x ∷ xs) K = prefixes_end xs K

close_levels : (K : Around) (f : Rule) → LevelsAt (close_bracket K f) (group_ended (groups K))
close_levels nothing f = tt
close_levels (inside bracket xs o a K) f = prefixes_end xs K
close_levels (inside (until_first q) xs o a K) f = tt
close_levels (inside (until_second q p) xs o a K) f = tt

until_levels : (K : Around) (f : Rule) → LevelsAt (second_part K f) (groups K)
until_levels nothing f = tt
until_levels (inside bracket xs o a K) f = tt
until_levels (inside (until_first q) xs o a K) f = refl
until_levels (inside (until_second q p) xs o a K) f = tt

close_square_levels : (K : Around) (f : Rule) → LevelsAt (close_until K f) (group_ended (groups K))
close_square_levels nothing f = tt
close_square_levels (inside bracket xs o a K) f = tt
close_square_levels (inside (until_first q) xs o a K) f = tt
close_square_levels (inside (until_second q p) xs o a K) f = prefixes_end xs K

pub levels_more : (s : State) (w : Word) → LevelsAt (next_state s w) (behind (levels s) w)
levels_more (before_part xs o a K) Yes = prefixes_end xs K
levels_more (before_part xs o a K) (Mark k) = prefixes_end xs K
levels_more (before_part xs o a K) (Condition k) = prefixes_end xs K
levels_more (before_part xs o a K) (Before x) = refl
levels_more (before_part xs o a K) (Routes q) = refl
levels_more (before_part xs o a K) Open = refl
levels_more (before_part xs o a K) Until = tt
levels_more (before_part xs o a K) And = tt
levels_more (before_part xs o a K) Or = tt
levels_more (before_part xs o a K) Close = tt
levels_more (before_part xs o a K) OpenSquare = tt
levels_more (before_part xs o a K) CloseSquare = tt
levels_more (before_square q xs o a K) Yes = tt
levels_more (before_square q xs o a K) (Mark k) = tt
levels_more (before_square q xs o a K) (Condition k) = tt
levels_more (before_square q xs o a K) (Before x) = tt
levels_more (before_square q xs o a K) (Routes r) = tt
levels_more (before_square q xs o a K) Open = tt
levels_more (before_square q xs o a K) Until = tt
levels_more (before_square q xs o a K) And = tt
levels_more (before_square q xs o a K) Or = tt
levels_more (before_square q xs o a K) Close = tt
levels_more (before_square q xs o a K) OpenSquare = refl
levels_more (before_square q xs o a K) CloseSquare = tt
levels_more (behind_part o p K) Yes = tt
levels_more (behind_part o p K) (Mark k) = tt
levels_more (behind_part o p K) (Condition k) = tt
levels_more (behind_part o p K) (Before x) = tt
levels_more (behind_part o p K) (Routes q) = tt
levels_more (behind_part o p K) Open = tt
levels_more (behind_part o p K) Until = until_levels K (or_with o p)
levels_more (behind_part o p K) And = refl
levels_more (behind_part o p K) Or = refl
levels_more (behind_part o p K) Close = close_levels K (or_with o p)
levels_more (behind_part o p K) OpenSquare = tt
levels_more (behind_part o p K) CloseSquare = close_square_levels K (or_with o p)

length_prefixes : (xs : List Prefix) (s : List Opened) → length (prefixes xs s) ≡ length xs + length s
length_prefixes [] s = omega arith
length_prefixes (x ∷ xs) s = omega (arith, length_prefixes xs s)

length_groups : (K : Around) → length (groups K) ≡ depth K
length_groups nothing = refl
length_groups (inside k xs o a K) = omega (arith, length_prefixes xs (groups K), length_groups K)

pub length_levels : (s : State) → length (levels s) ≡ levels_at s
length_levels (before_part xs o a K) = omega (arith, length_prefixes xs (groups K), length_groups K)
length_levels (before_square q xs o a K) = omega (arith, length_prefixes xs (groups K), length_groups K)
length_levels (behind_part o f K) = length_groups K
