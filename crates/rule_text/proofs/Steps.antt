-- Steps of the reader.
use Rattle.std.proofs.Common.{IsErrAnd, ◌≡◌, ℕ, ◌+◌, ◌<◌, true, false, ◌&&◌, leb, ◌⊎◌, List, length, Some, None, Ok, Err, Option, Result, sym, refl, ap, ◌∙◌, subst, inl, inr, arith, MatchResult}
use Rattle.rule_text.specs.declared.fault.Fault.{Fault}
use Rattle.rule_text.specs.declared.fault.FaultKind.TheVariants.{CannotFollow}
use Rattle.rule_text.specs.declared.reader.Reader.{Reader}
use Rattle.rule_text.specs.declared.parse.Parser.{Parser}
use Rattle.rule_text.specs.declared.table.Table.{Table}
use Rattle.tables.specs.declared.row.Operation.TheVariants.{Yes as YesRow, Mark as MarkRow, Condition as ConditionRow}
use Rattle.rule_text.specs.declared.word.Start.{Start}
use Rattle.rule_text.specs.declared.word.Start.TheVariants.{Atom, Prefix as AtPrefix, Bracket as AtBracket, Quantifier as AtQuantifier}
use Rattle.rule_text.specs.declared.word.Word.{Word}
use Rattle.rule_text.specs.Faults.{fault}
use Rattle.std.proofs.lemmas.Result.{err_from_is_err_and}
use Rattle.std.proofs.lemmas.Bool.{and_right, and_from, lt-leb, le-leb}
use Rattle.routing.specs.Rules.{Rule}
use Rattle.rule_text.specs.declared.word.Prefix.{Prefix}
use Rattle.rule_text.specs.declared.word.Quantifier.{Quantifier}
use Rattle.rule_text.specs.declared.word.Word.TheVariants.{Yes, Mark, Condition, Before, Routes, Until, And, Or, Open, Close, OpenSquare, CloseSquare}
use Rattle.rule_text.specs.Levels.{has_level}
use Rattle.rule_text.specs.Descent.{start_of, items, left, unread, end_of, Onward, Stepped, Fails, Took, Missed, another, faulty, Takes, Enters, Around, nothing, inside, bracket, until_first, until_second, State, before_part, before_square, behind_part, next_state, depth, levels_at, rule_read, at_end, moved, outcome}

abbrev pub parser : Reader → Option Table → Parser
parser r t = record { reader = r; table = t }

-- The exit of a `?`.
pub left_with : {T : Type 0} (P : Result T Fault → Type 0) (r : Result T Fault) (e : Fault) → IsErrAnd r (λ y. y ≡ e) → P (Err e) → P r
left_with P r e by h = let q = err_from_is_err_and r by in subst P (ap Err (sym q.2) ∙ sym q.1) h

pub took : (w : Word) (a b : Reader) (t : Result (Unit {0}) Fault) → a.word ≡ Some w → MatchResult t (λ _. Stepped a b) (Fails a) → Takes w a b t
took w a b (Ok u) e h = record { was = e; step = h }
took w a b (Err f) e h = faulty f e h

pub missed : (w : Word) (a : Reader) (e : Fault) → (a.word ≡ Some w → ⊥) → e ≡ fault CannotFollow a.start → Missed w a e
missed w a e n h = subst (Missed w a) (sym h) (another n)

-- The outcome at a word in hand, and at the end.
at_word : (end : ℕ) (a : Reader) (w : Word) (s : State) → a.word ≡ Some w
    → outcome end (unread a) s
    ≡ moved a.start (has_level w && leb 32 (levels_at s)) (next_state s w) (outcome end (items a.conditions a.text.now a.next))
unfolding outcome
at_word end a w s e = ap (λ v. outcome end (left v a.start (items a.conditions a.text.now a.next)) s) e

pub at_none : (end : ℕ) (a : Reader) (s : State) → a.word ≡ None → outcome end (unread a) s ≡ at_end end (rule_read s)
unfolding outcome
at_none end a s e = ap (λ v. outcome end (left v a.start (items a.conditions a.text.now a.next)) s) e

at_bad : (end : ℕ) (a : Reader) (e : Fault) (s : State) → Fails a e → outcome end (items a.conditions a.text.now a.next) s ≡ Err e
unfolding outcome
at_bad end a e s (rest, h) = ap (λ is. outcome end is s) h

-- A word that leads on.
leads : (end : ℕ) (a b : Reader) (w : Word) (s s' : State) → a.word ≡ Some w → (has_level w && leb 32 (levels_at s)) ≡ false → next_state s w ≡ Some s'
    → Stepped a b → outcome end (unread a) s ≡ outcome end (unread b) s'
leads end a b w s s' e l n st =
    at_word end a w s e
    ∙ ap (λ d. moved a.start d (next_state s w) (outcome end (items a.conditions a.text.now a.next))) l
    ∙ ap (λ q. moved a.start false q (outcome end (items a.conditions a.text.now a.next))) n
    ∙ ap (λ is. outcome end is s') st.reads

pub leads_bad : (end : ℕ) (a : Reader) (w : Word) (s s' : State) (e : Fault) → a.word ≡ Some w → (has_level w && leb 32 (levels_at s)) ≡ false → next_state s w ≡ Some s'
    → Fails a e → outcome end (unread a) s ≡ Err e
leads_bad end a w s s' f e l n bad_next =
    at_word end a w s e
    ∙ ap (λ d. moved a.start d (next_state s w) (outcome end (items a.conditions a.text.now a.next))) l
    ∙ ap (λ q. moved a.start false q (outcome end (items a.conditions a.text.now a.next))) n
    ∙ at_bad end a f s' bad_next

-- A word that cannot follow.
pub stuck : (end : ℕ) (a : Reader) (w : Word) (s : State) → a.word ≡ Some w → next_state s w ≡ None → outcome end (unread a) s ≡ Err (fault CannotFollow a.start)
stuck end a w s e n =
    at_word end a w s e
    ∙ ap (λ q. moved a.start (has_level w && leb 32 (levels_at s)) q (outcome end (items a.conditions a.text.now a.next))) n

pub cut : (a : Reader) (s : State) → a.word ≡ None → rule_read s ≡ None → outcome (end_of a) (unread a) s ≡ Err (fault CannotFollow a.start)
cut a s e n = at_none (end_of a) a s e ∙ ap (at_end (end_of a)) n ∙ ap (λ i. Err (fault CannotFollow i)) (sym (a.ended e))

-- Words that open or fill a level.
pub entered : (end : ℕ) (a b : Reader) (w : Word) (n : ℕ) (xs : List Prefix) (o l : Option Rule) (K : Around) (s : State) → a.word ≡ Some w
    → (0 < n) × Stepped a b → length xs + depth K + n ≡ 32 → next_state (before_part xs o l K) w ≡ Some s
    → outcome end (unread a) (before_part xs o l K) ≡ outcome end (unread b) s
entered end a b w n xs o l K s e (p, st) d m =
    leads end a b w (before_part xs o l K) s e (and_right (has_level w) _ (lt-leb 32 (length xs + depth K) (omega arith))) m st

pub entered_not : (end : ℕ) (a b : Reader) (w : Word) (n : ℕ) (xs : List Prefix) (o l : Option Rule) (K : Around) (s : State) (f : Fault) → a.word ≡ Some w → has_level w ≡ true
    → Enters n a b (Err f) → length xs + depth K + n ≡ 32 → next_state (before_part xs o l K) w ≡ Some s
    → outcome end (unread a) (before_part xs o l K) ≡ Err f
entered_not end a b w n xs o l K s f e h (inl (z, is)) d m =
    at_word end a w (before_part xs o l K) e
    ∙ ap (λ v. moved a.start v (next_state (before_part xs o l K) w) (outcome end (items a.conditions a.text.now a.next)))
    (and_from (has_level w) _ h (le-leb 32 (length xs + depth K) (omega arith)))
    ∙ ap (λ q. moved a.start true q (outcome end (items a.conditions a.text.now a.next))) m
    ∙ ap Err (sym is)
entered_not end a b w n xs o l K s f e h (inr (p, next)) d m =
    leads_bad end a w (before_part xs o l K) s f e (and_right (has_level w) _ (lt-leb 32 (length xs + depth K) (omega arith))) m next

-- Words that do not.
pub passed : (end : ℕ) (a b : Reader) (w : Word) (s s' : State) → has_level w ≡ false → Took w a b → next_state s w ≡ Some s'
    → outcome end (unread a) s ≡ outcome end (unread b) s'
passed end a b w s s' h tk m = leads end a b w s s' tk.was (ap (λ v. v && leb 32 (levels_at s)) h) m tk.step

pub word_told : (o : Option Word) → (o ≡ None) ⊎ ((v : Word) × (o ≡ Some v))
word_told None = inl refl
word_told (Some v) = inr (v, refl)

pub passed_not : (a : Reader) (w : Word) (s s' : State) (f : Fault) → has_level w ≡ false → Missed w a f → next_state s w ≡ Some s' → rule_read s ≡ None
    → ((v : Word) → a.word ≡ Some v → (v ≡ w → ⊥) → next_state s v ≡ None) → outcome (end_of a) (unread a) s ≡ Err f
passed_not a w s s' _ h (faulty f e next) m r only = leads_bad (end_of a) a w s s' f e (ap (λ v. v && leb 32 (levels_at s)) h) m next
passed_not a w s s' _ h (another ne) m r only = go (word_told a.word)
  where
    go : (a.word ≡ None) ⊎ ((v : Word) × (a.word ≡ Some v)) → outcome (end_of a) (unread a) s ≡ Err (fault CannotFollow a.start)
    go (inl e) = cut a s e r
    go (inr (v, e)) = stuck (end_of a) a v s e (only v e (λ x. ne (e ∙ ap Some x)))

-- Which words can follow where.
pub only_square : (q : Quantifier) (xs : List Prefix) (o l : Option Rule) (K : Around) (v : Word) → (v ≡ OpenSquare → ⊥) → next_state (before_square q xs o l K) v ≡ None
only_square q xs o l K Yes n = refl
only_square q xs o l K (Mark k) n = refl
only_square q xs o l K (Condition k) n = refl
only_square q xs o l K (Before x) n = refl
only_square q xs o l K (Routes r) n = refl
only_square q xs o l K Until n = refl
only_square q xs o l K And n = refl
only_square q xs o l K Or n = refl
only_square q xs o l K Open n = refl
only_square q xs o l K Close n = refl
only_square q xs o l K OpenSquare n = absurd (n refl)
only_square q xs o l K CloseSquare n = refl

-- The word that ends what is open.
abbrev pub closer : Around → Option Word
closer nothing = None
closer (inside bracket xs o l K) = Some Close
closer (inside (until_first q) xs o l K) = Some Until
closer (inside (until_second q p) xs o l K) = Some CloseSquare

pub only_closer : (f : Rule) (p : Option Rule) (K : Around) (v : Word) → (v ≡ And → ⊥) → (v ≡ Or → ⊥) → (Some v ≡ closer K → ⊥)
    → next_state (behind_part p f K) v ≡ None
only_closer f p K Yes n m k = refl
only_closer f p K (Mark i) n m k = refl
only_closer f p K (Condition i) n m k = refl
only_closer f p K (Before x) n m k = refl
only_closer f p K (Routes r) n m k = refl
only_closer f p nothing Until n m k = refl
only_closer f p (inside bracket xs o l K) Until n m k = refl
only_closer f p (inside (until_first q) xs o l K) Until n m k = absurd (k refl)
only_closer f p (inside (until_second q g) xs o l K) Until n m k = refl
only_closer f p K And n m k = absurd (n refl)
only_closer f p K Or n m k = absurd (m refl)
only_closer f p K Open n m k = refl
only_closer f p nothing Close n m k = refl
only_closer f p (inside bracket xs o l K) Close n m k = absurd (k refl)
only_closer f p (inside (until_first q) xs o l K) Close n m k = refl
only_closer f p (inside (until_second q g) xs o l K) Close n m k = refl
only_closer f p K OpenSquare n m k = refl
only_closer f p nothing CloseSquare n m k = refl
only_closer f p (inside bracket xs o l K) CloseSquare n m k = refl
only_closer f p (inside (until_first q) xs o l K) CloseSquare n m k = refl
only_closer f p (inside (until_second q g) xs o l K) CloseSquare n m k = absurd (k refl)

-- The word in hand is before the next byte.
pub ahead_of : (a b : Reader) (w : Word) → a.word ≡ Some w → Stepped a b → a.start < b.start
ahead_of a b w e st =
    let some : a.word ≡ None → ⊥ = λ n. cc in
    omega (arith, a.ahead some, st.later)

pub ends_same : (a b : Reader) → Onward a b → end_of b ≡ end_of a
ends_same a b on = ap (λ x. length x.now) on.text_same

pub onward : (a b d : Reader) → Onward a b → Onward b d → Onward a d
onward a b d x y = record { text_same = y.text_same ∙ x.text_same; conditions_same = y.conditions_same ∙ x.conditions_same }

-- A word with which no part begins.
pub no_start : (v : Word) (xs : List Prefix) (o l : Option Rule) (K : Around) → start_of v ≡ None → next_state (before_part xs o l K) v ≡ None
no_start Yes xs o l K e = cc
no_start (Mark k) xs o l K e = cc
no_start (Condition k) xs o l K e = cc
no_start (Before x) xs o l K e = cc
no_start (Routes q) xs o l K e = cc
no_start Until xs o l K e = refl
no_start And xs o l K e = refl
no_start Or xs o l K e = refl
no_start Open xs o l K e = cc
no_start Close xs o l K e = refl
no_start OpenSquare xs o l K e = refl
no_start CloseSquare xs o l K e = refl

-- The words with which a part begins in one way.
pub data Begins : Word → Start → Type 0 where
  yes : Begins Yes (Atom YesRow)
  of_mark : (k : ℕ) → Begins (Mark k) (Atom (MarkRow k))
  of_condition : (k : ℕ) → Begins (Condition k) (Atom (ConditionRow k))
  of_prefix : (x : Prefix) → Begins (Before x) (AtPrefix x)
  of_bracket : Begins Open AtBracket
  of_quantifier : (q : Quantifier) → Begins (Routes q) (AtQuantifier q)

begins : (v : Word) (s : Start) → start_of v ≡ Some s → Begins v s
begins Yes s e = let same : Atom YesRow ≡ s = cc in subst (Begins Yes) same yes
begins (Mark k) s e = let same : Atom (MarkRow k) ≡ s = cc in subst (Begins (Mark k)) same (of_mark k)
begins (Condition k) s e = let same : Atom (ConditionRow k) ≡ s = cc in subst (Begins (Condition k)) same (of_condition k)
begins (Before x) s e = let same : AtPrefix x ≡ s = cc in subst (Begins (Before x)) same (of_prefix x)
begins (Routes q) s e = let same : AtQuantifier q ≡ s = cc in subst (Begins (Routes q)) same (of_quantifier q)
begins Until s e = cc
begins And s e = cc
begins Or s e = cc
begins Open s e = let same : AtBracket ≡ s = cc in subst (Begins Open) same of_bracket
begins Close s e = cc
begins OpenSquare s e = cc
begins CloseSquare s e = cc

-- What was answered of the word is that a part begins so.
pub begun : {v : Word} {r : Option Start} {s t : Start} → r ≡ start_of v → r ≡ Some s → s ≡ t → Begins v t
begun {v} e is same = subst (Begins v) same (begins v _ (sym e ∙ is))

-- A word with which a part begins opens or fills a level, and leads on.
pub begun_level : (v : Word) (s : Start) → Begins v s → has_level v ≡ true
begun_level _ _ yes = refl
begun_level _ _ (of_mark k) = refl
begun_level _ _ (of_condition k) = refl
begun_level _ _ (of_prefix x) = refl
begun_level _ _ of_bracket = refl
begun_level _ _ (of_quantifier q) = refl

pub begun_leads : (v : Word) (s : Start) (xs : List Prefix) (o l : Option Rule) (K : Around) → Begins v s
    → (t : State) × (next_state (before_part xs o l K) v ≡ Some t)
begun_leads _ _ xs o l K yes = (_, refl)
begun_leads _ _ xs o l K (of_mark k) = (_, refl)
begun_leads _ _ xs o l K (of_condition k) = (_, refl)
begun_leads _ _ xs o l K (of_prefix x) = (_, refl)
begun_leads _ _ xs o l K of_bracket = (_, refl)
begun_leads _ _ xs o l K (of_quantifier q) = (_, refl)

-- The word in hand, by how a part begins with it.
pub is_before : {h : Option Word} {v : Word} {x : Prefix} → h ≡ Some v → Begins v (AtPrefix x) → h ≡ Some (Before x)
is_before e (of_prefix x) = e

pub is_open : {h : Option Word} {v : Word} → h ≡ Some v → Begins v AtBracket → h ≡ Some Open
is_open e of_bracket = e

pub is_routes : {h : Option Word} {v : Word} {q : Quantifier} → h ≡ Some v → Begins v (AtQuantifier q) → h ≡ Some (Routes q)
is_routes e (of_quantifier q) = e
