-- How the reader works through the words. Only contracts inside the crate cite this.
use Rattle.std.specs.Prelude.{fold, ◌≡◌, ℕ, suc, ◌+◌, ◌<◌, ◌≤◌, Bool, true, false, cond, ◌&&◌, ◌⊎◌, List, [], ◌∷◌, ◌++◌, map, length, drop, Some, None, Ok, Err, Option, Result, ◌≢◌, nat_le, nat_lt}
use Rattle.std.specs.Option.{option_map}
use Rattle.routing.specs.Rules.{Rule, truth, mark, condition, both, either}
use Rattle.tables.specs.declared.row.Row.{Row}
use Rattle.tables.specs.declared.row.Operation.TheVariants.{Not as NotRow, Next as NextRow, Until as UntilRow, Always as AlwaysRow, Yes as YesRow, Mark as MarkRow, Condition as ConditionRow}
use Rattle.tables.specs.Tables.{coded}
use Rattle.rule_text.specs.declared.fault.Fault.{Fault}
use Rattle.rule_text.specs.declared.fault.FaultKind.{FaultKind}
use Rattle.rule_text.specs.declared.fault.FaultKind.TheVariants.{CannotFollow, TooDeep}
use Rattle.rule_text.specs.declared.word.Prefix.{Prefix}
use Rattle.rule_text.specs.declared.word.Prefix.TheVariants.{Not, Ex, Ax, Ef, Af, Eg, Ag}
use Rattle.rule_text.specs.declared.reader.Reader.{Reader}
use Rattle.rule_text.specs.declared.parse.Parser.{Parser}
use Rattle.rule_text.specs.declared.table.Table.{Table}
use Rattle.rule_text.specs.declared.word.Quantifier.{Quantifier}
use Rattle.rule_text.specs.declared.word.Quantifier.TheVariants.{Exists, Forall}
use Rattle.rule_text.specs.declared.word.Start.{Start}
use Rattle.rule_text.specs.declared.word.Start.TheVariants.{Atom, Prefix as AtPrefix, Bracket as AtBracket, Quantifier as AtQuantifier}
use Rattle.rule_text.specs.declared.word.Word.{Word}
use Rattle.rule_text.specs.declared.word.Word.TheVariants.{Yes, Mark, Condition, Before, Routes, Until, And, Or, Open, Close, OpenSquare, CloseSquare}
use Rattle.rule_text.specs.Faults.{fault}
use Rattle.rule_text.specs.Words.{word_of, tested}
use Rattle.rule_text.specs.Texts.{Placed, words_from}
use Rattle.rule_text.specs.Grammar.{prefix_rule, until_rule}
use Rattle.rule_text.specs.Levels.{has_level}
use Rattle.rule_text.specs.Rows.{rows_of, until_rows}
use Rattle.rule_text.specs.Reading.{table_rows}

-- A word that passed its first two tests, with its byte; or the fault of one that did not.
pub data Item : Type 0 where
  good : ℕ → Word → Item
  bad : Fault → Item

abbrev pub item_of : ℕ → Result Word FaultKind → Item
item_of i (Ok w) = good i w
item_of i (Err kind) = bad (fault kind i)

abbrev pub item : ℕ → Placed → Item
item K p = item_of p.at (tested K (word_of p.bytes))

-- The items of a text from byte i on.
abbrev pub items : ℕ → List ℕ → ℕ → List Item
items K text i = map (item K) (words_from i (drop i text))

-- How a part begins with a word; absent where none does.
abbrev pub start_of : Word → Option Start
start_of Yes = Some (Atom YesRow)
start_of (Mark k) = Some (Atom (MarkRow k))
start_of (Condition k) = Some (Atom (ConditionRow k))
start_of (Before x) = Some (AtPrefix x)
start_of (Routes q) = Some (AtQuantifier q)
start_of Open = Some AtBracket
start_of Until = None
start_of And = None
start_of Or = None
start_of Close = None
start_of OpenSquare = None
start_of CloseSquare = None

-- The items that are left: the word in hand, which stands at a byte, and those behind it.
abbrev pub left : Option Word → ℕ → List Item → List Item
left None i rest = []
left (Some w) i rest = good i w ∷ rest

-- What is open around a rule: a bracket, or an until that lacks its second part or its end.
pub data Opening : Type 0 where
  bracket : Opening
  until_first : Quantifier → Opening
  until_second : Quantifier → Rule → Opening

-- The openings around a place, the innermost first, each with the prefixes and the left operands that wait for it.
pub data Around : Type 0 where
  nothing : Around
  inside : Opening → List Prefix → Option Rule → Option Rule → Around → Around

-- Where the reader stands. Prefixes are listed from the innermost; the operands are those left of `|` and of `&`.
pub data State : Type 0 where
  -- before the part of the prefixes
  before_part : List Prefix → Option Rule → Option Rule → Around → State
  -- before the `[` of an until
  before_square : Quantifier → List Prefix → Option Rule → Option Rule → Around → State
  -- behind a part, which with the operands of `&` is this rule
  behind_part : Option Rule → Rule → Around → State

abbrev pub and_with : Option Rule → Rule → Rule
and_with None q = q
and_with (Some p) q = both p q

abbrev pub or_with : Option Rule → Rule → Rule
or_with None q = q
or_with (Some p) q = either p q

abbrev pub wrapped : List Prefix → Rule → Rule
wrapped [] p = p
wrapped (x ∷ xs) p = wrapped xs (prefix_rule x p)

-- The part is read.
abbrev pub part_done : List Prefix → Option Rule → Option Rule → Around → Rule → State
part_done xs o a K p = behind_part o (and_with a (wrapped xs p)) K

-- Behind a whole rule f, by the word that ends it.
abbrev pub close_bracket : Around → Rule → Option State
close_bracket nothing f = None
close_bracket (inside bracket xs o a K) f = Some (part_done xs o a K f)
close_bracket (inside (until_first q) xs o a K) f = None
close_bracket (inside (until_second q p) xs o a K) f = None

abbrev pub second_part : Around → Rule → Option State
second_part nothing f = None
second_part (inside bracket xs o a K) f = None
second_part (inside (until_first q) xs o a K) f = Some (before_part [] None None (inside (until_second q f) xs o a K))
second_part (inside (until_second q p) xs o a K) f = None

abbrev pub close_until : Around → Rule → Option State
close_until nothing f = None
close_until (inside bracket xs o a K) f = None
close_until (inside (until_first q) xs o a K) f = None
close_until (inside (until_second q p) xs o a K) f = Some (part_done xs o a K (until_rule q p f))

-- Where a word leads; absent where it cannot follow.
abbrev pub next_state : State → Word → Option State
next_state (before_part xs o a K) Yes = Some (part_done xs o a K truth)
next_state (before_part xs o a K) (Mark k) = Some (part_done xs o a K (mark k))
next_state (before_part xs o a K) (Condition k) = Some (part_done xs o a K (condition k))
next_state (before_part xs o a K) (Before x) = Some (before_part (x ∷ xs) o a K)
next_state (before_part xs o a K) (Routes q) = Some (before_square q xs o a K)
next_state (before_part xs o a K) Open = Some (before_part [] None None (inside bracket xs o a K))
next_state (before_part xs o a K) Until = None
next_state (before_part xs o a K) And = None
next_state (before_part xs o a K) Or = None
next_state (before_part xs o a K) Close = None
next_state (before_part xs o a K) OpenSquare = None
next_state (before_part xs o a K) CloseSquare = None
next_state (before_square q xs o a K) Yes = None
next_state (before_square q xs o a K) (Mark k) = None
next_state (before_square q xs o a K) (Condition k) = None
next_state (before_square q xs o a K) (Before x) = None
next_state (before_square q xs o a K) (Routes r) = None
next_state (before_square q xs o a K) Open = None
next_state (before_square q xs o a K) Until = None
next_state (before_square q xs o a K) And = None
next_state (before_square q xs o a K) Or = None
next_state (before_square q xs o a K) Close = None
next_state (before_square q xs o a K) OpenSquare = Some (before_part [] None None (inside (until_first q) xs o a K))
next_state (before_square q xs o a K) CloseSquare = None
next_state (behind_part o p K) Yes = None
next_state (behind_part o p K) (Mark k) = None
next_state (behind_part o p K) (Condition k) = None
next_state (behind_part o p K) (Before x) = None
next_state (behind_part o p K) (Routes q) = None
next_state (behind_part o p K) Open = None
next_state (behind_part o p K) Until = second_part K (or_with o p)
next_state (behind_part o p K) And = Some (before_part [] o (Some p) K)
next_state (behind_part o p K) Or = Some (before_part [] (Some (or_with o p)) None K)
next_state (behind_part o p K) Close = close_bracket K (or_with o p)
next_state (behind_part o p K) OpenSquare = None
next_state (behind_part o p K) CloseSquare = close_until K (or_with o p)

-- The open levels.
abbrev pub depth : Around → ℕ
depth nothing = 0
depth (inside k xs o a K) = suc (length xs + depth K)

abbrev pub levels_at : State → ℕ
levels_at (before_part xs o a K) = length xs + depth K
levels_at (before_square q xs o a K) = suc (length xs + depth K)
levels_at (behind_part o p K) = depth K

-- The rule, where the text may end.
abbrev pub whole : Around → Rule → Option Rule
whole nothing f = Some f
whole (inside k xs o a K) f = None

abbrev pub rule_read : State → Option Rule
rule_read (before_part xs o a K) = None
rule_read (before_square q xs o a K) = None
rule_read (behind_part o p K) = whole K (or_with o p)

abbrev pub at_end : ℕ → Option Rule → Result Rule Fault
at_end end None = Err (fault CannotFollow end)
at_end end (Some f) = Ok f

abbrev pub level_tested : Bool → ℕ → Result Rule Fault → Result Rule Fault
level_tested true i r = Err (fault TooDeep i)
level_tested false i r = r

-- At byte i: where a word leads, and what comes of it from there.
abbrev pub moved : ℕ → Bool → Option State → (State → Result Rule Fault) → Result Rule Fault
moved i deep None from = Err (fault CannotFollow i)
moved i deep (Some s) from = level_tested deep i (from s)

-- What the items come to, from a state on, in a text of `end` bytes.
unfoldable pub outcome : ℕ → List Item → State → Result Rule Fault
outcome end [] s = at_end end (rule_read s)
outcome end (bad e ∷ rest) s = Err e
outcome end (good i w ∷ rest) s = moved i (has_level w && nat_le 32 (levels_at s)) (next_state s w) (outcome end rest)

-- The rows so far; absent where they are over 32.
abbrev pub rows_kept : Option Table → Option (List Row)
rows_kept t = option_map table_rows t

-- Where rows are kept, the number of the next one.
abbrev pub next_number : Option (List Row) → ℕ
next_number None = 0
next_number (Some rows) = length rows

abbrev pub push_row : Option (List Row) → Row → Option (List Row)
push_row None row = None
push_row (Some rows) row = cond (nat_lt (length rows) 32) (Some (rows ++ (row ∷ []))) None

abbrev pub push_rows : Option (List Row) → List Row → Option (List Row)
push_rows t rows = fold push_row t rows

-- Where rows are kept, r is the number of the last one.
abbrev pub LastIs : Option (List Row) → ℕ → Type 0
LastIs None r = Unit {0}
LastIs (Some rows) r = length rows ≡ suc r

-- The rows of the rule are added, and r is the number of the last one.
pub record Added (t u : Option Table) (f : Rule) (r : ℕ) : Type 0 where
  pub rows_are : rows_kept u ≡ push_rows (rows_kept t) (rows_of (next_number (rows_kept t)) f)
  pub last_is : LastIs (rows_kept u) r

-- The row before the part of a prefix.
abbrev pub opening_rows : Prefix → List Row
opening_rows Not = []
opening_rows Ex = []
opening_rows Ax = []
opening_rows Ef = coded YesRow ∷ []
opening_rows Af = []
opening_rows Eg = []
opening_rows Ag = coded YesRow ∷ []

-- The rows behind the part of a prefix: y is the number of the row before it, p that of its last row, n that of the next row.
abbrev pub closing_rows : Prefix → ℕ → ℕ → ℕ → List Row
closing_rows Not y p n = coded (NotRow p) ∷ []
closing_rows Ex y p n = coded (NextRow p) ∷ []
closing_rows Ax y p n = coded (NotRow p) ∷ coded (NextRow n) ∷ coded (NotRow (n + 1)) ∷ []
closing_rows Ef y p n = coded (UntilRow y p) ∷ []
closing_rows Af y p n = coded (NotRow p) ∷ coded (AlwaysRow n) ∷ coded (NotRow (n + 1)) ∷ []
closing_rows Eg y p n = coded (AlwaysRow p) ∷ []
closing_rows Ag y p n = coded (NotRow p) ∷ coded (UntilRow y n) ∷ coded (NotRow (n + 1)) ∷ []

-- The rows behind the parts of an until.
abbrev pub closing_until : Quantifier → ℕ → ℕ → ℕ → List Row
closing_until Exists p q n = coded (UntilRow p q) ∷ []
closing_until Forall p q n = until_rows p q n

-- The items that a reader has left, with the word in hand.
abbrev pub unread : Reader → List Item
unread r = left r.word r.start (items r.conditions r.text.now r.next)

abbrev pub end_of : Reader → ℕ
end_of r = length r.text.now

-- The same text is read, for the same conditions.
pub record Onward (a b : Reader) : Type 0 where
  pub text_same : b.text ≡ a.text
  pub conditions_same : b.conditions ≡ a.conditions

-- The next word is in hand.
pub record Stepped (a b : Reader) : Type 0 where
  pub reads : items a.conditions a.text.now a.next ≡ unread b
  pub later : a.next ≤ b.start

-- The next word fails its first two tests.
abbrev pub Fails : Reader → Fault → Type 0
Fails a e = (rest : List Item) × (items a.conditions a.text.now a.next ≡ bad e ∷ rest)

-- The word in hand was w, and the next one is in hand.
pub record Took (w : Word) (a b : Reader) : Type 0 where
  pub was : a.word ≡ Some w
  pub step : Stepped a b

-- Taking the word w fails: it is another, or the next one fails its first two tests.
pub data Missed (w : Word) (a : Reader) : Fault → Type 0 where
  another : (a.word ≢ Some w) → Missed w a (fault CannotFollow a.start)
  faulty : (e : Fault) → a.word ≡ Some w → Fails a e → Missed w a e

abbrev pub Takes : Word → Reader → Reader → Result (Unit {0}) Fault → Type 0
Takes w a b (Ok u) = Took w a b
Takes w a b (Err e) = Missed w a e

-- With n levels left, what is read as a part, as parts joined by `&` or as a whole rule comes to the fault.
abbrev pub OneFails : ℕ → Reader → Fault → Type 0
OneFails n a e =
    (xs : List Prefix) (o l : Option Rule) (K : Around) → length xs + depth K + n ≡ 32
    → outcome (end_of a) (unread a) (before_part xs o l K) ≡ Err e

abbrev pub BothFails : ℕ → Reader → Fault → Type 0
BothFails n a e =
    (o : Option Rule) (K : Around) → depth K + n ≡ 32 → outcome (end_of a) (unread a) (before_part [] o None K) ≡ Err e

abbrev pub ChoiceFails : ℕ → Reader → Fault → Type 0
ChoiceFails n a e = (K : Around) → depth K + n ≡ 32 → outcome (end_of a) (unread a) (before_part [] None None K) ≡ Err e

-- `one` with n levels left: from any place before a part it comes behind the part, or to its fault.
abbrev pub OneRead : ℕ → Parser → Parser → Result ℕ Fault → Type 0
OneRead n a b (Ok r) =
    (f : Rule) × Added a.table b.table f r × (a.reader.start < b.reader.start)
    × ((xs : List Prefix) (o l : Option Rule) (K : Around) → length xs + depth K + n ≡ 32
    → outcome (end_of a.reader) (unread a.reader) (before_part xs o l K) ≡ outcome (end_of a.reader) (unread b.reader) (part_done xs o l K f))
OneRead n a b (Err e) = OneFails n a.reader e

-- `both` with n levels left: the parts joined by `&`.
abbrev pub BothRead : ℕ → Parser → Parser → Result ℕ Fault → Type 0
BothRead n a b (Ok r) =
    (f : Rule) × Added a.table b.table f r × (a.reader.start < b.reader.start) × (b.reader.word ≢ Some And)
    × ((o : Option Rule) (K : Around) → depth K + n ≡ 32
    → outcome (end_of a.reader) (unread a.reader) (before_part [] o None K) ≡ outcome (end_of a.reader) (unread b.reader) (behind_part o f K))
BothRead n a b (Err e) = BothFails n a.reader e

-- `choice` with n levels left: a whole rule.
abbrev pub ChoiceRead : ℕ → Parser → Parser → Result ℕ Fault → Type 0
ChoiceRead n a b (Ok r) =
    (o : Option Rule) × (f : Rule) × Added a.table b.table (or_with o f) r × (a.reader.start < b.reader.start) × (b.reader.word ≢ Some And) × (b.reader.word ≢ Some Or)
    × ((K : Around) → depth K + n ≡ 32
    → outcome (end_of a.reader) (unread a.reader) (before_part [] None None K) ≡ outcome (end_of a.reader) (unread b.reader) (behind_part o f K))
ChoiceRead n a b (Err e) = ChoiceFails n a.reader e

-- Going past a word that opens or fills a level, with n levels left.
abbrev pub Enters : ℕ → Reader → Reader → Result (Unit {0}) Fault → Type 0
Enters n a b (Ok u) = (0 < n) × Stepped a b
Enters n a b (Err e) = ((n ≡ 0) × (e ≡ fault TooDeep a.start)) ⊎ ((0 < n) × Fails a e)

-- The loop of `both`, which began at a and v, and has come to b and r.
abbrev pub Joining : ℕ → Parser → Parser → ℕ → ℕ → Type 0
Joining n a b v r =
    (t₀ : Option Table) (f₀ : Rule) → Added t₀ a.table f₀ v
    → (f : Rule) × Added t₀ b.table f r
    × ((o : Option Rule) (K : Around) → depth K + n ≡ 32
    → outcome (end_of a.reader) (unread a.reader) (behind_part o f₀ K) ≡ outcome (end_of a.reader) (unread b.reader) (behind_part o f K))

-- The loop of `choice`.
abbrev pub Choosing : ℕ → Parser → Parser → ℕ → ℕ → Type 0
Choosing n a b v r =
    (t₀ : Option Table) (o₀ : Option Rule) (f₀ : Rule) → Added t₀ a.table (or_with o₀ f₀) v
    → (o : Option Rule) × (f : Rule) × Added t₀ b.table (or_with o f) r
    × ((K : Around) → depth K + n ≡ 32
    → outcome (end_of a.reader) (unread a.reader) (behind_part o₀ f₀ K) ≡ outcome (end_of a.reader) (unread b.reader) (behind_part o f K))
