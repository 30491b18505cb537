-- What reading a text comes to: the rule that it is, or the one refusal with its byte.
use Rattle.std.specs.Prelude.{◌≡◌, ℕ, ◌-◌, ◌<◌, ◌≤◌, true, ◌↔◌, List, [], ◌∷◌, ◌++◌, length, take, Ok, Err, Result}
use Rattle.routing.specs.Net.{Net, Pos, Within}
use Rattle.routing.specs.Rules.{Rule, Means}
use Rattle.tables.specs.declared.row.Row.{Row}
use Rattle.tables.specs.Tables.{rule_at}
use Rattle.rule_text.specs.declared.fault.Fault.{Fault}
use Rattle.rule_text.specs.declared.fault.FaultKind.{FaultKind}
use Rattle.rule_text.specs.declared.fault.FaultKind.TheVariants.{CannotFollow, TooDeep, TooManyRows, TooLong}
use Rattle.rule_text.specs.declared.table.Table.{Table}
use Rattle.rule_text.specs.declared.word.Word.{Word}
use Rattle.rule_text.specs.Faults.{fault}
use Rattle.rule_text.specs.Words.{word_of, tested}
use Rattle.rule_text.specs.Texts.{Placed, words_from}
use Rattle.rule_text.specs.Grammar.{IsRule, CanFollow, Spelled}
use Rattle.rule_text.specs.Brackets.{all_in_range}
use Rattle.rule_text.specs.Levels.{level, has_level}
use Rattle.rule_text.specs.Rows.{rows_of}

-- Words are taken from the left, for a set of K conditions, in a text of `end` bytes. `before` are the words taken so far.
pub data Taking (K end : ℕ) : List Word → List Placed → Result Rule Fault → Type 0 where
  -- The word is unknown, or its number out of range.
  refused : (before : List Word) (p : Placed) (ps : List Placed) (kind : FaultKind) → tested K (word_of p.bytes) ≡ Err kind
      → Taking K end before (p ∷ ps) (Err (fault kind p.at))
  -- The word cannot follow.
  unfit : (before : List Word) (p : Placed) (ps : List Placed) (w : Word) → tested K (word_of p.bytes) ≡ Ok w
      → ¬ (CanFollow before w) → Taking K end before (p ∷ ps) (Err (fault CannotFollow p.at))
  -- The word would stand at a 33rd level.
  deep : (before : List Word) (p : Placed) (ps : List Placed) (w : Word) → tested K (word_of p.bytes) ≡ Ok w
      → CanFollow before w → has_level w ≡ true → 32 < level before → Taking K end before (p ∷ ps) (Err (fault TooDeep p.at))
  -- The word passes all tests, and the next one is taken.
  taken : (before : List Word) (p : Placed) (ps : List Placed) (w : Word) (r : Result Rule Fault) → tested K (word_of p.bytes) ≡ Ok w
      → CanFollow before w → (has_level w ≡ true → level before ≤ 32)
      → Taking K end (before ++ (w ∷ [])) ps r → Taking K end before (p ∷ ps) r
  -- The words end, and are no rule.
  unfinished : (before : List Word) → ((f : Rule) → ¬ (IsRule before f)) → Taking K end before [] (Err (fault CannotFollow end))
  -- They are a rule, whose table would have more than 32 rows.
  crowded : (before : List Word) (f : Rule) → IsRule before f → 32 < length (rows_of 0 f) → Taking K end before [] (Err (fault TooManyRows end))
  -- They are a rule that fits.
  fits : (before : List Word) (f : Rule) → IsRule before f → length (rows_of 0 f) ≤ 32 → Taking K end before [] (Ok f)

-- What reading a text comes to, for a set of K conditions.
pub data Reading (K : ℕ) : List ℕ → Result Rule Fault → Type 0 where
  too_long : (text : List ℕ) → 200 < length text → Reading K text (Err (fault TooLong 200))
  read : (text : List ℕ) (r : Result Rule Fault) → length text ≤ 200 → Taking K (length text) [] (words_from 0 text) r → Reading K text r

-- No word stands at a 33rd level, behind the words before.
abbrev pub LevelsFit : List Word → List Word → Type 0
LevelsFit before [] = Unit {0}
LevelsFit before (w ∷ ws) = (has_level w ≡ true → level before ≤ 32) × LevelsFit (before ++ (w ∷ [])) ws

-- The text is the rule and keeps to every limit: this is when it is read as the rule.
pub record Fits (K : ℕ) (text : List ℕ) (f : Rule) : Type 0 where
  pub short : length text ≤ 200
  pub words : List Word
  pub spelled : Spelled (words_from 0 text) words
  pub rule : IsRule words f
  pub numbers : all_in_range K words ≡ true
  pub levels : LevelsFit [] words
  pub rows : length (rows_of 0 f) ≤ 32

-- The rows of a table.
abbrev pub table_rows : Table → List Row
table_rows t = take t.len t.rows

-- What a text is answered with, for a set of K conditions: the table of exactly its rule, or exactly its refusal.
abbrev pub Answer : ℕ → List ℕ → Result Table Fault → Type 0
Answer K text (Ok t) = (f : Rule) × Reading K text (Ok f) × (table_rows t ≡ rows_of 0 f)
Answer K text (Err e) = Reading K text (Err e)

-- The table stands for the rule: its last row is true just where the rule is, at every position of every network.
-- The A forms of the rule are said of every route by their own definition.
abbrev pub StandsFor : List Row → Rule → Type 0
StandsFor rows f = (N : Net) (x : Pos) → Within N x → Means N f x ↔ Means N (rule_at rows (length rows - 1)) x
