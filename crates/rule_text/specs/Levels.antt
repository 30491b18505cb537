-- The level at which a word stands.
use Rattle.std.specs.Prelude.{fold, ℕ, suc, Bool, true, false, List, [], ◌∷◌, length}
use Rattle.rule_text.specs.declared.word.Word.{Word}
use Rattle.rule_text.specs.declared.word.Word.TheVariants.{Yes, Mark, Condition, Before, Routes, Until, And, Or, Open, Close, OpenSquare, CloseSquare}

-- An open level, the innermost first: of `!` or a two-letter word, or of `(`, `E` or `A`.
pub data Opened : Type 0 where
  prefix : Opened
  group : Opened

-- A part has ended, and with it the levels of the prefixes before it.
abbrev pub part_ended : List Opened → List Opened
part_ended [] = []
part_ended (prefix ∷ open_levels) = part_ended open_levels
part_ended (group ∷ open_levels) = group ∷ open_levels

-- A group has ended, and it is the part of the prefixes before it.
abbrev pub group_ended : List Opened → List Opened
group_ended [] = []
group_ended (o ∷ open_levels) = part_ended open_levels

-- The open levels behind a word.
abbrev pub behind : List Opened → Word → List Opened
behind s Yes = part_ended s
behind s (Mark k) = part_ended s
behind s (Condition k) = part_ended s
behind s (Before x) = prefix ∷ s
behind s (Routes q) = group ∷ s
behind s Open = group ∷ s
behind s Close = group_ended s
behind s CloseSquare = group_ended s
behind s OpenSquare = s
behind s Until = s
behind s And = s
behind s Or = s

-- The open levels behind words.
abbrev pub behind_all : List Opened → List Word → List Opened
behind_all s ws = fold behind s ws

-- The level of a word that follows these words.
abbrev pub level : List Word → ℕ
level before = suc (length (behind_all [] before))

-- The words that open a level or fill one.
abbrev pub has_level : Word → Bool
has_level Yes = true
has_level (Mark k) = true
has_level (Condition k) = true
has_level (Before x) = true
has_level (Routes q) = true
has_level Open = true
has_level Close = false
has_level CloseSquare = false
has_level OpenSquare = false
has_level Until = false
has_level And = false
has_level Or = false
