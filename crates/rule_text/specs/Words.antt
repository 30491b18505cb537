-- The words of rule text: how a text parts into them, and which bytes spell which word.
use Rattle.std.specs.Prelude.{ℕ, ◌+◌, ◌-◌, ◌*◌, Bool, true, cond, List, [], ◌∷◌, Some, None, Ok, Err, codes, Option, Result, ◌==◌, nat_lt}
use Rattle.std.specs.Char.{is_ascii_digit}
use Rattle.std.specs.Option.{option_map}
use Rattle.std.specs.Str.{bytes_eq}
use Rattle.rule_text.specs.declared.fault.FaultKind.{FaultKind}
use Rattle.rule_text.specs.declared.fault.FaultKind.TheVariants.{UnknownWord, OutOfRange}
use Rattle.rule_text.specs.declared.word.Prefix.{Prefix}
use Rattle.rule_text.specs.declared.word.Prefix.TheVariants.{Not, Ex, Ax, Ef, Af, Eg, Ag}
use Rattle.rule_text.specs.declared.word.Quantifier.TheVariants.{Exists, Forall}
use Rattle.rule_text.specs.declared.word.Word.{Word}
use Rattle.rule_text.specs.declared.word.Word.TheVariants.{Yes, Mark, Condition, Before, Routes, Until, And, Or, Open, Close, OpenSquare, CloseSquare}

-- The number that decimal digits write, after digits that write n.
abbrev pub number_from : ℕ → List ℕ → Option ℕ
number_from n [] = Some n
number_from n (d ∷ ds) = cond (is_ascii_digit d) (number_from (n * 10 + (d - 48)) ds) None

-- A decimal number without leading zeros, of any length.
abbrev pub number_of : List ℕ → Option ℕ
number_of [] = None
number_of (d ∷ []) = number_from 0 (d ∷ [])
number_of (d ∷ e ∷ ds) = cond (d == 48) None (number_from 0 (d ∷ e ∷ ds))

-- The words of one byte: E A U ! & | ( ) [ ]
abbrev pub one_byte : ℕ → Option Word
one_byte b =
    cond (b == 69) (Some (Routes Exists))
    (cond (b == 65) (Some (Routes Forall))
    (cond (b == 85) (Some Until)
    (cond (b == 33) (Some (Before Not))
    (cond (b == 38) (Some And)
    (cond (b == 124) (Some Or)
    (cond (b == 40) (Some Open)
    (cond (b == 41) (Some Close)
    (cond (b == 91) (Some OpenSquare)
    (cond (b == 93) (Some CloseSquare) None)))))))))

-- EX AX EF AF EG AG
abbrev pub two_letters : List ℕ → Option Prefix
two_letters s =
    cond (bytes_eq s (codes "EX")) (Some Ex)
    (cond (bytes_eq s (codes "AX")) (Some Ax)
    (cond (bytes_eq s (codes "EF")) (Some Ef)
    (cond (bytes_eq s (codes "AF")) (Some Af)
    (cond (bytes_eq s (codes "EG")) (Some Eg)
    (cond (bytes_eq s (codes "AG")) (Some Ag) None)))))

-- yes and the two-letter words
abbrev pub named_word : List ℕ → Option Word
named_word s = cond (bytes_eq s (codes "yes")) (Some Yes) (option_map Before (two_letters s))

-- The word that bytes spell, if any: m and c stand before a number.
abbrev pub word_of : List ℕ → Option Word
word_of [] = None
word_of (b ∷ []) = one_byte b
word_of (b ∷ c ∷ s) =
    cond (b == 109) (option_map Mark (number_of (c ∷ s)))
    (cond (b == 99) (option_map Condition (number_of (c ∷ s)))
    (named_word (b ∷ c ∷ s)))

-- Marks are 0 to 31, and conditions are those below K.
abbrev pub in_range : ℕ → Word → Bool
in_range K Yes = true
in_range K (Mark k) = nat_lt k 32
in_range K (Condition k) = nat_lt k K
in_range K (Before x) = true
in_range K (Routes q) = true
in_range K Until = true
in_range K And = true
in_range K Or = true
in_range K Open = true
in_range K Close = true
in_range K OpenSquare = true
in_range K CloseSquare = true

-- The first two tests of a word: it is one, and its number is in range.
abbrev pub tested : ℕ → Option Word → Result Word FaultKind
tested K None = Err UnknownWord
tested K (Some w) = cond (in_range K w) (Ok w) (Err OutOfRange)

-- The same tests of the number of a mark or a condition: it is one, and it is below the limit.
abbrev pub number_below : ℕ → Option ℕ → Result ℕ FaultKind
number_below limit None = Err UnknownWord
number_below limit (Some n) = cond (nat_lt n limit) (Ok n) (Err OutOfRange)
