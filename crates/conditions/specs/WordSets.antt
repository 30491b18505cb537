-- What a set of one word holds.
use Rattle.std.specs.Prelude.{ℕ, Bool, ◌&&◌, nat_lt}
use Rattle.conditions.specs.declared.word.Word.{Word}
use Rattle.conditions.specs.Sets.{bit}

-- Setting a is in a word over six conditions where bit a is 1.
abbrev pub word_holds : Word → ℕ → Bool
word_holds s a = nat_lt a 64 && bit s.0 a
