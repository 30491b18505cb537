-- How a text parts into words: the longest runs of letters and digits, and any other byte but the space by itself.
use Rattle.std.specs.Prelude.{ℕ, suc, Bool, false, cond, ◌&&◌, List, [], ◌∷◌, ◌==◌}
use Rattle.std.specs.Char.{is_ascii_alphanumeric}

-- The bytes of a word, and the number of the first of them.
pub record Placed : Type 0 where
  pub at : ℕ
  pub bytes : List ℕ

abbrev pub placed : ℕ → List ℕ → Placed
placed i s = record { at = i; bytes = s }

-- The bytes begin with a letter or a digit.
abbrev pub begins_run : List ℕ → Bool
begins_run [] = false
begins_run (b ∷ bs) = is_ascii_alphanumeric b

-- The byte with number i joins the word right behind it.
abbrev pub lengthened : ℕ → ℕ → List Placed → List Placed
lengthened i b [] = placed i (b ∷ []) ∷ []
lengthened i b (w ∷ ws) = placed i (b ∷ w.bytes) ∷ ws

-- The words of bytes, of which the first has number i. The space parts words.
unfoldable pub words_from : ℕ → List ℕ → List Placed
words_from i [] = []
words_from i (b ∷ bs) =
    cond (b == 32) (words_from (suc i) bs)
    (cond (is_ascii_alphanumeric b && begins_run bs) (lengthened i b (words_from (suc i) bs))
    (placed i (b ∷ []) ∷ words_from (suc i) bs))
