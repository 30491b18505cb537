-- The plan file: the bytes of a plan.
use Rattle.std.specs.Prelude.{ℕ, ◌+◌, ◌*◌, List, [], ◌∷◌, ◌++◌, length}
use Rattle.conditions.specs.declared.word.Word.{Word}
use Rattle.routing.specs.declared.binding.Binding.{Binding}
use Rattle.plan.specs.Numbers.{bytes_of}

-- A plan: the marks of each place, the bindings, and the rules as text.
pub record Plan : Type 0 where
  pub marks : List ℕ
  pub records : List (Binding Word)
  pub texts : List (List ℕ)

-- The byte where the first body begins: behind three contents entries of eight bytes.
abbrev pub first_body : ℕ
first_body = 24

-- The bytes where the bodies of n places and of b bindings end, and the next one begins.
abbrev pub bindings_start : ℕ → ℕ
bindings_start n = first_body + 4 * n

abbrev pub rules_start : ℕ → ℕ → ℕ
rules_start n b = bindings_start n + 12 * b

-- The length of the longest file: of 256 places, 4096 bindings and eight rules of 200 bytes.
abbrev pub longest : ℕ
longest = rules_start 256 4096 + 8 * 202

-- A contents entry: the kind of a body, how many it has, and the byte where it begins.
abbrev pub entry : ℕ → ℕ → ℕ → List ℕ
entry kind count start = bytes_of 2 kind ++ (bytes_of 2 count ++ bytes_of 4 start)

-- The contents of n places, b bindings and r rules.
abbrev pub contents : ℕ → ℕ → ℕ → List ℕ
contents n b r = entry 1 n first_body ++ (entry 2 b (bindings_start n) ++ entry 3 r (rules_start n b))

-- A binding: from, to, and the word of its settings.
abbrev pub binding_bytes : Binding Word → List ℕ
binding_bytes b = bytes_of 2 b.from ++ (bytes_of 2 b.to ++ bytes_of 8 b.set.0)

-- A rule: the length of its text, and the text.
abbrev pub text_bytes : List ℕ → List ℕ
text_bytes t = bytes_of 2 (length t) ++ t

-- What f gives of each, one behind the other.
unfoldable pub flat : {A : Type 0} → (A → List ℕ) → List A → List ℕ
flat f [] = []
flat f (x ∷ xs) = f x ++ flat f xs

-- The file of a plan.
unfoldable pub encoded : Plan → List ℕ
encoded p =
    contents (length p.marks) (length p.records) (length p.texts)
    ++ (flat (bytes_of 4) p.marks ++ (flat binding_bytes p.records ++ flat text_bytes p.texts))
