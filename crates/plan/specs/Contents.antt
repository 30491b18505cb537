-- What the fields of a file hold, whether or not it is the file of a plan.
use Rattle.std.specs.Prelude.{ℕ, zero, suc, ◌+◌, ◌*◌, List, [], ◌∷◌, take, drop}
use Rattle.conditions.specs.declared.word.Word.{Word}
use Rattle.conditions.specs.WordSets.{word_holds}
use Rattle.routing.specs.declared.binding.Binding.{Binding}
use Rattle.routing.specs.Net.{Net}
use Rattle.routing.specs.Bindings.{net_of}
use Rattle.plan.specs.Numbers.{field}
use Rattle.plan.specs.Format.{Plan, first_body, bindings_start, rules_start}

-- The three counts.
abbrev pub place_count : List ℕ → ℕ
place_count file = field 2 2 file

abbrev pub binding_count : List ℕ → ℕ
binding_count file = field 2 10 file

abbrev pub rule_count : List ℕ → ℕ
rule_count file = field 2 18 file

-- f 0 to f (n - 1).
unfoldable pub listed : {A : Type 0} → ℕ → (ℕ → A) → List A
listed zero f = []
listed (suc n) f = f 0 ∷ listed n (λ k. f (suc k))

-- The marks of place i.
abbrev pub mark_at : List ℕ → ℕ → ℕ
mark_at file i = field 4 (first_body + 4 * i) file

-- The byte where binding i begins, and the binding.
abbrev pub binding_byte : List ℕ → ℕ → ℕ
binding_byte file i = bindings_start (place_count file) + 12 * i

abbrev pub binding_at : List ℕ → ℕ → Binding Word
binding_at file i = record {
  from = field 2 (binding_byte file i) file;
  to = field 2 (binding_byte file i + 2) file;
  set = record { 0 = field 8 (binding_byte file i + 4) file };
}

-- The byte where rule i begins, with the length of its text, and the text.
unfoldable pub rule_byte : List ℕ → ℕ → ℕ
rule_byte file zero = rules_start (place_count file) (binding_count file)
rule_byte file (suc i) = rule_byte file i + 2 + field 2 (rule_byte file i) file

abbrev pub text_at : List ℕ → ℕ → List ℕ
text_at file i = take (field 2 (rule_byte file i) file) (drop (rule_byte file i + 2) file)

-- The plan that the fields hold.
abbrev pub plan_of : List ℕ → Plan
plan_of file = record {
  marks = listed (place_count file) (mark_at file);
  records = listed (binding_count file) (binding_at file);
  texts = listed (rule_count file) (text_at file);
}

-- The network of a plan: of its marks and bindings, over six conditions.
abbrev pub plan_net : Plan → Net
plan_net p = net_of 6 word_holds p.marks p.records
