-- Binding records with the set of one of them replaced.
use Rattle.std.specs.Prelude.{ℕ, List, slice_index_or, slice_set}
use Rattle.conditions.specs.declared.word.Word.{Word}
use Rattle.routing.specs.declared.binding.Binding.{Binding}

-- The word that holds no setting.
abbrev pub no_setting : Word
no_setting = record { 0 = 0 }

-- What stands for a binding beyond the last one.
abbrev pub no_binding : Binding Word
no_binding = record { from = 0; to = 0; set = no_setting }

-- The set of binding i.
abbrev pub set_at : List (Binding Word) → ℕ → Word
set_at records i = (slice_index_or records i no_binding).set

-- The records with s as the set of binding i; the same records where i is no binding.
abbrev pub with_set : List (Binding Word) → ℕ → Word → List (Binding Word)
with_set records i s =
    slice_set records i (record { from = (slice_index_or records i no_binding).from; to = (slice_index_or records i no_binding).to; set = s })

-- The records with binding i shut: it forwards under no setting.
abbrev pub shut_at : ℕ → List (Binding Word) → List (Binding Word)
shut_at i records = with_set records i no_setting
