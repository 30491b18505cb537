-- The trial networks P and L.
use Rattle.std.specs.Prelude.{ℕ, List, [], ◌∷◌}
use Rattle.conditions.specs.declared.word.Word.{Word}
use Rattle.conditions.specs.WordSets.{word_holds}
use Rattle.routing.specs.declared.binding.Binding.{Binding}
use Rattle.routing.specs.Net.{Net, Pos}
use Rattle.routing.specs.Bindings.{net_of}

-- The words of every setting, of those with condition 0 on, and of those with it off.
abbrev pub always : Word
always = record { 0 = 0xFFFF_FFFF_FFFF_FFFF }

abbrev pub while_on : Word
while_on = record { 0 = 0xAAAA_AAAA_AAAA_AAAA }

abbrev pub while_off : Word
while_off = record { 0 = 0x5555_5555_5555_5555 }

-- P: place 0 has mark 0 and place 1 has mark 1; 0 to 1 while condition 0 is on.
abbrev pub p_marks : List ℕ
p_marks = 1 ∷ 2 ∷ []

abbrev pub p_records : List (Binding Word)
p_records = record { from = 0; to = 1; set = while_on } ∷ []

-- L: place 0 has mark 0 and place 2 has mark 1; 0 to 1 always, 1 to 2 while condition 0 is on, 1 to 0 while it is off.
abbrev pub l_marks : List ℕ
l_marks = 1 ∷ 0 ∷ 2 ∷ []

abbrev pub l_records : List (Binding Word)
l_records = record { from = 0; to = 1; set = always } ∷ record { from = 1; to = 2; set = while_on } ∷ record { from = 1; to = 0; set = while_off } ∷ []

-- What the site tables of these lists mean.
abbrev pub P : Net
P = net_of 6 word_holds p_marks p_records

abbrev pub L : Net
L = net_of 6 word_holds l_marks l_records

abbrev pub at : ℕ → ℕ → Pos
at s a = record { place = s; setting = a }
