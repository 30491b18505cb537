-- What reading a file comes to: the plan whose file it is, or one refusal.
use Rattle.std.specs.Prelude.{◌≡◌, ℕ, ◌+◌, ◌^◌, ◌<◌, ◌≤◌, ◌⊎◌, List, length, Some, None, Ok, Err, Result}
use Rattle.std.specs.List.{slice_get}
use Rattle.conditions.specs.declared.word.Word.{Word}
use Rattle.routing.specs.declared.binding.Binding.{Binding}
use Rattle.routing.specs.Rules.{Rule}
use Rattle.rule_text.specs.Reading.{Reading}
use Rattle.plan.specs.declared.fault.PlanFault.{PlanFault}
use Rattle.plan.specs.declared.fault.PlanFault.TheVariants.{InFile, InText}
use Rattle.plan.specs.Format.{Plan, longest, encoded}
use Rattle.plan.specs.Contents.{rule_count, text_at}
use Rattle.plan.specs.Shape.{shape_fault}

-- Each element of the list has P.
abbrev pub Each : {A : Type 0} → (A → Type 0) → List A → Type 0
Each {A = A} P xs = (i : ℕ) (x : A) → slice_get xs i ≡ Some x → P x

-- The text is a rule, over six conditions.
abbrev pub IsRuleText : List ℕ → Type 0
IsRuleText t = (f : Rule) × Reading 6 t (Ok f)

-- The text of rule i is refused.
abbrev pub TextRefused : ℕ → List ℕ → PlanFault → Type 0
TextRefused i t (InFile f) = ⊥
TextRefused i t (InText j f) = (j ≡ i) × Reading 6 t (Err f)

-- The texts that the fields of a file hold are rules.
abbrev pub TextsRead : List ℕ → Type 0
TextsRead file = (i : ℕ) → i < rule_count file → IsRuleText (text_at file i)

-- The numbers of a binding fit their fields, and its ends are among n places.
pub record BindingFits (n : ℕ) (b : Binding Word) : Type 0 where
  pub from_in : b.from < n
  pub to_in : b.to < n
  pub set_fits : b.set.0 < 2 ^ 64

-- A plan keeps to the limits: at most 256 places, 4096 bindings and eight rules, whose texts are rules.
pub record Sound (p : Plan) : Type 0 where
  pub few_places : length p.marks ≤ 256
  pub few_bindings : length p.records ≤ 4096
  pub few_rules : length p.texts ≤ 8
  pub marks_fit : Each (λ m. m < 2 ^ 32) p.marks
  pub bindings_fit : Each (BindingFits (length p.marks)) p.records
  pub texts_fit : Each (Each (λ b. b < 2 ^ 8)) p.texts
  pub rules : Each IsRuleText p.texts

-- The file is refused: for its shape, else for the first rule whose text is refused.
abbrev pub Refused : List ℕ → PlanFault → Type 0
Refused file (InFile f) = shape_fault (length file) file ≡ Some f
Refused file (InText i f) =
    (shape_fault (length file) file ≡ None) × (i < rule_count file)
    × ((j : ℕ) → j < i → IsRuleText (text_at file j)) × Reading 6 (text_at file i) (Err f)

-- Where the front of a file and the number of bytes behind it do not tell the file's fault: nothing is behind it,
-- or the front is shorter than the longest file of a plan, or the file is longer than any number of 64 bits says.
abbrev pub LeftOpen : ℕ → ℕ → Type 0
LeftOpen front behind = (behind ≡ 0) ⊎ ((front < longest) ⊎ (2 ^ 64 ≤ front + behind))

-- What reading a file comes to.
abbrev pub PlanRead : List ℕ → Result Plan PlanFault → Type 0
PlanRead file (Ok p) = Sound p × (encoded p ≡ file)
PlanRead file (Err e) = Refused file e
