-- What is printed of a plan file, and what it says. Numbers are decimal, and every line ends with a newline.
use Rattle.std.specs.Prelude.{◌≡◌, ℕ, suc, ◌⊎◌, List, [], ◌∷◌, ◌++◌, length, Ok, Err, codes, decimal}
use Rattle.routing.specs.Net.{Net}
use Rattle.routing.specs.Rules.{Rule, Means}
use Rattle.verdicts.specs.declared.verdict.Verdict.{Verdict}
use Rattle.verdicts.specs.declared.verdict.Verdict.TheVariants.{Holds, Breaks}
use Rattle.judging.specs.Judged.{RoundsBefore}
use Rattle.verdicts.specs.Verdicts.{Told}
use Rattle.rule_text.specs.Reading.{Reading}
use Rattle.rule_text.specs.Rows.{rows_of}
use Rattle.plan.specs.declared.fault.PlanFault.{PlanFault}
use Rattle.plan.specs.declared.fault.PlanFault.TheVariants.{InFile, InText}
use Rattle.plan.specs.Contents.{plan_net}
use Rattle.plan.specs.Faults.{plan_fault_number}
use Rattle.plan.specs.Format.{Plan}
use Rattle.plan.specs.Reading.{PlanRead}

abbrev pub newline : List ℕ
newline = 10 ∷ []

-- RULE holds ROUNDS
unfoldable pub holds_line : ℕ → ℕ → List ℕ
holds_line i rounds = decimal i ++ (codes " holds " ++ (decimal rounds ++ newline))

-- RULE breaks PLACE SETTING ROUNDS
unfoldable pub breaks_line : ℕ → ℕ → ℕ → ℕ → List ℕ
breaks_line i s a rounds = decimal i ++ (codes " breaks " ++ (decimal s ++ (codes " " ++ (decimal a ++ (codes " " ++ (decimal rounds ++ newline))))))

-- The line of a rule.
abbrev pub verdict_line : ℕ → Verdict → ℕ → List ℕ
verdict_line i Holds rounds = holds_line i rounds
verdict_line i (Breaks s a) rounds = breaks_line i s a rounds

-- The rule and the byte of a fault: a byte of the rule's text, or of the file where the fault is outside the texts.
abbrev pub fault_place : PlanFault → List ℕ
fault_place (InFile f) = codes "- " ++ decimal f.byte
fault_place (InText i f) = decimal i ++ (codes " " ++ decimal f.byte)

-- refused NUMBER RULE BYTE, where RULE is - outside the texts
unfoldable pub refused_line : PlanFault → List ℕ
refused_line e = codes "refused " ++ (decimal (plan_fault_number e) ++ (codes " " ++ (fault_place e ++ newline)))

-- The line of rule i of a network, whose text is t: the verdict is by what the rule says of routes,
-- and the rounds are those of all rows of its table.
pub record RuleLine (N : Net) (i : ℕ) (t line : List ℕ) : Type 0 where
  pub rule : Rule
  pub verdict : Verdict
  pub rounds : ℕ
  pub is_rule : Reading 6 t (Ok rule)
  pub told : Told N (Means N rule) verdict
  pub counted : RoundsBefore N (rows_of 0 rule) (length (rows_of 0 rule)) rounds
  pub says : line ≡ verdict_line i verdict rounds

-- The lines of the rules with these texts, from rule i on.
abbrev pub RuleLines : Net → ℕ → List (List ℕ) → List ℕ → Type 0
RuleLines N i [] out = out ≡ []
RuleLines N i (t ∷ ts) out = (line : List ℕ) × (rest : List ℕ) × RuleLine N i t line × RuleLines N (suc i) ts rest × (out ≡ line ++ rest)

-- What is printed of a file: its refusal, or the lines of the rules of its plan.
abbrev pub Reported : List ℕ → List ℕ → Type 0
Reported file out =
    ((e : PlanFault) × PlanRead file (Err e) × (out ≡ refused_line e))
    ⊎ ((p : Plan) × PlanRead file (Ok p) × RuleLines (plan_net p) 0 p.texts out)

-- One thing is printed of a file.
abbrev pub OneReport : Type 0
OneReport = (file a b : List ℕ) → Reported file a → Reported file b → a ≡ b
