-- What writing a plan comes to: its file, or one refusal.
use Rattle.std.specs.Prelude.{◌≡◌, ℕ, ◌+◌, ◌<◌, ◌≤◌, List, [], ◌∷◌, map, length, take, drop, Some, None, Ok, Err, Option, Result, nat_lt}
use Rattle.std.specs.Borrow.{Bor}
use Rattle.std.specs.List.{slice_get}
use Rattle.conditions.specs.declared.word.Word.{Word}
use Rattle.routing.specs.declared.binding.Binding.{Binding}
use Rattle.routing.specs.declared.site.SiteTable.{SiteTable}
use Rattle.routing.specs.Sites.{site_marks, site_records}
use Rattle.rule_text.specs.declared.fault.Fault.{Fault}
use Rattle.rule_text.specs.Reading.{Reading}
use Rattle.plan.specs.declared.fault.FileFault.{FileFault}
use Rattle.plan.specs.declared.fault.FileFaultKind.TheVariants.{OverLimit}
use Rattle.plan.specs.declared.fault.PlanFault.{PlanFault}
use Rattle.plan.specs.declared.fault.PlanFault.TheVariants.{InFile, InText}
use Rattle.plan.specs.declared.fault.WriteFault.{WriteFault}
use Rattle.plan.specs.declared.fault.WriteFault.TheVariants.{BadPlan, TooShort}
use Rattle.plan.specs.Format.{Plan, rules_start, encoded}
use Rattle.plan.specs.Shape.{first_fault, faulty}
use Rattle.plan.specs.Reading.{Each, IsRuleText, Sound}

-- The lent texts.
abbrev pub lent : List (Bor (List ℕ)) → List (List ℕ)
lent texts = map (λ t. t.now) texts

-- The plan of marks, bindings and lent texts.
abbrev pub plan_with : List ℕ → List (Binding Word) → List (Bor (List ℕ)) → Plan
plan_with marks records texts = record { marks = marks; records = records; texts = lent texts }

-- The plan of a site table and of lent texts.
abbrev pub site_plan : SiteTable Word → List (Bor (List ℕ)) → Plan
site_plan site texts = plan_with (site_marks site) (site_records site) texts

-- 9: the first text of over 200 bytes, at the byte that its length would have. The first length would stand at `byte`.
unfoldable pub long_fault : ℕ → List (List ℕ) → Option FileFault
long_fault byte [] = None
long_fault byte (t ∷ ts) = first_fault (faulty (nat_lt 200 (length t)) OverLimit byte ∷ long_fault (byte + (2 + length t)) ts ∷ [])

-- 9: more than eight texts, at the byte of their count, else the first text that is too long.
-- The rules would begin at `start`.
abbrev pub texts_fault : ℕ → List (List ℕ) → Option FileFault
texts_fault start texts = first_fault (faulty (nat_lt 8 (length texts)) OverLimit 18 ∷ long_fault start texts ∷ [])

-- The first limit that a plan of a site table does not keep. The table itself keeps those on places and bindings.
abbrev pub limits_fault : Plan → Option FileFault
limits_fault p = texts_fault (rules_start (length p.marks) (length p.records)) p.texts

-- Text i is the first that is no rule, and has this fault.
pub record FirstBad (texts : List (List ℕ)) (i : ℕ) (fault : Fault) : Type 0 where
  pub text : List ℕ
  pub here : slice_get texts i ≡ Some text
  pub refused : Reading 6 text (Err fault)
  pub before : Each IsRuleText (take i texts)

-- A text is the first that is no rule.
abbrev pub BadText : List (List ℕ) → PlanFault → Type 0
BadText texts (InFile f) = ⊥
BadText texts (InText i f) = FirstBad texts i f

-- The plan is not written into a list of `room` bytes: it is over a limit, else a text is no rule, else the file is longer.
abbrev pub WriteRefused : Plan → ℕ → WriteFault → Type 0
WriteRefused p room (BadPlan (InFile f)) = limits_fault p ≡ Some f
WriteRefused p room (BadPlan (InText i f)) = (limits_fault p ≡ None) × FirstBad p.texts i f
WriteRefused p room TooShort = (limits_fault p ≡ None) × Each IsRuleText p.texts × (room < length (encoded p))

-- A plan that is written: within the limits, each text a rule, and with room for its file.
pub record Writable (p : Plan) (room : ℕ) : Type 0 where
  pub few_places : length p.marks ≤ 256
  pub few_bindings : length p.records ≤ 4096
  pub few_rules : length p.texts ≤ 8
  pub rules : Each IsRuleText p.texts
  pub fits : length (encoded p) ≤ room

-- The file of the plan stands at the front of the list, n bytes long, and the rest is as before.
pub record Written (p : Plan) (before : List ℕ) (after : List ℕ) (n : ℕ) : Type 0 where
  pub sound : Sound p
  pub long : n ≡ length (encoded p)
  pub file : take n after ≡ encoded p
  pub rest : drop n after ≡ drop n before

-- What writing a plan into a list answers. Where it is refused the list is as before.
abbrev pub Writing : Plan → List ℕ → List ℕ → Result ℕ WriteFault → Type 0
Writing p before after (Ok n) = Written p before after n
Writing p before after (Err e) = WriteRefused p (length before) e × (after ≡ before)
