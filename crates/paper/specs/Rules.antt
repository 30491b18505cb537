-- Rules at the entries of a network: whether all hold, which is the first that breaks, and how many rounds they take.
use Rattle.std.specs.Prelude.{◌≡◌, ℕ, ◌+◌, List, [], ◌∷◌, length, take, Some}
use Rattle.std.specs.List.{slice_get}
use Rattle.routing.specs.Net.{Net, Pos}
use Rattle.routing.specs.Rules.{Means}
use Rattle.tables.specs.declared.row.Row.{Row}
use Rattle.tables.specs.Tables.{rule_at}
use Rattle.judging.specs.declared.breaking.BreakingForm.TheVariants.{Other}
use Rattle.judging.specs.Breaking.{table_rule, breaking_form, ShowsWhy, Exhibits}
use Rattle.judging.specs.Chosen.{chosen}
use Rattle.judging.specs.Judged.{RoundsBefore}
use Rattle.verdicts.specs.declared.verdict.Verdict.TheVariants.{Holds, Breaks}
use Rattle.verdicts.specs.Verdicts.{Told}
use Rattle.paper.specs.Calls.{Showing, no_route, a_route}

-- The rule of the table holds at every entry of the network, under every setting.
abbrev pub HoldsAtEntries : Net → List Row → Type 0
HoldsAtEntries N rows = Told N (Means N (table_rule rows)) Holds

-- So does the rule of each table.
abbrev pub AllHold : Net → List (List Row) → Type 0
AllHold N [] = Unit {0}
AllHold N (t ∷ ts) = HoldsAtEntries N t × AllHold N ts

-- The rule of the table breaks: at.place is the least entry at which it fails under some setting, and at.setting is picked among those.
abbrev pub BreaksFirstAt : Net → List Row → Pos → Type 0
BreaksFirstAt N rows at = Told N (Means N (table_rule rows)) (Breaks at.place at.setting)

-- Rule k is the first of the tables whose rule breaks, and it does so at `at`.
pub record FirstBroken (N : Net) (rules : List (List Row)) (k : ℕ) (at : Pos) (rows : List Row) : Type 0 where
  pub listed : slice_get rules k ≡ Some rows
  pub earlier : AllHold N (take k rules)
  pub breaks : BreaksFirstAt N rows at

-- What is shown of a rule that breaks at x. No route, and then the table has a form of which none shows it; or a route, and then it is for a
-- row that shows why the rule breaks there, and each route so shown does what that row says some route does.
abbrev pub ShownRightly : Net → List Row → Pos → Showing → Type 0
ShownRightly N rows x no_route = breaking_form rows ≡ Other
ShownRightly N rows x (a_route ps e) = (r : ℕ) × ShowsWhy N rows x (breaking_form rows) r × Exhibits N (rule_at rows r) x ps e

-- It is the route that is chosen for that row.
abbrev pub ShownAsChosen : Net → List Row → Pos → Showing → Type 0
ShownAsChosen N rows x no_route = breaking_form rows ≡ Other
ShownAsChosen N rows x (a_route ps e) =
    (r : ℕ) × ShowsWhy N rows x (breaking_form rows) r
    × (ps ≡ (chosen N (rule_at rows r) x).positions) × (e ≡ (chosen N (rule_at rows r) x).ending)

-- The rounds of the tables, summed.
abbrev pub RoundsOfAll : Net → List (List Row) → ℕ → Type 0
RoundsOfAll N [] n = n ≡ 0
RoundsOfAll N (t ∷ ts) n = (m : ℕ) × (k : ℕ) × RoundsBefore N t (length t) m × RoundsOfAll N ts k × (n ≡ m + k)
