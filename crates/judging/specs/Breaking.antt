-- Why the rule of a table breaks: the form of the table, the row that shows it, and what each route so shown does.
use Rattle.std.specs.Prelude.{◌≡◌, ℕ, ◌+◌, ◌-◌, ◌<◌, ◌≤◌, ◌⊎◌, ◌&&◌, cond, List, length, Some, None, Option, Ok, Err, Result, ◌==◌, nat_le, nat_lt, slice_index_or}
use Rattle.std.specs.List.{slice_get}
use Rattle.routing.specs.declared.refusal.Refusal.{Refusal}
use Rattle.routing.specs.declared.refusal.Refusal.TheVariants.{BadTable, BadQuery, TooShort, RowFails}
use Rattle.routing.specs.Net.{Net, Pos, places, settings}
use Rattle.routing.specs.Routes.{Route, endless, ending, Has, position, Until, Always}
use Rattle.routing.specs.Rules.{Rule, truth, mark, condition, non, both, either, ex, eu, eg, ef, ax, au, ag, af, Means}
use Rattle.tables.specs.declared.row.Row.{Row}
use Rattle.tables.specs.Tables.{accepted, no_row, rule_at}
use Rattle.judging.specs.declared.breaking.BreakingForm.{BreakingForm}
use Rattle.judging.specs.declared.breaking.BreakingForm.TheVariants.{One, Either, Other}
use Rattle.judging.specs.declared.breaking.Broken.{Broken}
use Rattle.judging.specs.declared.shown.Ending.{Ending}
use Rattle.judging.specs.declared.shown.Ending.TheVariants.{Reaches, Rests, Returns}
use Rattle.judging.specs.declared.shown.RouteStep.{RouteStep}
use Rattle.judging.specs.Answers.{RouteShown}
use Rattle.judging.specs.Chosen.{chosen}
use Rattle.judging.specs.Queries.{route_room}

-- The number of the last row, and the rule of a table, which is that row's.
abbrev pub last_row : List Row → ℕ
last_row rows = length rows - 1

abbrev pub table_rule : List Row → Rule
table_rule rows = rule_at rows (last_row rows)

abbrev pub row_of : List Row → ℕ → Row
row_of rows r = slice_index_or rows r no_row

-- Where the rule is "not p", for row p: p itself, of operation 6, 7 or 8; or q and r, where p is "q or r", q of operation 7 and r of operation 8.
abbrev pub form_of_negated : List Row → ℕ → BreakingForm
form_of_negated rows p =
    cond (nat_le 6 (row_of rows p).operation && nat_le (row_of rows p).operation 8) (One p)
    (cond ((row_of rows p).operation == 5
    && ((row_of rows (row_of rows p).first).operation == 7 && (row_of rows (row_of rows p).second).operation == 8))
    (Either (row_of rows p).first (row_of rows p).second) Other)

-- The form of a table.
abbrev pub breaking_form : List Row → BreakingForm
breaking_form rows = cond ((row_of rows (last_row rows)).operation == 3) (form_of_negated rows (row_of rows (last_row rows)).first) Other

-- Row r shows why a rule of this form breaks at x: of q or r, it is q where q holds at x, else r.
abbrev pub ShowsWhy : Net → List Row → Pos → BreakingForm → ℕ → Type 0
ShowsWhy N rows x (One p) r = r ≡ p
ShowsWhy N rows x (Either p q) r = ((r ≡ p) × Means N (rule_at rows p) x) ⊎ ((r ≡ q) × (¬ (Means N (rule_at rows p) x)))
ShowsWhy N rows x Other r = ⊥

-- The route begins with the listed positions in their order.
abbrev pub Begins : {N : Net} {x : Pos} → Route N x → List Pos → Type 0
Begins r ps = (i : ℕ) (a : Pos) → slice_get ps i ≡ Some a → Has r i × (position r i ≡ a)

-- The route ends at the position after i hops, where it rests.
abbrev pub EndsAt : {N : Net} {x : Pos} → Route N x → ℕ → Type 0
EndsAt (endless at start steps) i = ⊥
EndsAt (ending at last start steps rests) i = last ≡ i

-- Behind n positions the route goes round for ever: from the last of them to the i-th, and on as from there.
abbrev pub GoesRound : {N : Net} {x : Pos} → Route N x → ℕ → ℕ → Type 0
GoesRound r n i = (k : ℕ) → Has r (n + k) × (position r (n + k) ≡ position r (i + k))

-- The route is one that the list and the ending show, for a row with this rule: it begins with the listed positions. For EX a return is the
-- first step, from x back to x; for EG it rests at the last of them, or goes round for ever from the i-th.
abbrev pub GoesSo : {N : Net} {x : Pos} → Rule → List Pos → Ending → Route N x → Type 0
GoesSo (ex p) ps Reaches r = Begins r ps
GoesSo (ex p) ps Rests r = ⊥
GoesSo {x = x} (ex p) ps (Returns i) r = Begins r ps × (i ≡ 0) × (length ps ≡ 1) × Has r 1 × (position r 1 ≡ x)
GoesSo (eu p q) ps Reaches r = Begins r ps
GoesSo (eu p q) ps Rests r = ⊥
GoesSo (eu p q) ps (Returns i) r = ⊥
GoesSo (eg p) ps Reaches r = ⊥
GoesSo (eg p) ps Rests r = Begins r ps × EndsAt r (length ps - 1)
GoesSo (eg p) ps (Returns i) r = Begins r ps × (i < length ps) × GoesRound r (length ps) i
GoesSo truth ps e r = ⊥
GoesSo (mark k) ps e r = ⊥
GoesSo (condition k) ps e r = ⊥
GoesSo (non p) ps e r = ⊥
GoesSo (both p q) ps e r = ⊥
GoesSo (either p q) ps e r = ⊥
GoesSo (ef q) ps e r = ⊥
GoesSo (ax p) ps e r = ⊥
GoesSo (au p q) ps e r = ⊥
GoesSo (ag p) ps e r = ⊥
GoesSo (af q) ps e r = ⊥

-- The route does what the rule says that some step or some route does.
abbrev pub Fulfils : {N : Net} {x : Pos} → Rule → Route N x → Type 0
Fulfils {N} (ex p) r = Has r 1 × Means N p (position r 1)
Fulfils {N} (eu p q) r = Until r (Means N p) (Means N q)
Fulfils {N} (eg p) r = Always r (Means N p)
Fulfils truth r = ⊥
Fulfils (mark k) r = ⊥
Fulfils (condition k) r = ⊥
Fulfils (non p) r = ⊥
Fulfils (both p q) r = ⊥
Fulfils (either p q) r = ⊥
Fulfils (ef q) r = ⊥
Fulfils (ax p) r = ⊥
Fulfils (au p q) r = ⊥
Fulfils (ag p) r = ⊥
Fulfils (af q) r = ⊥

-- The route comes to its first position with q after n hops, with p at each position before it.
pub record FirstAt {N : Net} {x : Pos} (r : Route N x) (P Q : Pos → Type 0) (n : ℕ) : Type 0 where
  pub reached : Has r n
  pub holds : Q (position r n)
  pub before : (j : ℕ) → j < n → P (position r j) × (¬ (Q (position r j)))

-- For E[p U q]: each route so shown comes to its first q at the last of the listed positions, and no route from x that has p until q
-- comes to its first q in fewer hops.
abbrev pub FewestShown : (N : Net) → Rule → (x : Pos) → List Pos → Ending → Type 0
FewestShown N (eu p q) x ps e =
    ((r : Route N x) → GoesSo (eu p q) ps e r → FirstAt r (Means N p) (Means N q) (length ps - 1))
    × ((r : Route N x) (n : ℕ) → FirstAt r (Means N p) (Means N q) n → length ps - 1 ≤ n)
FewestShown N truth x ps e = Unit {0}
FewestShown N (mark k) x ps e = Unit {0}
FewestShown N (condition k) x ps e = Unit {0}
FewestShown N (non p) x ps e = Unit {0}
FewestShown N (both p q) x ps e = Unit {0}
FewestShown N (either p q) x ps e = Unit {0}
FewestShown N (ex p) x ps e = Unit {0}
FewestShown N (eg p) x ps e = Unit {0}
FewestShown N (ef q) x ps e = Unit {0}
FewestShown N (ax p) x ps e = Unit {0}
FewestShown N (au p q) x ps e = Unit {0}
FewestShown N (ag p) x ps e = Unit {0}
FewestShown N (af q) x ps e = Unit {0}

-- The listed positions and the ending show, from x, routes that do what the rule says: there is such a route, and each one does.
pub record Exhibits (N : Net) (f : Rule) (x : Pos) (ps : List Pos) (e : Ending) : Type 0 where
  pub starts : slice_get ps 0 ≡ Some x
  pub some : (r : Route N x) × GoesSo f ps e r
  pub each : (r : Route N x) → GoesSo f ps e r → Fulfils f r
  pub fewest : FewestShown N f x ps e

-- What is asked of the table, the place and the setting, else of the room, before the table is judged.
abbrev pub rule_refusal : Net → List Row → Pos → Option Refusal
rule_refusal N rows x =
    cond (accepted N.conditions rows) (cond (nat_lt x.place (places N) && nat_lt x.setting (settings N)) None (Some BadQuery)) (Some BadTable)

abbrev pub breaking_refusal : Net → List Row → Pos → ℕ → ℕ → ℕ → Option Refusal
breaking_refusal N rows x main spare steps =
    cond (accepted N.conditions rows)
    (cond (nat_lt x.place (places N) && nat_lt x.setting (settings N))
    (cond (route_room N rows main spare steps) None (Some TooShort))
    (Some BadQuery))
    (Some BadTable)

-- Why the rule breaks at x, and what the steps list then holds: no row shows it, or this one does, by routes that do what its rule says.
abbrev pub Explained : Net → List Row → Pos → List RouteStep → List RouteStep → Option Broken → Type 0
Explained N rows x steps steps' None = (breaking_form rows ≡ Other) × (steps' ≡ steps)
Explained N rows x steps steps' (Some b) =
    ShowsWhy N rows x (breaking_form rows) b.row
    × RouteShown N rows b.row x steps steps' b.shown
    × Exhibits N (rule_at rows b.row) x (chosen N (rule_at rows b.row) x).positions b.shown.ending

-- The answer: why the rule breaks, where the question is not refused and the rule breaks at x. Otherwise the steps list is as before,
-- and so is the work space where the question is refused without judging.
abbrev pub BreakingAnswer : {S : Type 0} → Net → List Row → Pos → List S → List S → List S → List S → List RouteStep → List RouteStep
    → Result (Option Broken) Refusal → Type 0
BreakingAnswer N rows x main main' spare spare' steps steps' (Ok b) =
    (breaking_refusal N rows x (length main) (length spare) (length steps) ≡ None)
    × (¬ (Means N (table_rule rows) x))
    × Explained N rows x steps steps' b
BreakingAnswer N rows x main main' spare spare' steps steps' (Err e) =
    (steps' ≡ steps)
    × (((breaking_refusal N rows x (length main) (length spare) (length steps) ≡ Some e) × (main' ≡ main) × (spare' ≡ spare))
    ⊎ ((breaking_refusal N rows x (length main) (length spare) (length steps) ≡ None) × (e ≡ RowFails) × Means N (table_rule rows) x))
