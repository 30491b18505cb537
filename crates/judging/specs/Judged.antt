-- What judging answers and writes.
use Rattle.std.specs.Prelude.{◌≡◌, ℕ, zero, suc, ◌+◌, ◌*◌, ◌<◌, ◌≤◌, Bool, false, cond, ◌&&◌, List, length, drop, Some, None, Option, nat_le}
use Rattle.std.specs.List.{slice_get, between}
use Rattle.routing.specs.declared.refusal.Refusal.{Refusal}
use Rattle.routing.specs.declared.refusal.Refusal.TheVariants.{BadTable, TooShort}
use Rattle.routing.specs.Net.{Pos, Net, places}
use Rattle.routing.specs.Rules.{Rule, truth, mark, condition, non, both, either, ex, eu, eg, ef, ax, au, ag, af, Means}
use Rattle.rounds.specs.Rounds.{Grown, Kept, LeastStable, Decided}
use Rattle.tables.specs.declared.row.Row.{Row}
use Rattle.tables.specs.Tables.{accepted, rule_at}

-- Why a judgement is refused: the table, else a main list shorter than rows × places or a spare shorter than 2 × places.
abbrev pub judge_refusal : Net → List Row → ℕ → ℕ → Option Refusal
judge_refusal N rows main spare =
    cond (accepted N.conditions rows)
    (cond (nat_le (length rows * places N) main && nat_le (2 * places N) spare) None (Some TooShort))
    (Some BadTable)

-- The set that there is, if any, holds the setting.
abbrev pub in_set : {S : Type 0} → (S → ℕ → Bool) → Option S → ℕ → Bool
in_set holds None a = false
in_set holds (Some s) a = holds s a

-- A list with a set for each place has the position: the set of its place holds its setting.
abbrev pub covers : {S : Type 0} → (S → ℕ → Bool) → List S → Pos → Bool
covers holds sets x = in_set holds (slice_get sets x.place) x.setting

-- The list has a set for each place.
abbrev pub PerPlace : {S : Type 0} → Net → List S → Type 0
PerPlace N sets = length sets ≡ places N

-- The part of the main list for row r, of n places: the numbers r × n to r × n + n - 1.
abbrev pub row_part : {S : Type 0} → ℕ → ℕ → List S → List S
row_part n r main = between (r * n) (r * n + n) main

-- The main list has a part for row r; the spare has two halves with a set for each place.
abbrev pub HasPart : {S : Type 0} → Net → ℕ → List S → Type 0
HasPart N r main = r * places N + places N ≤ length main

abbrev pub HasHalves : {S : Type 0} → Net → List S → Type 0
HasHalves N spare = 2 * places N ≤ length spare

-- The rounds of a rule: the least stable index of E[p U q] and of EG p, and 0 for the others.
abbrev pub RoundsOf : Net → Rule → ℕ → Type 0
RoundsOf N (eu p q) i = LeastStable N (Grown N (Means N p) (Means N q)) i
RoundsOf N (eg p) i = LeastStable N (Kept N (Means N p)) i
RoundsOf N truth i = i ≡ 0
RoundsOf N (mark k) i = i ≡ 0
RoundsOf N (condition k) i = i ≡ 0
RoundsOf N (non p) i = i ≡ 0
RoundsOf N (both p q) i = i ≡ 0
RoundsOf N (either p q) i = i ≡ 0
RoundsOf N (ex p) i = i ≡ 0
RoundsOf N (ef q) i = i ≡ 0
RoundsOf N (ax p) i = i ≡ 0
RoundsOf N (au p q) i = i ≡ 0
RoundsOf N (ag p) i = i ≡ 0
RoundsOf N (af q) i = i ≡ 0

-- The sum of the rounds of the first r rows.
abbrev pub RoundsBefore : Net → List Row → ℕ → ℕ → Type 0
RoundsBefore N rows zero n = n ≡ 0
RoundsBefore N rows (suc r) n = (m : ℕ) × (k : ℕ) × RoundsBefore N rows r m × RoundsOf N (rule_at rows r) k × (n ≡ m + k)

-- The first r rows are judged: the part of each has just the positions at which its rule is true.
abbrev pub WrittenBefore : {S : Type 0} → (S → ℕ → Bool) → Net → List Row → ℕ → List S → Type 0
WrittenBefore holds N rows r main =
    (i : ℕ) → i < r → Decided N (covers holds (row_part (places N) i main)) (Means N (rule_at rows i))

-- A judgement, with its answer: every row is judged, the rest of the main list is as it was, and the answer is the sum of the rounds.
pub record Judged {S : Type 0} (holds : S → ℕ → Bool) (N : Net) (rows : List Row) (before after : List S) (rounds : ℕ) : Type 0 where
  pub written : WrittenBefore holds N rows (length rows) after
  pub rest : drop (length rows * places N) after ≡ drop (length rows * places N) before
  pub counted : RoundsBefore N rows (length rows) rounds
