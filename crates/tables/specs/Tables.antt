-- Rule tables: which are accepted, and which rule each row stands for.
use Rattle.std.specs.Prelude.{ℕ, zero, suc, Bool, true, false, ◌&&◌, List, [], ◌∷◌, ◌++◌, length, ◌==◌, nat_le, nat_lt, slice_index_or}
use Rattle.routing.specs.Rules.{Rule, truth, mark, condition, non, both, either, ex, eu, eg}
use Rattle.tables.specs.declared.row.Row.{Row}
use Rattle.tables.specs.declared.row.Operation.{Operation}
use Rattle.tables.specs.declared.row.Operation.TheVariants.{Yes, Mark, Condition, Not, And, Or, Next, Until, Always}

-- What each operation, from 0 on, asks of its two operands, in row i of a table over K conditions:
-- a mark is up to 31, a condition below K, a row operand names an earlier row, and an unused operand is 0.
abbrev pub operand_tests : ℕ → ℕ → ℕ → ℕ → List Bool
operand_tests K i a b =
    (a == 0 && b == 0)
    ∷ (nat_le a 31 && b == 0)
    ∷ (nat_lt a K && b == 0)
    ∷ (nat_lt a i && b == 0)
    ∷ (nat_lt a i && nat_lt b i)
    ∷ (nat_lt a i && nat_lt b i)
    ∷ (nat_lt a i && b == 0)
    ∷ (nat_lt a i && nat_lt b i)
    ∷ (nat_lt a i && b == 0)
    ∷ []

-- The row has one of these operations, and its operands fit it.
abbrev pub row_fits : ℕ → ℕ → Row → Bool
row_fits K i w = slice_index_or (operand_tests K i w.first w.second) w.operation false

-- So have the rows from row i on.
abbrev pub rows_fit : ℕ → ℕ → List Row → Bool
rows_fit K i [] = true
rows_fit K i (w ∷ ws) = row_fits K i w && rows_fit K (suc i) ws

-- A table has 1 to 32 rows, and each of them fits.
abbrev pub accepted : ℕ → List Row → Bool
accepted K rows = nat_lt 0 (length rows) && (nat_le (length rows) 32 && rows_fit K 0 rows)

-- The operations by number, each with its operands.
abbrev pub coded : Operation → Row
coded Yes = record { operation = 0; first = 0; second = 0 }
coded (Mark k) = record { operation = 1; first = k; second = 0 }
coded (Condition k) = record { operation = 2; first = k; second = 0 }
coded (Not p) = record { operation = 3; first = p; second = 0 }
coded (And p q) = record { operation = 4; first = p; second = q }
coded (Or p q) = record { operation = 5; first = p; second = q }
coded (Next p) = record { operation = 6; first = p; second = 0 }
coded (Until p q) = record { operation = 7; first = p; second = q }
coded (Always p) = record { operation = 8; first = p; second = 0 }

-- The rule that an operation, from 0 on, makes of its operands: of the numbers a and b, or of the rules p and q of the rows that they name.
abbrev pub operation_rules : ℕ → Rule → Rule → List Rule
operation_rules a p q = truth ∷ mark a ∷ condition a ∷ non p ∷ both p q ∷ either p q ∷ ex p ∷ eu p q ∷ eg p ∷ []

-- The rule of a row, where `earlier` has the rules of the rows before it.
abbrev pub row_rule : List Rule → Row → Rule
row_rule earlier w =
    slice_index_or (operation_rules w.first (slice_index_or earlier w.first truth) (slice_index_or earlier w.second truth)) w.operation truth

abbrev pub no_row : Row
no_row = record { operation = 0; first = 0; second = 0 }

-- The rules of the first r rows of a table.
unfoldable pub rules_before : List Row → ℕ → List Rule
rules_before rows zero = []
rules_before rows (suc r) = rules_before rows r ++ (row_rule (rules_before rows r) (slice_index_or rows r no_row) ∷ [])

-- The rule of row r.
unfoldable pub rule_at : List Row → ℕ → Rule
rule_at rows r = row_rule (rules_before rows r) (slice_index_or rows r no_row)
