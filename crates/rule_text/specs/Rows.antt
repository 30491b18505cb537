-- The table of a rule: the rows of each form, parts first, nothing shared.
use Rattle.std.specs.Prelude.{ℕ, ◌+◌, List, [], ◌∷◌, ◌++◌}
use Rattle.routing.specs.Rules.{Rule, truth, mark, condition, non, both, either, ex, eu, eg, ef, ax, au, ag, af}
use Rattle.tables.specs.declared.row.Row.{Row}
use Rattle.tables.specs.declared.row.Operation.TheVariants.{Yes, Mark, Condition, Not, And, Or, Next, Until, Always}
use Rattle.tables.specs.Tables.{coded}

-- The number of the last row of a rule, which stands for the rule, where the first one has number n.
abbrev pub root : ℕ → Rule → ℕ
root n truth = n
root n (mark k) = n
root n (condition k) = n
root n (non p) = root n p + 1
root n (both p q) = root (root n p + 1) q + 1
root n (either p q) = root (root n p + 1) q + 1
root n (ex p) = root n p + 1
root n (eu p q) = root (root n p + 1) q + 1
root n (eg p) = root n p + 1
root n (ef p) = root (n + 1) p + 1
root n (ax p) = root n p + 3
root n (au p q) = root (root n p + 1) q + 7
root n (ag p) = root (n + 1) p + 3
root n (af p) = root n p + 3

-- The seven rows of A[p U q] behind its parts, whose rows are p and q, where the next row has number n.
abbrev pub until_rows : ℕ → ℕ → ℕ → List Row
until_rows p q n =
    coded (Not p)
    ∷ coded (Not q)
    ∷ coded (And n (n + 1))
    ∷ coded (Until (n + 1) (n + 2))
    ∷ coded (Always (n + 1))
    ∷ coded (Or (n + 3) (n + 4))
    ∷ coded (Not (n + 5))
    ∷ []

-- The rows of a rule, where the first one has number n.
unfoldable pub rows_of : ℕ → Rule → List Row
rows_of n truth = coded Yes ∷ []
rows_of n (mark k) = coded (Mark k) ∷ []
rows_of n (condition k) = coded (Condition k) ∷ []
rows_of n (non p) = rows_of n p ++ (coded (Not (root n p)) ∷ [])
rows_of n (both p q) = rows_of n p ++ (rows_of (root n p + 1) q ++ (coded (And (root n p) (root (root n p + 1) q)) ∷ []))
rows_of n (either p q) = rows_of n p ++ (rows_of (root n p + 1) q ++ (coded (Or (root n p) (root (root n p + 1) q)) ∷ []))
rows_of n (ex p) = rows_of n p ++ (coded (Next (root n p)) ∷ [])
rows_of n (eu p q) = rows_of n p ++ (rows_of (root n p + 1) q ++ (coded (Until (root n p) (root (root n p + 1) q)) ∷ []))
rows_of n (eg p) = rows_of n p ++ (coded (Always (root n p)) ∷ [])
rows_of n (ef p) = coded Yes ∷ (rows_of (n + 1) p ++ (coded (Until n (root (n + 1) p)) ∷ []))
rows_of n (ax p) = rows_of n p ++ (coded (Not (root n p)) ∷ coded (Next (root n p + 1)) ∷ coded (Not (root n p + 2)) ∷ [])
rows_of n (au p q) = rows_of n p ++ (rows_of (root n p + 1) q ++ until_rows (root n p) (root (root n p + 1) q) (root (root n p + 1) q + 1))
rows_of n (ag p) =
    coded Yes ∷ (rows_of (n + 1) p ++ (coded (Not (root (n + 1) p)) ∷ coded (Until n (root (n + 1) p + 1)) ∷ coded (Not (root (n + 1) p + 2)) ∷ []))
rows_of n (af p) = rows_of n p ++ (coded (Not (root n p)) ∷ coded (Always (root n p + 1)) ∷ coded (Not (root n p + 2)) ∷ [])
