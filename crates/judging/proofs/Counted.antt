-- The count of rounds is determined, there is one, and it is no more than rows × places.
use Rattle.std.proofs.Common.{◌≡◌, ℕ, zero, suc, ◌+◌, ◌*◌, ◌<◌, ◌≤◌, ◌⊎◌, List, sym, refl, ap, ◌∙◌, inl, inr, suc-mul, arith}
use Rattle.routing.specs.Net.{Net, Pos, places}
use Rattle.routing.specs.Rules.{Rule, truth, mark, condition, non, both, either, ex, eu, eg, ef, ax, au, ag, af, Means}
use Rattle.rounds.specs.Rounds.{LeastStable}
use Rattle.rounds.proofs.Decide.{true_at_decides}
use Rattle.rounds.proofs.Settle.{until_settles, always_settles}
use Rattle.rounds.specs.Truth.{true_at}
use Rattle.tables.specs.declared.row.Row.{Row}
use Rattle.tables.specs.Tables.{rule_at}
use Rattle.judging.specs.Judged.{RoundsOf, RoundsBefore}

-- Of two numbers one is below the other, or they are the same.
below_or : (a b : ℕ) → ((a < b) ⊎ (b < a)) ⊎ (a ≡ b)
below_or zero zero = inr refl
below_or zero (suc b) = inl (inl (omega arith))
below_or (suc a) zero = inl (inr (omega arith))
below_or (suc a) (suc b) = go (below_or a b) where
  go : ((a < b) ⊎ (b < a)) ⊎ (a ≡ b) → ((suc a < suc b) ⊎ (suc b < suc a)) ⊎ (suc a ≡ suc b)
  go (inl (inl l)) = inl (inl (omega arith))
  go (inl (inr l)) = inl (inr (omega arith))
  go (inr e) = inr (ap suc e)

pub same_from : (a b : ℕ) → ¬ (a < b) → ¬ (b < a) → a ≡ b
same_from a b left right = go (below_or a b) where
  go : ((a < b) ⊎ (b < a)) ⊎ (a ≡ b) → a ≡ b
  go (inl (inl l)) = absurd (left l)
  go (inl (inr l)) = absurd (right l)
  go (inr e) = e

pub least_once : (N : Net) (T : ℕ → Pos → Type 0) (i j : ℕ) → LeastStable N T i → LeastStable N T j → i ≡ j
least_once N T i j f g = same_from i j (λ l. g.first i l f.stable) (λ l. f.first j l g.stable)

pub rounds_of_once : (N : Net) (f : Rule) (i j : ℕ) → RoundsOf N f i → RoundsOf N f j → i ≡ j
rounds_of_once N (eu p q) i j h k = least_once N _ i j h k
rounds_of_once N (eg p) i j h k = least_once N _ i j h k
rounds_of_once N truth i j h k = h ∙ sym k
rounds_of_once N (mark m) i j h k = h ∙ sym k
rounds_of_once N (condition m) i j h k = h ∙ sym k
rounds_of_once N (non p) i j h k = h ∙ sym k
rounds_of_once N (both p q) i j h k = h ∙ sym k
rounds_of_once N (either p q) i j h k = h ∙ sym k
rounds_of_once N (ex p) i j h k = h ∙ sym k
rounds_of_once N (ef q) i j h k = h ∙ sym k
rounds_of_once N (ax p) i j h k = h ∙ sym k
rounds_of_once N (au p q) i j h k = h ∙ sym k
rounds_of_once N (ag p) i j h k = h ∙ sym k
rounds_of_once N (af q) i j h k = h ∙ sym k

pub rounds_once : (N : Net) (rows : List Row) (r m n : ℕ) → RoundsBefore N rows r m → RoundsBefore N rows r n → m ≡ n
rounds_once N rows zero m n h k = h ∙ sym k
rounds_once N rows (suc r) m n h k =
    let front = rounds_once N rows r h.0 k.0 h.2 k.2 in
    let last = rounds_of_once N (rule_at rows r) h.1 k.1 h.3 k.3 in
    omega arith

-- A rule has a count of rounds, and it is no more than there are places.
pub rounds_of_some : (N : Net) (f : Rule) → (k : ℕ) × (k ≤ places N) × RoundsOf N f k
rounds_of_some N (eu p q) = until_settles N (true_at N p) (true_at N q) (Means N p) (Means N q) (true_at_decides N p) (true_at_decides N q)
rounds_of_some N (eg p) = always_settles N (true_at N p) (Means N p) (true_at_decides N p)
rounds_of_some N truth = (0, omega arith, refl)
rounds_of_some N (mark m) = (0, omega arith, refl)
rounds_of_some N (condition m) = (0, omega arith, refl)
rounds_of_some N (non p) = (0, omega arith, refl)
rounds_of_some N (both p q) = (0, omega arith, refl)
rounds_of_some N (either p q) = (0, omega arith, refl)
rounds_of_some N (ex p) = (0, omega arith, refl)
rounds_of_some N (ef q) = (0, omega arith, refl)
rounds_of_some N (ax p) = (0, omega arith, refl)
rounds_of_some N (au p q) = (0, omega arith, refl)
rounds_of_some N (ag p) = (0, omega arith, refl)
rounds_of_some N (af q) = (0, omega arith, refl)

-- So has a table.
pub rounds_some : (N : Net) (rows : List Row) (r : ℕ) → (n : ℕ) × RoundsBefore N rows r n
rounds_some N rows zero = (0, refl)
rounds_some N rows (suc r) =
    let front = rounds_some N rows r in
    let last = rounds_of_some N (rule_at rows r) in
    (front.0 + last.0, (front.0, last.0, front.1, last.2, refl))

-- Each row takes no more rounds than there are places.
pub rounds_few : (N : Net) (rows : List Row) (r n : ℕ) → RoundsBefore N rows r n → n ≤ r * places N
rounds_few N rows zero n h = let e : n ≡ 0 = h in omega arith
rounds_few N rows (suc r) n h =
    let front = rounds_few N rows r h.0 h.2 in
    let some = rounds_of_some N (rule_at rows r) in
    let same : h.1 ≡ some.0 = rounds_of_once N (rule_at rows r) h.1 some.0 h.3 some.2 in
    let few : some.0 ≤ places N = some.1 in
    let whole : n ≡ h.0 + h.1 = h.4 in
    omega (arith, suc-mul r (places N))
