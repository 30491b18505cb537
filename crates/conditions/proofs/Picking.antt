-- The laws by which callers use `Picked`, whichever member it names.
use Rattle.std.proofs.Common.{ℕ, ◌<◌, ◌↔◌}
use Rattle.conditions.specs.Sets.{Picked}

-- What is picked has P.
pub picked_in : (P : ℕ → Type 0) (m : ℕ) → Picked P m → P m
unfolding Picked
picked_in P m h = h.0

-- What is picked depends only on which numbers have P.
pub picked_like : (P Q : ℕ → Type 0) (m : ℕ) → ((a : ℕ) → P a ↔ Q a) → Picked P m → Picked Q m
unfolding Picked
picked_like P Q m same h = ((same m).0 h.0, λ a below q. h.1 a below ((same a).1 q))

-- A number with P below which none has P is picked.
pub picked_least : (P : ℕ → Type 0) (m : ℕ) → P m → ((a : ℕ) → a < m → ¬ (P a)) → Picked P m
unfolding Picked
picked_least P m here none = (here, none)

-- No number below the picked one has P.
pub picked_first : (P : ℕ → Type 0) (m : ℕ) → Picked P m → (a : ℕ) → a < m → ¬ (P a)
unfolding Picked
picked_first P m h = h.1
