-- What one row asks, by its operation, of the positions with p and with q: the step from the rows before it to its own.
use Rattle.std.specs.Prelude.{◌≡◌, ℕ, ◌<◌, Bool, true, false, ◌⊎◌, slice_index}
use Rattle.conditions.specs.Sets.{bit}
use Rattle.routing.specs.Net.{Pos, Net}
use Rattle.routing.specs.Routes.{SomeNext, SomeUntil, SomeAlways}
use Rattle.rounds.specs.Rounds.{Grown, Kept, LeastStable}
use Rattle.tables.specs.declared.row.Operation.{Operation}
use Rattle.tables.specs.declared.row.Operation.TheVariants.{Yes, Mark, Condition, Not, And, Or, Next, Until, Always}

-- The positions of a row, from those of its operands.
abbrev pub Shape : Net → Operation → (Pos → Type 0) → (Pos → Type 0) → Pos → Type 0
Shape N Yes P Q x = Unit {0}
Shape N (Mark k) P Q x = bit (slice_index N.marks x.place) k ≡ true
Shape N (Condition k) P Q x = bit x.setting k ≡ true
Shape N (Not p) P Q x = ¬ (P x)
Shape N (And p q) P Q x = P x × Q x
Shape N (Or p q) P Q x = P x ⊎ Q x
Shape N (Next p) P Q x = SomeNext N P x
Shape N (Until p q) P Q x = SomeUntil N P Q x
Shape N (Always p) P Q x = SomeAlways N P x

-- Its rounds.
abbrev pub Rounds : Net → Operation → (Pos → Type 0) → (Pos → Type 0) → ℕ → Type 0
Rounds N Yes P Q i = i ≡ 0
Rounds N (Mark k) P Q i = i ≡ 0
Rounds N (Condition k) P Q i = i ≡ 0
Rounds N (Not p) P Q i = i ≡ 0
Rounds N (And p q) P Q i = i ≡ 0
Rounds N (Or p q) P Q i = i ≡ 0
Rounds N (Next p) P Q i = i ≡ 0
Rounds N (Until p q) P Q i = LeastStable N (Grown N P Q) i
Rounds N (Always p) P Q i = LeastStable N (Kept N P) i

-- The mark or the condition that the operation names is one, over K conditions.
abbrev pub Named : ℕ → Operation → Type 0
Named K Yes = Unit {0}
Named K (Mark k) = k < 32
Named K (Condition k) = k < K
Named K (Not p) = Unit {0}
Named K (And p q) = Unit {0}
Named K (Or p q) = Unit {0}
Named K (Next p) = Unit {0}
Named K (Until p q) = Unit {0}
Named K (Always p) = Unit {0}

-- The operation's first operand is a row ..
abbrev pub first_is_row : Operation → Bool
first_is_row Yes = false
first_is_row (Mark k) = false
first_is_row (Condition k) = false
first_is_row (Not p) = true
first_is_row (And p q) = true
first_is_row (Or p q) = true
first_is_row (Next p) = true
first_is_row (Until p q) = true
first_is_row (Always p) = true

-- .. and so is its second.
abbrev pub second_is_row : Operation → Bool
second_is_row Yes = false
second_is_row (Mark k) = false
second_is_row (Condition k) = false
second_is_row (Not p) = false
second_is_row (And p q) = true
second_is_row (Or p q) = true
second_is_row (Next p) = false
second_is_row (Until p q) = true
second_is_row (Always p) = false
