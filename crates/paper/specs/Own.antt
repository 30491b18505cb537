-- Own bindings: when they forward, and what a change makes of a list of them.
use Rattle.std.specs.Prelude.{ℕ, zero, suc, ◌^◌, Bool, true, not, ◌&&◌, ◌||◌, List, [], ◌∷◌, ◌++◌, nat_lt, remove}
use Rattle.conditions.specs.Sets.{bit}
use Rattle.routing.specs.Net.{Link}
use Rattle.paper.specs.declared.own.OwnBinding.{OwnBinding}
use Rattle.paper.specs.declared.change.Change.{Change}
use Rattle.paper.specs.declared.change.Change.TheVariants.{Bind, Unbind, Recondition}

-- Condition k is as the two numbers ask under setting a: on where the first names it, off where the second does.
abbrev pub as_asked : ℕ → ℕ → ℕ → ℕ → Bool
as_asked on off a k = (not (bit on k) || bit a k) && (not (bit off k) || not (bit a k))

-- Each condition below n is.
abbrev pub all_as_asked : ℕ → ℕ → ℕ → ℕ → Bool
all_as_asked zero on off a = true
all_as_asked (suc k) on off a = as_asked on off a k && all_as_asked k on off a

-- Of K conditions, with settings below 2 ^ K: each one that the first number names is on, and each one that the second names is off.
abbrev pub forwards_when : ℕ → ℕ → ℕ → ℕ → Bool
forwards_when K on off a = nat_lt a (2 ^ K) && all_as_asked K on off a

-- An own binding as the rules see it.
abbrev pub own_link : ℕ → OwnBinding → Link
own_link K b = record { from = b.from; to = b.to; forwards = forwards_when K b.on b.off }

-- The list with other numbers for binding i; the list itself where there is none.
abbrev pub reconditioned : ℕ → ℕ → ℕ → List OwnBinding → List OwnBinding
reconditioned i on off [] = []
reconditioned zero on off (b ∷ bs) = record { from = b.from; to = b.to; on = on; off = off } ∷ bs
reconditioned (suc i) on off (b ∷ bs) = b ∷ reconditioned i on off bs

-- What a change makes of a list of own bindings: every other binding stays as it is.
abbrev pub changed : Change → List OwnBinding → List OwnBinding
changed (Bind b) own = own ++ b ∷ []
changed (Unbind i) own = remove own i
changed (Recondition i on off) own = reconditioned i on off own
