-- What a callback does, which is a function that the caller hands in: said by what its results mean.
use Rattle.std.specs.Prelude.{◌≡◌, ℕ, suc, ◌<◌, Bool, Option}
use Rattle.routing.specs.Net.{Net, Pos, Within}
use Rattle.routing.specs.Routes.{SomeNext}
use Rattle.rounds.specs.Claims.{Is}
use Rattle.rounds.specs.Rounds.{Decided}
use Rattle.judging.specs.Chosen.{at_place}

-- Whatever is made of three sets, f says which settings it holds, by which of the three hold them.
abbrev pub Makes : {S : Type 0} → (S → ℕ → Bool) → (S → S → S → S → Type 0) → (Bool → Bool → Bool → Bool) → Type 0
Makes holds made f = (s p q v : _) → made s p q v → (a : ℕ) → holds v a ≡ f (holds s a) (holds p a) (holds q a)

-- A round of a sequence of tests t(0), t(1), ..: what f makes of the positions of t(i), of the test p, and of the positions with
-- a step into those of t(i), are the positions of t(i + 1).
abbrev pub Turns : Net → (Bool → Bool → Bool → Bool) → (Pos → Bool) → (ℕ → Pos → Bool) → Type 0
Turns N f p t =
    (b into after : Pos → Bool) (i : ℕ) → Decided N b (Is (t i)) → Decided N into (SomeNext N (Is b))
    → ((x : Pos) → Within N x → after x ≡ f (b x) (p x) (into x)) → Decided N after (Is (t (suc i)))

-- Whatever is given of each of n places is the setting of the place's entry.
abbrev pub Gives : ℕ → (ℕ → Option ℕ → Type 0) → (ℕ → Option Pos) → Type 0
Gives n given enter = (t : ℕ) (a : Option ℕ) → t < n → given t a → at_place t a ≡ enter t
