-- Writing bytes into a list that is lent for output.
use Rattle.std.specs.Prelude.{◌≡◌, ℕ, ◌+◌, List, ◌++◌, length, take, drop}

-- The bytes stand in the list from number `at` on, `next` is the number behind them, and the rest of the list is as before.
pub record Put (before : List ℕ) (at : ℕ) (bytes : List ℕ) (after : List ℕ) (next : ℕ) : Type 0 where
  pub ends : next ≡ at + length bytes
  pub front : take next after ≡ take at before ++ bytes
  pub rest : drop next after ≡ drop next before
