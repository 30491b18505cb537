use Rattle.rounds.specs.Claims.{Is}
use Rattle.rounds.proofs.Settle.{until_settles, always_settles}
use Rattle.rounds.proofs.Truth.{is_decides}
use Rattle.rounds.proofs.Exact.{until_exact, always_exact}
use Rattle.rounds.proofs.Every.{every_next, every_until, every_some, every_always}
use Rattle.rounds.proofs.rounds_stand.Goals as goal

pub returns : goal.returns
returns c = record {
  until = (
    λ N p q. until_exact N p q (Is p) (Is q) (is_decides N p) (is_decides N q),
    λ N p q. until_settles N p q (Is p) (Is q) (is_decides N p) (is_decides N q),
  );
  always = (λ N p. always_exact N p (Is p) (is_decides N p), λ N p. always_settles N p (Is p) (is_decides N p));
  every = λ N p q x w. record {
    next = every_next N p (Is p) (is_decides N p) x w;
    until = every_until N p q (Is p) (Is q) (is_decides N p) (is_decides N q) x w;
    some = every_some N q (Is q) (is_decides N q) x w;
    always = every_always N p (Is p) (is_decides N p) x w;
  };
}
