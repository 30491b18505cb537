use Rattle.std.proofs.Common.{◌*◌, ◌≤◌, take}
use Rattle.paper.specs.Rules.{AllHold, RoundsOfAll}
use Rattle.board.specs.Tables.{rows_of}
use Rattle.board.proofs.judged.judge_rules.Given as goal

-- The rules so far hold, and their rounds are summed.
abbrev pub invariant-loop-number : goal.invariant-loop-number
invariant-loop-number g l =
    let N = g.N.Network.meaning l.net in
    record {
      hold : AllHold N (take l.number (rows_of l.rules));
      counted : RoundsOfAll N (take l.number (rows_of l.rules)) l.rounds;
      few : l.rounds ≤ l.number * 8192;
    }
