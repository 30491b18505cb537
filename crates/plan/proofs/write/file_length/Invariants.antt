use Rattle.std.proofs.Common.{◌≡◌, ◌+◌, ◌*◌, ◌≤◌, length, take, drop}
use Rattle.plan.specs.Format.{flat, text_bytes}
use Rattle.plan.specs.Writing.{lent, long_fault}
use Rattle.plan.proofs.write.file_length.Given as goal

abbrev pub invariant-loop-text : goal.invariant-loop-text
invariant-loop-text l =
    (l.byte ≡ l.start + length (flat text_bytes (take l.text-index (lent l.texts))))
    × (long_fault l.byte (drop l.text-index (lent l.texts)) ≡ long_fault l.start (lent l.texts))
    × (l.byte ≤ l.start + 202 * l.text-index)
