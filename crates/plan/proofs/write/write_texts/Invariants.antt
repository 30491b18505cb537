use Rattle.std.proofs.Common.{take}
use Rattle.plan.specs.Put.{Put}
use Rattle.plan.specs.Format.{flat, text_bytes}
use Rattle.plan.specs.Writing.{lent}
use Rattle.plan.proofs.write.write_texts.Given as goal

abbrev pub invariant-loop-text : goal.invariant-loop-text
invariant-loop-text l = Put l.initial.out l.at (flat text_bytes (take l.text-index (lent l.texts))) l.out l.next
