use Rattle.std.proofs.Common.{take}
use Rattle.plan.specs.Put.{Put}
use Rattle.plan.specs.Numbers.{bytes_of}
use Rattle.plan.specs.Format.{flat}
use Rattle.plan.proofs.write.write_marks.Given as goal

abbrev pub invariant-loop-m : goal.invariant-loop-m
invariant-loop-m l = Put l.initial.out l.at (flat (bytes_of 4) (take l.m-index l.marks)) l.out l.next
