use Rattle.std.proofs.Common.{◌^◌, ◌<◌, take}
use Rattle.plan.specs.Put.{Put}
use Rattle.plan.specs.Format.{flat, binding_bytes}
use Rattle.plan.specs.Reading.{Each}
use Rattle.plan.proofs.write.write_bindings.Given as goal

abbrev pub invariant-loop-b : goal.invariant-loop-b
invariant-loop-b l =
    Put l.initial.out l.at (flat binding_bytes (take l.b-index l.records)) l.out l.next
    × Each (λ b. b.set.0 < 2 ^ 64) (take l.b-index l.records)
