use Rattle.std.proofs.Common.{◌≡◌, ◌-◌}
use Rattle.plan.specs.Contents.{binding_count}
use Rattle.plan.specs.Shape.{ends_fault}
use Rattle.plan.proofs.shape.CountedFile.check_ends.Given as goal

-- The bindings before this one have their ends among the places.
abbrev pub invariant-loop-number : goal.invariant-loop-number
invariant-loop-number l = ends_fault l.self.bytes.now 0 (binding_count l.self.bytes.now) ≡ ends_fault l.self.bytes.now l.number (binding_count l.self.bytes.now - l.number)
