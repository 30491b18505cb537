use Rattle.std.proofs.Common.{ap, ◌∙◌}
use Rattle.board.specs.Entries.{bindings_of}
use Rattle.board.proofs.Entries.{removed_kept, when_kept}
use Rattle.board.proofs.own.OwnTable.make.Goals as goal

pub returns-in-Removes : goal.returns-in-Removes
returns-in-Removes g c = rw c.in-Removes.is (ap bindings_of c.remove.ensures ∙ removed_kept _ _)

pub returns-in-Forwards : goal.returns-in-Forwards
returns-in-Forwards g c = rw c.in-Forwards.is (ap bindings_of c.recondition.ensures ∙ when_kept _ _ _)
