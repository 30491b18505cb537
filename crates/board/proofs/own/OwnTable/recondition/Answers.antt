use Rattle.board.proofs.Entries.{set_when}
use Rattle.board.proofs.own.OwnTable.recondition.Goals as goal

pub returns : goal.returns
returns g c = set_when _ _ _ _ c.requires c.index_mut-entry.ensures.value
