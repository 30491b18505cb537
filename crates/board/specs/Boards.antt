-- What a board was opened with, what it is on paper, and the network that it is.
use Rattle.conditions.specs.declared.set.ConditionSet.{Ghosts as SetGhosts}
use Rattle.routing.specs.declared.network.Network.{Ghosts}
use Rattle.routing.specs.Net.{Net}
use Rattle.board.specs.declared.board.Board.{Board}
use Rattle.board.specs.declared.proposed.Proposed.{Proposed}
use Rattle.paper.specs.Own.{changed}
use Rattle.paper.specs.Paper.{Opening, Paper, standing}
use Rattle.board.specs.Entries.{bindings_of}
use Rattle.board.specs.Possible.{change_of, change_in}
use Rattle.board.specs.Tables.{tables_of}

-- The opening.
abbrev pub opening_of : {F S : Type 0} {g : Ghosts F S} {s : SetGhosts S} → Board F S g s → Opening
opening_of {g = g} b = record { number = b.number; marks = b.front.marks.items; far = g.meaning b.front.far }

-- The board on paper.
abbrev pub paper_of : {F S : Type 0} {g : Ghosts F S} {s : SetGhosts S} → Board F S g s → Paper
paper_of b = record { own = bindings_of b.own.items.items; rules = tables_of b.rules; pending = change_in b.pending; last = b.last }

-- The standing network.
abbrev pub board_net : {F S : Type 0} {g : Ghosts F S} {s : SetGhosts S} → Board F S g s → Net
board_net b = standing (opening_of b) (paper_of b).own

-- The network with a change.
abbrev pub view_net : {F S : Type 0} {g : Ghosts F S} {s : SetGhosts S} → Proposed F S g s → Net
view_net p = standing (opening_of p.board.now) (changed (change_of p.change) (paper_of p.board.now).own)
