-- A part calls for words and parts, these for each part, and a part for one at an earlier row.
use Rattle.explanation.proofs.words.+write_inner_write_of_write_two_write_part.Given as goal
use Rattle.std.proofs.Common.{◌+◌, ◌*◌}

abbrev pub decreases-write_inner : goal.decreases-write_inner
decreases-write_inner g l = 4 * l.around

abbrev pub decreases-write_of : goal.decreases-write_of
decreases-write_of g l = 4 * l.around + 1

abbrev pub decreases-write_two : goal.decreases-write_two
decreases-write_two g l = 4 * l.around + 2

abbrev pub decreases-write_part : goal.decreases-write_part
decreases-write_part g l = 4 * l.part + 3
