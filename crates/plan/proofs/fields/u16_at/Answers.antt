use Rattle.std.proofs.Common.{ap, ◌∙◌, arith}
use Rattle.plan.specs.Numbers.{number_of}
use Rattle.plan.proofs.FieldBytes.{number_of_2}
use Rattle.plan.proofs.fields.u16_at.Goals as goal

pub returns : goal.returns
returns c = c.from_le_bytes.ensures ∙ (number_of_2 c.bytes_at.result (omega arith) ∙ ap number_of c.bytes_at.ensures)
