use Rattle.std.proofs.Common.{sym, ◌∙◌}
use Rattle.plan.proofs.Widths.{bytes_of_2, bytes_of_4}
use Rattle.plan.proofs.Writes.{put_same, put_three}
use Rattle.plan.proofs.write.write_entry.Goals as goal

pub returns : goal.returns
returns c =
    put_three (put_same (c.to_le_bytes.ensures ∙ sym (bytes_of_2 c.args.kind)) c.write-behind_kind.ensures)
    (put_same (c.to_le_bytes-2.ensures ∙ sym (bytes_of_2 c.args.count)) c.write-behind_count.ensures)
    (put_same (c.to_le_bytes-3.ensures ∙ sym (bytes_of_4 c.args.start)) c.write.ensures)
