use Rattle.std.proofs.Common.{sym, ◌∙◌, rules}
use Rattle.plan.proofs.Widths.{bytes_of_2, bytes_of_8}
use Rattle.plan.proofs.Writes.{put_same, put_three}
use Rattle.plan.proofs.write.write_binding.Goals as goal

pub returns : goal.returns
returns c = record {
  put =
      put_three (put_same (c.to_le_bytes.ensures ∙ sym (bytes_of_2 c.args.binding.now.from)) c.write-behind_from.ensures)
      (put_same (c.to_le_bytes-2.ensures ∙ sym (bytes_of_2 c.args.binding.now.to)) c.write-behind_to.ensures)
      (put_same (c.to_le_bytes-3.ensures ∙ sym (bytes_of_8 c.args.binding.now.set.0)) c.write.ensures);
  fits = search rules;
}
