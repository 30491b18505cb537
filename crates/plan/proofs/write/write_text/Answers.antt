use Rattle.std.proofs.Common.{length, sym, ap, ◌∙◌, arith}
use Rattle.plan.proofs.Puts.{put_then}
use Rattle.plan.proofs.Widths.{bytes_of_2}
use Rattle.plan.proofs.Writes.{put_same, length_text}
use Rattle.plan.proofs.write.write_text.Goals as goal

pub write-behind_length-requires : goal.write-behind_length-requires
write-behind_length-requires c = omega (arith, length_text c.args.text.now, ap length c.to_le_bytes.ensures)

pub write-requires : goal.write-requires
write-requires c = omega (arith, length_text c.args.text.now, ap length c.to_le_bytes.ensures, c.write-behind_length.ensures.ends)

pub returns : goal.returns
returns c =
    put_then _ _ _ _ _ _ _ _ (put_same (c.to_le_bytes.ensures ∙ sym (bytes_of_2 (length c.args.text.now))) c.write-behind_length.ensures)
    c.write.ensures
