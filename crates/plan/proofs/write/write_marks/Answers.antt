use Rattle.std.proofs.Common.{◌^◌, ◌<◌, length, sym, ap, ◌∙◌, arith}
use Rattle.plan.proofs.Puts.{put_nothing}
use Rattle.plan.specs.Numbers.{bytes_of}
use Rattle.plan.specs.Format.{flat}
use Rattle.plan.proofs.Elements.{each_from_getD}
use Rattle.plan.proofs.Widths.{bytes_of_4}
use Rattle.plan.proofs.Writes.{put_same, put_more, put_all, room_next}
use Rattle.plan.proofs.write.write_marks.Goals as goal

pub loop-m-init : goal.loop-m-init
unfolding flat
loop-m-init c = put_nothing c.args.out.now c.args.at

pub write-next-requires : goal.write-next-requires
write-next-requires c =
    omega (
      arith,
      ap length (c.to_le_bytes.ensures ∙ sym (bytes_of_4 _)),
      room_next (bytes_of 4) c.args.marks.now c.loop-m.m-index 0 c.loop-m-test.true c.loop-m.invariant c.requires,
    )

pub loop-m-preserved : goal.loop-m-preserved
loop-m-preserved c =
    put_more (bytes_of 4) c.args.marks.now c.loop-m.m-index 0 c.loop-m-test.true c.loop-m.invariant
    (put_same (c.to_le_bytes.ensures ∙ sym (bytes_of_4 _)) c.write-next.ensures)

pub returns : goal.returns
returns c = record {
  put = put_all (bytes_of 4) c.args.marks.now c.loop-m.m-index c.loop-m-test.false c.loop-m.invariant;
  fit = each_from_getD (λ m. m < 2 ^ 32) c.args.marks.now 0 (λ i h. (c.type_inv.marks i).fits);
}
