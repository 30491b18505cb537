use Rattle.std.proofs.Common.{◌+◌, ◌*◌, arith}
use Rattle.plan.proofs.Writes.{put_three, length_entry}
use Rattle.plan.proofs.write.write_contents.Goals as goal

pub write_entry-behind_second-requires : goal.write_entry-behind_second-requires
write_entry-behind_second-requires c = omega (arith, c.write_entry-behind_first.ensures.ends, length_entry 1 c.args.places 24)

pub write_entry-requires : goal.write_entry-requires
write_entry-requires c =
    omega (
      arith,
      c.write_entry-behind_first.ensures.ends,
      length_entry 1 c.args.places 24,
      c.write_entry-behind_second.ensures.ends,
      length_entry 2 c.args.bindings (24 + 4 * c.args.places),
    )

pub returns : goal.returns
returns c = put_three c.write_entry-behind_first.ensures c.write_entry-behind_second.ensures c.write_entry.ensures
