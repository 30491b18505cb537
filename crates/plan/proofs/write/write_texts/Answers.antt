use Rattle.std.proofs.Common.{arith}
use Rattle.plan.proofs.Puts.{put_nothing}
use Rattle.plan.specs.Format.{flat}
use Rattle.plan.proofs.Lent.{room_lent, put_lent, short_lent}
use Rattle.plan.proofs.write.write_texts.Goals as goal

pub loop-text-init : goal.loop-text-init
unfolding flat
loop-text-init c = put_nothing c.args.out.now c.args.at

pub write_text-next-requires : goal.write_text-next-requires
write_text-next-requires c = record {
  room = room_lent c.args.texts.now c.loop-text.text-index _ c.loop-text-test.true c.loop-text.invariant (omega (arith, c.requires.room));
  short = short_lent c.args.texts.now c.loop-text.text-index _ c.loop-text-test.true c.requires.rules;
}

pub loop-text-preserved : goal.loop-text-preserved
loop-text-preserved c = put_lent c.args.texts.now c.loop-text.text-index _ c.loop-text-test.true c.loop-text.invariant c.write_text-next.ensures
