use Rattle.std.proofs.Common.{◌^◌, ◌<◌, get_or, arith}
use Rattle.conditions.specs.declared.word.Word.{Word}
use Rattle.routing.specs.declared.binding.Binding.{Binding}
use Rattle.plan.proofs.Puts.{put_nothing}
use Rattle.plan.specs.Format.{flat, binding_bytes}
use Rattle.plan.proofs.Elements.{each_none, each_more}
use Rattle.plan.proofs.Writes.{put_more, room_next, length_binding}
use Rattle.plan.proofs.write.write_bindings.Goals as goal

pub loop-b-init : goal.loop-b-init
unfolding flat
loop-b-init c = (put_nothing c.args.out.now c.args.at, each_none (λ b. b.set.0 < 2 ^ 64))

pub write_binding-next-requires : goal.write_binding-next-requires
write_binding-next-requires c =
    let d : Binding Word = record { from = 0; to = 0; set = record { 0 = 0 } } in
    omega (
      arith,
      length_binding (get_or c.args.records.now c.loop-b.b-index d),
      room_next binding_bytes c.args.records.now c.loop-b.b-index d c.loop-b-test.true c.loop-b.invariant.0 c.requires,
    )

pub loop-b-preserved : goal.loop-b-preserved
loop-b-preserved c = (
  put_more binding_bytes c.args.records.now c.loop-b.b-index _ c.loop-b-test.true c.loop-b.invariant.0 c.write_binding-next.ensures.put,
  each_more (λ b. b.set.0 < 2 ^ 64) c.args.records.now c.loop-b.b-index _ c.loop-b-test.true c.loop-b.invariant.1 c.write_binding-next.ensures.fits,
)
