use Rattle.std.proofs.Common.{◌≡◌, ◌++◌, length, take, refl, ap, ◌∙◌, arith}
use Rattle.std.proofs.lemmas.Slice.{take-put_mid, drop-put_mid}
use Rattle.plan.proofs.write.write.Goals as goal

pub returns : goal.returns
returns c =
    let len : length c.copy_from_slice.new.self ≡ length c.args.bytes.now = ap length c.copy_from_slice.ensures.after in
    record {
      ends = refl;
      front =
          take-put_mid c.args.at _ c.args.out.now c.copy_from_slice.new.self _ (omega arith) (omega arith)
          ∙ ap (λ ys. take c.args.at c.args.out.now ++ ys) c.copy_from_slice.ensures.after;
      rest = drop-put_mid c.args.at _ c.args.out.now c.copy_from_slice.new.self _ (omega arith) (omega arith) (omega arith);
    }
