use Rattle.std.proofs.Common.{length, sym, ap, arith}
use Rattle.plan.specs.Format.{Plan, contents}
use Rattle.plan.specs.Writing.{plan_with}
use Rattle.plan.proofs.Encoded.{length_parts, put_parts}
use Rattle.plan.proofs.Lent.{lent_length}
use Rattle.plan.proofs.Writes.{put_same, length_contents}
use Rattle.plan.proofs.write.write_file.Goals as goal

pub write_contents-behind_contents-requires : goal.write_contents-behind_contents-requires
write_contents-behind_contents-requires c =
    let p : Plan = plan_with c.args.marks.now c.args.records.now c.args.texts.now in
    record {
      few_places = c.requires.few_places;
      few_bindings = c.requires.few_bindings;
      few_rules = omega (arith, lent_length c.args.texts.now, c.requires.few_rules);
      room = omega (arith, c.requires.fits, length_parts p);
    }

pub write_marks-behind_marks-requires : goal.write_marks-behind_marks-requires
write_marks-behind_marks-requires c =
    omega (
      arith,
      c.requires.fits,
      length_parts (plan_with c.args.marks.now c.args.records.now c.args.texts.now),
      c.write_contents-behind_contents.ensures.ends,
      length_contents (length c.args.marks.now) (length c.args.records.now) (length c.args.texts.now),
    )

pub write_bindings-behind_bindings-requires : goal.write_bindings-behind_bindings-requires
write_bindings-behind_bindings-requires c =
    omega (
      arith,
      c.requires.fits,
      length_parts (plan_with c.args.marks.now c.args.records.now c.args.texts.now),
      c.write_contents-behind_contents.ensures.ends,
      length_contents (length c.args.marks.now) (length c.args.records.now) (length c.args.texts.now),
      c.write_marks-behind_marks.ensures.put.ends,
    )

pub write_texts-requires : goal.write_texts-requires
write_texts-requires c = record {
  room = omega (
    arith,
    c.requires.fits,
    length_parts (plan_with c.args.marks.now c.args.records.now c.args.texts.now),
    c.write_contents-behind_contents.ensures.ends,
    length_contents (length c.args.marks.now) (length c.args.records.now) (length c.args.texts.now),
    c.write_marks-behind_marks.ensures.put.ends,
    c.write_bindings-behind_bindings.ensures.put.ends,
  );
  rules = c.requires.rules;
}

pub returns : goal.returns
returns c =
    let p : Plan = plan_with c.args.marks.now c.args.records.now c.args.texts.now in
    record {
      put =
          put_parts p
          (put_same (ap (contents (length p.marks) (length p.records)) (sym (lent_length c.args.texts.now))) c.write_contents-behind_contents.ensures)
          c.write_marks-behind_marks.ensures.put c.write_bindings-behind_bindings.ensures.put c.write_texts.ensures;
      marks_fit = c.write_marks-behind_marks.ensures.fit;
      sets_fit = c.write_bindings-behind_bindings.ensures.fit;
    }
