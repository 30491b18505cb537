use Rattle.std.proofs.Common.{Err, sym, refl, ap, ◌∙◌, arith}
use Rattle.rule_text.specs.declared.word.Word.TheVariants.{And, Or}
use Rattle.rule_text.specs.Descent.{OneRead, BothRead, ChoiceRead}
use Rattle.rule_text.proofs.Emitted.{added_prefix, added_until}
use Rattle.rule_text.proofs.Steps.{parser, ahead_of, left_with, onward, cut, stuck, begun, no_start, is_before, is_open, is_routes}
use Rattle.rule_text.proofs.Parts
use Rattle.rule_text.proofs.parse.Parser.+both_choice_one.Goals as goal

pub both-returns-in_err-advance-clause-reads : goal.both-returns-in_err-advance-clause-reads
both-returns-in_err-advance-clause-reads t c =
    left_with (BothRead c.args.levels c.args.self.now (parser c.advance.new.self c.loop-self.self.table)) c.from_residual-in_err-advance.result
    c.in_err-advance.field-0.0 c.from_residual-in_err-advance.ensures.1
    (Parts.both_next_bad c.args.levels c.args.self.now c.one.new.self c.loop-self.self c.in_ok-left.left c.loop-self.left c.in_ok-left.ensures.reads c.one.ensures.on c.loop-self.invariant.2
    c.in_err-advance.field-0.0 (c.has.ensures.0 c.loop-self-test.true) c.in_err-advance.ensures.step)

pub both-returns-in_err-right-clause-reads : goal.both-returns-in_err-right-clause-reads
both-returns-in_err-right-clause-reads t c =
    left_with (BothRead c.args.levels c.args.self.now c.one-in-loop-self.new.self) c.from_residual-in_err-right.result c.in_err-right.field-0.0
    c.from_residual-in_err-right.ensures.1
    (Parts.both_part_bad c.args.levels c.args.self.now c.one.new.self c.loop-self.self c.in_ok-left.left c.loop-self.left c.in_ok-left.ensures.reads c.one.ensures.on c.loop-self.invariant.2 c.advance.new.self
    c.in_err-right.field-0.0 (c.has.ensures.0 c.loop-self-test.true) c.in_ok-advance.ensures.step
    (onward c.args.self.now.reader c.loop-self.self.reader c.advance.new.self
    (onward c.args.self.now.reader c.one.new.self.reader c.loop-self.self.reader c.one.ensures.on c.loop-self.invariant.0) c.advance.ensures.on)
    c.in_err-right.ensures.reads)

pub both-loop-self-preserved : goal.both-loop-self-preserved
both-loop-self-preserved t c = (
  onward c.one.new.self.reader c.advance.new.self c.one-in-loop-self.new.self.reader
      (onward c.one.new.self.reader c.loop-self.self.reader c.advance.new.self c.loop-self.invariant.0 c.advance.ensures.on)
      c.one-in-loop-self.ensures.on,
  omega (
    arith,
    c.in_ok-right.ensures.reads.2,
    ahead_of c.loop-self.self.reader c.advance.new.self And (c.has.ensures.0 c.loop-self-test.true)
        c.in_ok-advance.ensures.step,
  ),
  Parts.joining_more c.args.levels c.one.new.self c.loop-self.self c.one-in-loop-self.new.self c.advance.new.self c.emit-left.new.t
      c.in_ok-left.left c.loop-self.left c.in_ok-right.right c.emit-left.result
      c.loop-self.invariant.2 c.loop-self.invariant.0 (c.has.ensures.0 c.loop-self-test.true) c.in_ok-advance.ensures.step c.advance.ensures.on
      c.in_ok-right.ensures.reads
      c.emit-left.ensures.rows c.emit-left.ensures.last,
)

pub choice-returns-in_err-advance-clause-reads : goal.choice-returns-in_err-advance-clause-reads
choice-returns-in_err-advance-clause-reads t c =
    left_with (ChoiceRead c.args.levels c.args.self.now (parser c.advance.new.self c.loop-self.self.table)) c.from_residual-in_err-advance.result
    c.in_err-advance.field-0.0 c.from_residual-in_err-advance.ensures.1
    (Parts.choice_next_bad c.args.levels c.args.self.now c.both.new.self c.loop-self.self c.in_ok-left.left c.loop-self.left c.in_ok-left.ensures.reads c.both.ensures.on
    c.loop-self.invariant.3 c.in_err-advance.field-0.0 (c.has.ensures.0 c.loop-self-test.true) c.in_err-advance.ensures.step)

pub choice-returns-in_err-right-clause-reads : goal.choice-returns-in_err-right-clause-reads
choice-returns-in_err-right-clause-reads t c =
    left_with (ChoiceRead c.args.levels c.args.self.now c.both-in-loop-self.new.self) c.from_residual-in_err-right.result c.in_err-right.field-0.0
    c.from_residual-in_err-right.ensures.1
    (Parts.choice_part_bad c.args.levels c.args.self.now c.both.new.self c.loop-self.self c.in_ok-left.left c.loop-self.left c.in_ok-left.ensures.reads c.both.ensures.on
    c.loop-self.invariant.3 c.advance.new.self c.in_err-right.field-0.0 (c.has.ensures.0 c.loop-self-test.true) c.in_ok-advance.ensures.step
    (onward c.args.self.now.reader c.loop-self.self.reader c.advance.new.self
    (onward c.args.self.now.reader c.both.new.self.reader c.loop-self.self.reader c.both.ensures.on c.loop-self.invariant.0) c.advance.ensures.on)
    c.in_err-right.ensures.reads)

pub choice-loop-self-preserved : goal.choice-loop-self-preserved
choice-loop-self-preserved t c = (
  onward c.both.new.self.reader c.advance.new.self c.both-in-loop-self.new.self.reader
      (onward c.both.new.self.reader c.loop-self.self.reader c.advance.new.self c.loop-self.invariant.0 c.advance.ensures.on)
      c.both-in-loop-self.ensures.on,
  omega (
    arith,
    c.in_ok-right.ensures.reads.2,
    ahead_of c.loop-self.self.reader c.advance.new.self Or (c.has.ensures.0 c.loop-self-test.true)
        c.in_ok-advance.ensures.step,
  ),
  c.in_ok-right.ensures.reads.3,
  Parts.choosing_more c.args.levels c.both.new.self c.loop-self.self c.both-in-loop-self.new.self c.advance.new.self c.emit-left.new.t
      c.in_ok-left.left c.loop-self.left c.in_ok-right.right c.emit-left.result
      c.loop-self.invariant.3 c.loop-self.invariant.0 (c.has.ensures.0 c.loop-self-test.true) c.in_ok-advance.ensures.step c.advance.ensures.on
      c.in_ok-right.ensures.reads
      c.emit-left.ensures.rows c.emit-left.ensures.last,
)

pub choice-returns-clause-reads : goal.choice-returns-clause-reads
choice-returns-clause-reads t c =
    Parts.choice_done c.args.levels c.args.self.now c.both.new.self c.loop-self.self c.in_ok-left.left c.loop-self.left c.in_ok-left.ensures.reads c.both.ensures.on c.loop-self.invariant.3
    c.loop-self.invariant.1 c.loop-self.invariant.2 (λ e. cc (c.has.ensures.1 e))

pub one-returns-in_err-enter-clause-reads : goal.one-returns-in_err-enter-clause-reads
one-returns-in_err-enter-clause-reads t c =
    Parts.one_not_entered c.args.levels c.args.self.now.reader c.enter.new.self c.args.self.now.table _ _ c.from_residual.result c.in_err-enter.field-0.0
    c.from_residual.ensures.1 (begun c.start.ensures c.in-Some-start.is refl) c.in-Some.is c.in_err-enter.ensures.enters

pub one-returns-in-Atom-clause-reads : goal.one-returns-in-Atom-clause-reads
one-returns-in-Atom-clause-reads t c =
    Parts.one_atom c.args.levels c.args.self.now.reader c.enter.new.self c.args.self.now.table c.emit.new.t c.emit.result c.in-Some.word c.in-Atom.operation
    (begun c.start.ensures c.in-Some-start.is c.in-Atom.is) c.in-Some.is c.in_ok-enter.ensures.enters c.emit.ensures.rows c.emit.ensures.last

pub one-returns-in_ok-part-in-Prefix-clause-reads : goal.one-returns-in_ok-part-in-Prefix-clause-reads
one-returns-in_ok-part-in-Prefix-clause-reads t c =
    Parts.one_prefix c.in-Prefix.prefix c.args.levels c.args.self.now.reader c.enter.new.self c.one.new.self.reader c.args.self.now.table
    c.open_prefix-first.new.t c.one.new.self.table c.close_prefix.new.t c.in_ok-part-in-Prefix.part c.close_prefix.result
    (is_before c.in-Some.is (begun c.start.ensures c.in-Some-start.is c.in-Prefix.is)) c.in_ok-enter.ensures.enters c.enter.ensures.on c.in_ok-part-in-Prefix.ensures.reads
    (λ p ad. added_prefix c.in-Prefix.prefix c.args.self.now.table c.open_prefix-first.new.t c.one.new.self.table c.close_prefix.new.t p
    c.open_prefix-first.result c.in_ok-part-in-Prefix.part c.close_prefix.result
    c.open_prefix-first.ensures.rows c.open_prefix-first.ensures.last ad c.close_prefix.ensures.rows c.close_prefix.ensures.last)

pub one-returns-in_err-part-in-Prefix-clause-reads : goal.one-returns-in_err-part-in-Prefix-clause-reads
one-returns-in_err-part-in-Prefix-clause-reads t c =
    left_with (OneRead c.args.levels c.args.self.now c.one.new.self) c.from_residual-in_err-part-in-Prefix.result c.in_err-part-in-Prefix.field-0.0
    c.from_residual-in_err-part-in-Prefix.ensures.1
    (Parts.one_prefix_not c.in-Prefix.prefix c.args.levels c.args.self.now.reader c.enter.new.self c.in_err-part-in-Prefix.field-0.0
    (is_before c.in-Some.is (begun c.start.ensures c.in-Some-start.is c.in-Prefix.is)) c.in_ok-enter.ensures.enters c.enter.ensures.on c.in_err-part-in-Prefix.ensures.reads)

pub one-returns-in_err-whole-in-Bracket-clause-reads : goal.one-returns-in_err-whole-in-Bracket-clause-reads
one-returns-in_err-whole-in-Bracket-clause-reads t c =
    left_with (OneRead c.args.levels c.args.self.now c.choice.new.self) c.from_residual-in_err-whole-in-Bracket.result c.in_err-whole-in-Bracket.field-0.0
    c.from_residual-in_err-whole-in-Bracket.ensures.1
    (Parts.one_bracket_not c.args.levels c.args.self.now.reader c.enter.new.self (is_open c.in-Some.is (begun c.start.ensures c.in-Some-start.is c.in-Bracket.is))
    c.in_ok-enter.ensures.enters c.enter.ensures.on c.in_err-whole-in-Bracket.field-0.0 c.in_err-whole-in-Bracket.ensures.reads)

pub one-returns-in_err-take-in-Bracket-clause-reads : goal.one-returns-in_err-take-in-Bracket-clause-reads
one-returns-in_err-take-in-Bracket-clause-reads t c =
    left_with (OneRead c.args.levels c.args.self.now (parser c.take.new.self c.choice.new.self.table)) c.from_residual-in_err-take-in-Bracket.result
    c.in_err-take-in-Bracket.field-0.0 c.from_residual-in_err-take-in-Bracket.ensures.1
    (Parts.one_bracket_open c.args.levels c.args.self.now.reader c.enter.new.self (is_open c.in-Some.is (begun c.start.ensures c.in-Some-start.is c.in-Bracket.is))
    c.in_ok-enter.ensures.enters c.enter.ensures.on c.choice.new.self.reader c.args.self.now.table c.choice.new.self.table
    c.in_ok-whole-in-Bracket.whole c.in_err-take-in-Bracket.field-0.0 c.in_ok-whole-in-Bracket.ensures.reads c.choice.ensures.on
    c.in_err-take-in-Bracket.ensures.takes)

pub one-returns-in_ok-take-in-Bracket-clause-reads : goal.one-returns-in_ok-take-in-Bracket-clause-reads
one-returns-in_ok-take-in-Bracket-clause-reads t c =
    Parts.one_bracket c.args.levels c.args.self.now.reader c.enter.new.self (is_open c.in-Some.is (begun c.start.ensures c.in-Some-start.is c.in-Bracket.is))
    c.in_ok-enter.ensures.enters c.enter.ensures.on c.choice.new.self.reader c.take.new.self c.args.self.now.table
    c.choice.new.self.table c.in_ok-whole-in-Bracket.whole c.in_ok-whole-in-Bracket.ensures.reads c.choice.ensures.on c.in_ok-take-in-Bracket.ensures.takes

pub one-returns-in_err-take-in-Quantifier-clause-reads : goal.one-returns-in_err-take-in-Quantifier-clause-reads
one-returns-in_err-take-in-Quantifier-clause-reads t c =
    left_with (OneRead c.args.levels c.args.self.now (parser c.take-in-Quantifier.new.self c.args.self.now.table))
    c.from_residual-in_err-take-in-Quantifier.result c.in_err-take-in-Quantifier.field-0.0 c.from_residual-in_err-take-in-Quantifier.ensures.1
    (Parts.one_until_square c.in-Quantifier.quantifier c.args.levels c.args.self.now.reader c.enter.new.self
    (is_routes c.in-Some.is (begun c.start.ensures c.in-Some-start.is c.in-Quantifier.is)) c.in_ok-enter.ensures.enters c.enter.ensures.on c.in_err-take-in-Quantifier.field-0.0
    c.in_err-take-in-Quantifier.ensures.takes)

pub one-returns-in_err-p-in-Quantifier-clause-reads : goal.one-returns-in_err-p-in-Quantifier-clause-reads
one-returns-in_err-p-in-Quantifier-clause-reads t c =
    left_with (OneRead c.args.levels c.args.self.now c.choice-in-Quantifier.new.self) c.from_residual-in_err-p-in-Quantifier.result
    c.in_err-p-in-Quantifier.field-0.0 c.from_residual-in_err-p-in-Quantifier.ensures.1
    (Parts.one_until_first_not c.in-Quantifier.quantifier c.args.levels c.args.self.now.reader c.enter.new.self
    (is_routes c.in-Some.is (begun c.start.ensures c.in-Some-start.is c.in-Quantifier.is)) c.in_ok-enter.ensures.enters c.enter.ensures.on c.take-in-Quantifier.new.self
    c.in_ok-take-in-Quantifier.ensures.takes c.take-in-Quantifier.ensures.on c.in_err-p-in-Quantifier.field-0.0 c.in_err-p-in-Quantifier.ensures.reads)

pub one-returns-in_err-take-in-Quantifier-2-clause-reads : goal.one-returns-in_err-take-in-Quantifier-2-clause-reads
one-returns-in_err-take-in-Quantifier-2-clause-reads t c =
    left_with (OneRead c.args.levels c.args.self.now (parser c.take-in-Quantifier-2.new.self c.choice-in-Quantifier.new.self.table))
    c.from_residual-in_err-take-in-Quantifier-2.result c.in_err-take-in-Quantifier-2.field-0.0 c.from_residual-in_err-take-in-Quantifier-2.ensures.1
    (Parts.one_until_missing c.in-Quantifier.quantifier c.args.levels c.args.self.now.reader c.enter.new.self
    (is_routes c.in-Some.is (begun c.start.ensures c.in-Some-start.is c.in-Quantifier.is)) c.in_ok-enter.ensures.enters c.enter.ensures.on c.take-in-Quantifier.new.self
    c.in_ok-take-in-Quantifier.ensures.takes c.take-in-Quantifier.ensures.on c.choice-in-Quantifier.new.self.reader c.args.self.now.table
    c.choice-in-Quantifier.new.self.table c.in_ok-p-in-Quantifier.p c.in_ok-p-in-Quantifier.ensures.reads c.choice-in-Quantifier.ensures.on
    c.in_err-take-in-Quantifier-2.field-0.0 c.in_err-take-in-Quantifier-2.ensures.takes)

pub one-returns-in_err-q-in-Quantifier-clause-reads : goal.one-returns-in_err-q-in-Quantifier-clause-reads
one-returns-in_err-q-in-Quantifier-clause-reads t c =
    left_with (OneRead c.args.levels c.args.self.now c.choice-in-Quantifier-2.new.self) c.from_residual-in_err-q-in-Quantifier.result
    c.in_err-q-in-Quantifier.field-0.0 c.from_residual-in_err-q-in-Quantifier.ensures.1
    (Parts.one_until_second_not c.in-Quantifier.quantifier c.args.levels c.args.self.now.reader c.enter.new.self
    (is_routes c.in-Some.is (begun c.start.ensures c.in-Some-start.is c.in-Quantifier.is)) c.in_ok-enter.ensures.enters c.enter.ensures.on c.take-in-Quantifier.new.self
    c.in_ok-take-in-Quantifier.ensures.takes c.take-in-Quantifier.ensures.on c.choice-in-Quantifier.new.self.reader c.args.self.now.table
    c.choice-in-Quantifier.new.self.table c.in_ok-p-in-Quantifier.p c.in_ok-p-in-Quantifier.ensures.reads c.choice-in-Quantifier.ensures.on
    c.take-in-Quantifier-2.new.self c.in_ok-take-in-Quantifier-2.ensures.takes c.take-in-Quantifier-2.ensures.on c.in_err-q-in-Quantifier.field-0.0
    c.in_err-q-in-Quantifier.ensures.reads)

pub one-returns-in_err-take-in-Quantifier-3-clause-reads : goal.one-returns-in_err-take-in-Quantifier-3-clause-reads
one-returns-in_err-take-in-Quantifier-3-clause-reads t c =
    left_with (OneRead c.args.levels c.args.self.now (parser c.take-in-Quantifier-3.new.self c.choice-in-Quantifier-2.new.self.table))
    c.from_residual-in_err-take-in-Quantifier-3.result c.in_err-take-in-Quantifier-3.field-0.0 c.from_residual-in_err-take-in-Quantifier-3.ensures.1
    (Parts.one_until_open c.in-Quantifier.quantifier c.args.levels c.args.self.now.reader c.enter.new.self
    (is_routes c.in-Some.is (begun c.start.ensures c.in-Some-start.is c.in-Quantifier.is)) c.in_ok-enter.ensures.enters c.enter.ensures.on c.take-in-Quantifier.new.self
    c.in_ok-take-in-Quantifier.ensures.takes c.take-in-Quantifier.ensures.on c.choice-in-Quantifier.new.self.reader c.args.self.now.table
    c.choice-in-Quantifier.new.self.table c.in_ok-p-in-Quantifier.p c.in_ok-p-in-Quantifier.ensures.reads c.choice-in-Quantifier.ensures.on
    c.take-in-Quantifier-2.new.self c.in_ok-take-in-Quantifier-2.ensures.takes c.take-in-Quantifier-2.ensures.on c.choice-in-Quantifier-2.new.self.reader
    c.choice-in-Quantifier-2.new.self.table c.in_ok-q-in-Quantifier.q c.in_ok-q-in-Quantifier.ensures.reads c.choice-in-Quantifier-2.ensures.on
    c.in_err-take-in-Quantifier-3.field-0.0 c.in_err-take-in-Quantifier-3.ensures.takes)

pub one-returns-in_ok-take-in-Quantifier-3-clause-reads : goal.one-returns-in_ok-take-in-Quantifier-3-clause-reads
one-returns-in_ok-take-in-Quantifier-3-clause-reads t c =
    let first = c.in_ok-p-in-Quantifier.ensures.reads in
    let second = c.in_ok-q-in-Quantifier.ensures.reads in
    Parts.one_until c.in-Quantifier.quantifier c.args.levels c.args.self.now.reader c.enter.new.self (is_routes c.in-Some.is (begun c.start.ensures c.in-Some-start.is c.in-Quantifier.is))
    c.in_ok-enter.ensures.enters c.enter.ensures.on c.take-in-Quantifier.new.self c.in_ok-take-in-Quantifier.ensures.takes
    c.take-in-Quantifier.ensures.on c.choice-in-Quantifier.new.self.reader c.args.self.now.table c.choice-in-Quantifier.new.self.table c.in_ok-p-in-Quantifier.p
    c.in_ok-p-in-Quantifier.ensures.reads c.choice-in-Quantifier.ensures.on c.take-in-Quantifier-2.new.self c.in_ok-take-in-Quantifier-2.ensures.takes
    c.take-in-Quantifier-2.ensures.on c.choice-in-Quantifier-2.new.self.reader c.choice-in-Quantifier-2.new.self.table c.in_ok-q-in-Quantifier.q
    c.in_ok-q-in-Quantifier.ensures.reads c.choice-in-Quantifier-2.ensures.on c.take-in-Quantifier-3.new.self c.close_until.new.t c.close_until.result
    c.in_ok-take-in-Quantifier-3.ensures.takes
    (added_until c.in-Quantifier.quantifier c.args.self.now.table c.choice-in-Quantifier.new.self.table c.choice-in-Quantifier-2.new.self.table
    c.close_until.new.t _ _ c.in_ok-p-in-Quantifier.p c.in_ok-q-in-Quantifier.q c.close_until.result
    first.2 second.2 c.close_until.ensures.rows c.close_until.ensures.last)

pub one-returns-in_default-clause-reads : goal.one-returns-in_default-clause-reads
one-returns-in_default-clause-reads t c =
    λ xs o l K d. cut c.args.self.now.reader _ c.in_default.is refl ∙ ap Err (sym c.unfit.ensures)

pub one-returns-in_default-start-clause-reads : goal.one-returns-in_default-start-clause-reads
one-returns-in_default-start-clause-reads t c =
    λ xs o l K d. stuck _ c.args.self.now.reader c.in-Some.word _ c.in-Some.is
    (no_start c.in-Some.word xs o l K (sym c.start.ensures ∙ c.in_default-start.is)) ∙ ap Err (sym c.unfit-in_default-start.ensures)
