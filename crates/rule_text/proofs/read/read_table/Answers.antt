use Rattle.std.proofs.Common.{◌∙◌, length, Some, Err, sym, ap, subst, arith}
use Rattle.rule_text.specs.Reading.{Reading, Answer, too_long}
use Rattle.rule_text.proofs.Answered.{first_bad, more_words, rule_bad, table_answered}
use Rattle.rule_text.proofs.Steps.{left_with}
use Rattle.rule_text.proofs.read.read_table.Goals as goal

pub returns-then-text-gt-MOST_BYTES : goal.returns-then-text-gt-MOST_BYTES
returns-then-text-gt-MOST_BYTES c = too_long c.args.text.now c.if-text-gt-MOST_BYTES.true

pub returns-in_err-advance : goal.returns-in_err-advance
returns-in_err-advance c =
    let bad_next = c.in_err-advance.ensures.step in
    left_with (Answer c.args.conditions c.args.text.now) c.from_residual.result c.in_err-advance.field-0.0 c.from_residual.ensures.1
    (first_bad c.args.conditions c.args.text.now (omega arith) c.in_err-advance.field-0.0 bad_next.0 (cc bad_next.1))

pub returns-in_err-choice : goal.returns-in_err-choice
returns-in_err-choice c =
    left_with (Answer c.args.conditions c.args.text.now) c.from_residual-in_err-choice.result c.in_err-choice.field-0.0
    c.from_residual-in_err-choice.ensures.1
    (rule_bad c.args.conditions c.args.text.now (omega arith) c.advance.new.self (cc c.in_ok-advance.ensures.step.reads)
    (ap (λ x. length x.now) c.advance.ensures.on.text_same ∙ ap length c.new-reader.ensures.text) c.in_err-choice.field-0.0
    c.in_err-choice.ensures.reads)

pub returns-then-is_some : goal.returns-then-is_some
returns-then-is_some c =
    subst (λ e. Reading c.args.conditions c.args.text.now (Err e)) (sym c.unfit.ensures)
    (more_words c.args.conditions c.args.text.now (omega arith) c.advance.new.self (cc c.in_ok-advance.ensures.step.reads)
    (ap (λ x. length x.now) c.advance.ensures.on.text_same ∙ ap length c.new-reader.ensures.text) c.choice.new.self (Some c.new.result)
    c.in_ok-choice.field-0 c.in_ok-choice.ensures.reads
    (sym c.if-is_some.ensures))

pub returns : goal.returns
returns c =
    subst (Answer c.args.conditions c.args.text.now) (sym c.ok_or.ensures.value)
    (table_answered c.args.conditions c.args.text.now (omega arith) c.advance.new.self (cc c.in_ok-advance.ensures.step.reads)
    (ap (λ x. length x.now) c.advance.ensures.on.text_same ∙ ap length c.new-reader.ensures.text) c.choice.new.self (Some c.new.result)
    c.in_ok-choice.field-0 c.in_ok-choice.ensures.reads
    (ap Some c.new.ensures) (sym c.if-is_some.ensures))
