use Rattle.rule_text.proofs.Steps.{took, missed}
use Rattle.rule_text.proofs.reader.Reader.take.Goals as goal

pub returns-then-has-clause-takes : goal.returns-then-has-clause-takes
returns-then-has-clause-takes c =
    took c.args.word c.args.self.now c.advance.new.self c.advance.result (c.has.ensures.0 c.if-has.true) c.advance.ensures.step

pub returns-else-has-clause-takes : goal.returns-else-has-clause-takes
returns-else-has-clause-takes c = missed c.args.word c.args.self.now c.unfit.result (λ e. cc (c.has.ensures.1 e)) c.unfit.ensures
