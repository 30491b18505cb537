use Rattle.std.proofs.Common.{◌≡◌, ◌∷◌, MatchResult, sym, ap, ◌∙◌, arith}
use Rattle.std.proofs.lemmas.Grind.{common_steps}
use Rattle.rule_text.specs.Descent.{Fails, Stepped, bad, item_of, items}
use Rattle.rule_text.proofs.Steps.{left_with}
use Rattle.rule_text.proofs.Pieces.{items_end, items_word}
use Rattle.rule_text.proofs.reader.Reader.advance.Goals as goal

pub returns-then-start-self-clause-step : goal.returns-then-start-self-clause-step
returns-then-start-self-clause-step c = record {
  reads = sym (items_end c.args.self.now.conditions c.args.self.now.text.now c.args.self.now.next c.skip_spaces-start.result
      c.skip_spaces-start.ensures.same (omega arith));
  later = c.skip_spaces-start.ensures.from;
}

pub returns-in_err-word-clause-step : goal.returns-in_err-word-clause-step
returns-in_err-word-clause-step c =
    let bad_word : item_of c.skip_spaces-start.result c.read_word.result ≡ bad c.in_err-word.field-0.0 = grind
    (arith, common_steps, c.in_err-word.ensures, c.in_err-word.was) in
    left_with (λ r. MatchResult r (λ _. Stepped c.args.self.now c.args.self.now) (Fails c.args.self.now)) c.from_residual.result
    c.in_err-word.field-0.0 c.from_residual.ensures.1 (
      _,
      items_word c.args.self.now.conditions c.args.self.now.text.now c.args.self.now.next c.skip_spaces-start.result c.word_end-end.result
          c.read_word.result
          c.skip_spaces-start.ensures.same c.word_end-end.ensures.word c.read_word.ensures ∙ ap
          (λ i. i ∷ items c.args.self.now.conditions c.args.self.now.text.now c.word_end-end.result) bad_word,
    )
