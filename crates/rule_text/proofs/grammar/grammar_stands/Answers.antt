use Rattle.rule_text.proofs.Accepts.{one_rule}
use Rattle.rule_text.proofs.Bracketed.{words_are, words_in}
use Rattle.rule_text.proofs.Claimed.{decided, exact, text_once}
use Rattle.rule_text.proofs.grammar.grammar_stands.Goals as goal

pub returns : goal.returns
returns c = record {
  unambiguous = (one_rule, text_once);
  complete = λ K f h. (words_are f, words_in K f h);
  decided = decided;
  exact = exact;
}
