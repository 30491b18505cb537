use Rattle.std.proofs.Common.{◌≡◌, ◌+◌, ◌-◌, ◌*◌, ◌≤◌, length, Some}
use Rattle.rule_text.specs.declared.word.Word.TheVariants.{And}
use Rattle.rule_text.specs.Descent.{Onward, Joining, Choosing}
use Rattle.rule_text.proofs.parse.Parser.+both_choice_one.Given as goal

-- a level costs three calls
abbrev pub decreases-choice : goal.decreases-choice
decreases-choice l = 3 * l.levels + 2

abbrev pub decreases-both : goal.decreases-both
decreases-both l = 3 * l.levels + 1

abbrev pub decreases-one : goal.decreases-one
decreases-one l = 3 * l.levels

abbrev pub invariant-both-loop-self : goal.invariant-both-loop-self
invariant-both-loop-self l = Onward l.initial.self.reader l.self.reader × (l.initial.self.reader.start ≤ l.self.reader.start) × Joining l.levels
    l.initial.self l.self l.initial.left l.left

-- unread bytes
abbrev pub decreases-both-loop-self : goal.decreases-both-loop-self
decreases-both-loop-self l = length l.initial.self.reader.text.now - l.self.reader.start

abbrev pub invariant-choice-loop-self : goal.invariant-choice-loop-self
invariant-choice-loop-self l =
    Onward l.initial.self.reader l.self.reader × (l.initial.self.reader.start ≤ l.self.reader.start) × (l.self.reader.word ≡ Some And → ⊥)
    × Choosing l.levels l.initial.self l.self l.initial.left l.left

abbrev pub decreases-choice-loop-self : goal.decreases-choice-loop-self
decreases-choice-loop-self l = length l.initial.self.reader.text.now - l.self.reader.start
