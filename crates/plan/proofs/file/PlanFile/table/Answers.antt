use Rattle.std.proofs.Common.{rules, ◌≡◌, ℕ, ◌<◌, List, true, Ok, Err, Result, IsOk, IfOk, refl, sym, subst, arith}
use mathlib.Core.Logic.{∥∥₁_elim}
use Rattle.routing.specs.Rules.{Rule}
use Rattle.tables.specs.Tables.{accepted}
use Rattle.rule_text.specs.declared.fault.Fault.{Fault}
use Rattle.rule_text.specs.declared.table.Table.{Table}
use Rattle.rule_text.specs.Reading.{Answer, Reading, StandsFor, table_rows}
use Rattle.rule_text.proofs.Once.{reading_once}
use Rattle.plan.specs.Contents.{rule_count, text_at}
use Rattle.plan.specs.Files.{file_plan}
use Rattle.plan.specs.Reading.{TextsRead}
use Rattle.plan.proofs.Listed.{listed_at, past_of_none}
use Rattle.plan.proofs.file.PlanFile.table.Goals as goal

-- A text that is a rule is not refused.
never : (file text : List ℕ) (i : ℕ) (e : Fault) → i < rule_count file → text_at file i ≡ text → TextsRead file → Reading 6 text (Err e) → ⊥
never file text i e below same reads refused =
    let rule = reads i below in
    let one : ◌≡◌ {A = Result Rule Fault} (Ok rule.0) (Err e) =
    reading_once 6 text (Ok rule.0) (Err e) (subst (λ (t : List ℕ). Reading 6 t (Ok rule.0)) same rule.1) refused in
    let z : ◌≡◌ {A = ℕ} 0 1 = cc in
    omega arith

-- A text that is a rule is read.
is_read : (file text : List ℕ) (i : ℕ) (r : Result Table Fault) → i < rule_count file → text_at file i ≡ text → ∥ TextsRead file ∥₁ → Answer 6 text r → IsOk r
is_read file text i (Ok t) below same read answer = refl
is_read file text i (Err e) below same read refused =
    absurd (∥∥₁_elim read (λ a b. absurd a) (λ reads. never file text i e below same reads refused))

pub unwrap-requires : goal.unwrap-requires
unwrap-requires c =
    let file = c.args.self.now.file.counted.bytes.now in
    let at = listed_at (rule_count file) (text_at file) _ c.in_ok-text.text.now (sym c.in_ok-text.ensures) in
    is_read file c.in_ok-text.text.now _ c.read_rule.result at.0 at.1 c.args.self.now.read c.read_rule.ensures.answer

-- A search for this one takes long.
pub returns-in_err-text : goal.returns-in_err-text
returns-in_err-text c =
    let beyond = past_of_none (file_plan c.args.self.now).texts c.args.rule c.in_err-text.ensures in
    search rules

pub returns : goal.returns
returns c =
    let text = c.in_ok-text.text.now in
    let is = c.unwrap.ensures in
    let answer = subst (Answer 6 text) is c.read_rule.ensures.answer in
    record {
      text = text;
      listed = sym c.in_ok-text.ensures;
      rule = answer.0;
      reads = answer.1;
      rows = answer.2;
      means = subst (λ r. IfOk r (λ t. (f : Rule) → Reading 6 text (Ok f) → StandsFor (table_rows t) f)) is c.read_rule.ensures.means answer.0 answer.1;
      accepted = subst (λ r. IfOk r (λ t. accepted 6 (table_rows t) ≡ true)) is c.read_rule.ensures.accepted;
    }
