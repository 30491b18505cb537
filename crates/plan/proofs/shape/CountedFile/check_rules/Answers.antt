use Rattle.std.proofs.Common.{◌≡◌, ℕ, ◌-◌, ◌≤◌, not, eqb, List, None, Option, sym, refl, ap, ◌∙◌, arith}
use Rattle.std.specs.Option.{option_or}
use Rattle.plan.specs.declared.fault.FileFault.{FileFault}
use Rattle.plan.specs.declared.fault.FileFaultKind.TheVariants.{WrongLength}
use Rattle.plan.specs.Contents.{rule_byte, rule_count}
use Rattle.plan.specs.Shape.{lengths_fault, end_fault, faulty}
use Rattle.plan.proofs.Firsts.{err_of, lengths_stop, lengths_go, lengths_none, or_end}
use Rattle.plan.proofs.Shaped.{length_at_none, rule_byte_next}
use Rattle.plan.proofs.shape.CountedFile.check_rules.Goals as goal

pub loop-rule-init : goal.loop-rule-init
unfolding rule_byte
loop-rule-init c =
    let n : rule_count c.args.self.now.bytes.now ≡ rule_count c.args.self.now.bytes.now - 0 = omega arith in
    (omega arith, omega arith, ap (lengths_fault c.args.total c.args.self.now.bytes.now 0) n)

pub returns-in_err-check_length : goal.returns-in_err-check_length
returns-in_err-check_length c =
    let file = c.args.self.now.bytes.now in
    let stops = c.loop-rule.invariant.2
    ∙ lengths_stop c.args.total file c.loop-rule.rule (rule_count file) c.loop-rule.byte _
    (omega arith) c.loop-rule.invariant.0 c.in_err-check_length.ensures refl in
    err_of c.from_residual.result _ _ c.from_residual.ensures.1
    (sym (ap (λ (o : Option FileFault). option_or o (option_or (end_fault c.args.total file) None)) stops))

pub loop-rule-preserved : goal.loop-rule-preserved
loop-rule-preserved c =
    let file = c.args.self.now.bytes.now in
    let fits = length_at_none c.args.total c.loop-rule.byte file (sym c.in_ok-check_length.ensures) in
    let short = fits.1 in (
      rule_byte_next file c.loop-rule.rule c.loop-rule.byte c.from.result c.loop-rule.invariant.0 (omega arith),
      omega arith,
      c.loop-rule.invariant.2
          ∙ lengths_go c.args.total file c.loop-rule.rule (rule_count file) c.loop-rule.byte _
          (omega arith) c.loop-rule.invariant.0 c.in_ok-check_length.ensures refl,
    )

-- Behind the last rule all lengths are passed.
passed : (total : ℕ) (file : List ℕ) (i : ℕ) → rule_count file ≤ i
    → lengths_fault total file 0 (rule_count file) ≡ lengths_fault total file i (rule_count file - i)
    → option_or (lengths_fault total file 0 (rule_count file)) (option_or (end_fault total file) None) ≡ end_fault total file
passed total file i past inv =
    ap (λ (o : Option FileFault). option_or o (option_or (end_fault total file) None)) (inv ∙ lengths_none total file i (rule_count file) past)
    ∙ or_end (end_fault total file)

-- The byte behind the last rule.
at_end : (file : List ℕ) (i byte : ℕ) → i ≡ rule_count file → byte ≡ rule_byte file i → rule_byte file (rule_count file) ≡ byte
at_end file i byte last at = ap (rule_byte file) (sym last) ∙ sym at

pub returns : goal.returns
returns c =
    let file = c.args.self.now.bytes.now in
    let total = c.args.total in
    let at = at_end file c.loop-rule.rule c.loop-rule.byte (omega arith) c.loop-rule.invariant.0 in
    c.check.ensures
    ∙ (ap (λ (b : ℕ). faulty (not (eqb b total)) WrongLength total) (sym at)
    ∙ sym (passed total file c.loop-rule.rule (omega arith) c.loop-rule.invariant.2))
