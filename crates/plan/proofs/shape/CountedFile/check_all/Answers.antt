use Rattle.std.proofs.Common.{◌≡◌, ℕ, ◌<◌, ◌≤◌, List, length, None, sym, subst, inl, inr, arith}
use Rattle.std.proofs.lemmas.Bool.{cases_lt}
use Rattle.std.specs.Option.{option_or}
use Rattle.plan.specs.Contents.{binding_count, place_count, rule_count}
use Rattle.plan.specs.Format.{longest, rules_start}
use Rattle.plan.specs.Shape.{counts_fault, end_fault, lengths_fault}
use Rattle.plan.proofs.Shaped.{counts_pass, rule_bytes_rise, rules_pass}
use Rattle.plan.proofs.shape.CountedFile.check_all.Goals as goal

-- The bindings lie in what is kept of the file.
bindings_kept : (total : ℕ) (file : List ℕ) → (length file < longest → length file ≡ total) → counts_fault file ≡ None
    → option_or (lengths_fault total file 0 (rule_count file)) (option_or (end_fault total file) None) ≡ None
    → rules_start (place_count file) (binding_count file) ≤ length file
bindings_kept total file front counts_none rules =
    let counts = counts_pass file counts_none in
    let rise = rule_bytes_rise file (rule_count file) in
    let ended = rules_pass total file rules in
    elim (cases_lt (length file) longest) [ inl short ↦ let same = front short in omega arith | inr long ↦ omega arith ]

pub check_ends-requires : goal.check_ends-requires
check_ends-requires c =
    let counted = c.args.self.now in
    let places = counted.places_are in
    let bindings = counted.bindings_are in
    let kept = bindings_kept c.args.total counted.bytes.now c.requires.front (sym c.in_ok-check_counts.ensures) (sym c.in_ok-check_rules.ensures) in
    omega arith
