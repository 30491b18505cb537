-- One thing added behind another.
use Rattle.std.proofs.Common.{◌≡◌, ℕ, ◌+◌, ◌≤◌, List, ◌++◌, length, ap, ◌∙◌, subst, append_assoc, arith, length-append}
use Rattle.report.specs.declared.outcome.Report.{Report}
use Rattle.report.specs.Outcomes.{Added, Adds, report_text}

pub added_then : {a b c : Report} {xs ys : List ℕ} → Added a xs b → Added b ys c → Added a (xs ++ ys) c
added_then {a = a} {xs = xs} {ys = ys} first second = record {
  text = second.text ∙ (ap (λ (front : List ℕ). front ++ ys) first.text ∙ append_assoc (report_text a) xs ys);
  fault = second.fault ∙ first.fault;
}

pub adds_then : {a b c : Report} {xs ys : List ℕ} → Adds a xs b → Adds b ys c → Adds a (xs ++ ys) c
adds_then {a = a} {b = b} {xs = xs} {ys = ys} first second = record {
  added = λ room.
      let whole : length (report_text a) + (length xs + length ys) ≤ 512 = simp length-append at room in
      let here = first.added (omega arith) in
      let there : length (report_text b) + length ys ≤ 512 = omega (arith, simp length-append at (ap length here.text)) in
      added_then here (second.added there);
}

-- The same bytes.
pub adds_same : {a b : Report} {xs ys : List ℕ} → xs ≡ ys → Adds a xs b → Adds a ys b
adds_same {a = a} {b = b} same adds = subst (λ (bytes : List ℕ). Adds a bytes b) same adds
