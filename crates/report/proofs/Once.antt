-- What is printed is determined: one verdict, one count of rounds, one line for each rule.
use Rattle.std.proofs.Common.{◌≡◌, ℕ, suc, List, [], ◌∷◌, ◌++◌, length, Ok, Err, sym, ap, ◌∙◌, subst, inl, inr, arith}
use Rattle.routing.specs.Net.{Net}
use Rattle.routing.specs.Rules.{Rule, Means}
use Rattle.verdicts.specs.declared.verdict.Verdict.{Verdict}
use Rattle.judging.specs.Judged.{RoundsBefore}
use Rattle.judging.proofs.Counted.{rounds_once}
use Rattle.verdicts.specs.Verdicts.{Told}
use Rattle.verdicts.proofs.Once.{told_once}
use Rattle.rule_text.specs.Rows.{rows_of}
use Rattle.rule_text.proofs.Once.{reading_once}
use Rattle.plan.specs.Contents.{plan_net}
use Rattle.plan.specs.Format.{Plan}
use Rattle.plan.proofs.Claimed.{one_answer}
use Rattle.report.specs.Lines.{refused_line, Reported, RuleLine, RuleLines, verdict_line}

pub line_once : (N : Net) (i : ℕ) (t a b : List ℕ) → RuleLine N i t a → RuleLine N i t b → a ≡ b
line_once N i t a b f g =
    let both_read : Ok f.rule ≡ Ok g.rule = reading_once 6 t (Ok f.rule) (Ok g.rule) f.is_rule g.is_rule in
    let rule : g.rule ≡ f.rule = cc in
    let told : Told N (Means N f.rule) g.verdict = subst (λ (h : Rule). Told N (Means N h) g.verdict) rule g.told in
    let counted : RoundsBefore N (rows_of 0 f.rule) (length (rows_of 0 f.rule)) g.rounds =
    subst (λ (h : Rule). RoundsBefore N (rows_of 0 h) (length (rows_of 0 h)) g.rounds) rule g.counted in
    let verdict = told_once N (Means N f.rule) f.verdict g.verdict f.told told in
    let rounds = rounds_once N (rows_of 0 f.rule) (length (rows_of 0 f.rule)) f.rounds g.rounds f.counted counted in
    f.says ∙ (ap (λ (v : Verdict). verdict_line i v f.rounds) verdict ∙ (ap (verdict_line i g.verdict) rounds ∙ sym g.says))

pub lines_once : (N : Net) (i : ℕ) (texts : List (List ℕ)) (a b : List ℕ) → RuleLines N i texts a → RuleLines N i texts b → a ≡ b
lines_once N i [] a b f g = f ∙ sym g
lines_once N i (t ∷ ts) a b f g =
    let line = line_once N i t f.0 g.0 f.2 g.2 in
    let rest = lines_once N (suc i) ts f.1 g.1 f.3 g.3 in
    f.4 ∙ (ap (λ (l : List ℕ). l ++ f.1) line ∙ (ap (λ (o : List ℕ). g.0 ++ o) rest ∙ sym g.4))

pub one_report : (file a b : List ℕ) → Reported file a → Reported file b → a ≡ b
one_report file a b (inl (e, f, x)) (inl (d, g, y)) =
    let both_read : Err e ≡ Err d = one_answer file (Err e) (Err d) f g in
    let same : e ≡ d = cc in
    x ∙ (ap refused_line same ∙ sym y)
one_report file a b (inl (e, f, x)) (inr (p, g, y)) =
    let both_read : Err e ≡ Ok p = one_answer file (Err e) (Ok p) f g in
    let z : ◌≡◌ {A = ℕ} 0 1 = cc in
    absurd (omega arith)
one_report file a b (inr (p, f, x)) (inl (e, g, y)) =
    let both_read : Ok p ≡ Err e = one_answer file (Ok p) (Err e) f g in
    let z : ◌≡◌ {A = ℕ} 0 1 = cc in
    absurd (omega arith)
one_report file a b (inr (p, f, x)) (inr (q, g, y)) =
    let both_read : Ok p ≡ Ok q = one_answer file (Ok p) (Ok q) f g in
    let same : q ≡ p = cc in
    lines_once (plan_net p) 0 p.texts a b x (subst (λ (u : Plan). RuleLines (plan_net u) 0 u.texts b) same y)
