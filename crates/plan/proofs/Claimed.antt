-- The theorems of the format.
use Rattle.std.proofs.Common.{◌≡◌, ℕ, zero, suc, ◌^◌, ◌<◌, ◌⊎◌, List, [], ◌∷◌, length, is_some, Some, None, Ok, Err, Option, Result, sym, refl, ap, ◌∙◌, subst, inl, inr, true≢false, arith}
use Rattle.std.proofs.lemmas.Bool.{cases_order}
use Rattle.routing.specs.Rules.{Rule}
use Rattle.rule_text.specs.declared.fault.Fault.{Fault}
use Rattle.rule_text.specs.Reading.{Reading}
use Rattle.rule_text.proofs.Claimed.{decided as text_decided}
use Rattle.rule_text.proofs.Once.{reading_once}
use Rattle.plan.specs.declared.fault.FileFault.{FileFault}
use Rattle.plan.specs.declared.fault.PlanFault.{PlanFault}
use Rattle.plan.specs.declared.fault.PlanFault.TheVariants.{InFile, InText}
use Rattle.plan.specs.Format.{Plan, encoded}
use Rattle.plan.specs.Contents.{plan_of, rule_count, text_at}
use Rattle.plan.specs.Reading.{Each, IsRuleText, PlanRead, Refused, Sound}
use Rattle.plan.specs.Shape.{shape_fault}
use Rattle.plan.proofs.Decoded.{Bytes, bytes_are_plan}
use Rattle.plan.proofs.Readback.{encoded_plan, encoded_reads, encoded_shaped}
use Rattle.plan.proofs.Shaped.{passes_shape, shape_passes}

-- A text that is a rule has no fault.
pub rule_or_fault : (text : List ℕ) (e : Fault) → IsRuleText text → Reading 6 text (Err e) → ⊥
rule_or_fault text e rule refused =
    let one : ◌≡◌ {A = Result Rule Fault} (Ok rule.0) (Err e) = reading_once 6 text (Ok rule.0) (Err e) rule.1 refused in
    let z : ◌≡◌ {A = ℕ} 0 1 = cc in
    omega arith

-- The file of a plan is not refused.
pub sound_unrefused : (p : Plan) (e : PlanFault) → Sound p → Refused (encoded p) e → ⊥
sound_unrefused p (InFile f) sound refused =
    let none = passes_shape (length (encoded p)) (encoded p) (encoded_shaped p sound) in
    true≢false (ap is_some (sym refused ∙ none))
sound_unrefused p (InText i f) sound refused = rule_or_fault (text_at (encoded p) i) f (encoded_reads p sound i refused.1) refused.3

-- Two plans with one file are one plan.
pub one_file : (p q : Plan) → Sound p → Sound q → encoded p ≡ encoded q → p ≡ q
one_file p q sp sq same = sym (encoded_plan p sp) ∙ (ap plan_of same ∙ encoded_plan q sq)

-- A file has one refusal.
one_refusal : (file : List ℕ) (e d : PlanFault) → Refused file e → Refused file d → e ≡ d
one_refusal file (InFile f) (InFile g) a b = let same : f ≡ g = cc in ap InFile same
one_refusal file (InFile f) (InText i g) a b = absurd (true≢false (ap is_some (sym a ∙ b.0)))
one_refusal file (InText i f) (InFile g) a b = absurd (true≢false (ap is_some (sym b ∙ a.0)))
one_refusal file (InText i f) (InText j g) a b =
    elim (cases_order i j) [
      | inl same ↦
          let there : Reading 6 (text_at file i) (Err g) = subst (λ (k : ℕ). Reading 6 (text_at file k) (Err g)) (sym same) b.3 in
          let one : ◌≡◌ {A = Result Rule Fault} (Err f) (Err g) = reading_once 6 (text_at file i) (Err f) (Err g) a.3 there in
          let fault : f ≡ g = cc in
          cc
      | inr (inl less) ↦ absurd (rule_or_fault (text_at file i) f (b.2 i less) a.3)
      | inr (inr more) ↦ absurd (rule_or_fault (text_at file j) g (a.2 j more) b.3)
    ]

pub one_answer : (file : List ℕ) (r q : Result Plan PlanFault) → PlanRead file r → PlanRead file q → r ≡ q
one_answer file (Ok p) (Ok q) a b = ap Ok (one_file p q a.0 b.0 (a.1 ∙ sym b.1))
one_answer file (Ok p) (Err e) a b = absurd (sound_unrefused p e a.0 (subst (λ (f : List ℕ). Refused f e) (sym a.1) b))
one_answer file (Err e) (Ok p) a b = absurd (sound_unrefused p e b.0 (subst (λ (f : List ℕ). Refused f e) (sym b.1) a))
one_answer file (Err e) (Err d) a b = ap Err (one_refusal file e d a b)

pub write_back : (file : List ℕ) (p : Plan) → PlanRead file (Ok p) → (p ≡ plan_of file) × (encoded (plan_of file) ≡ file)
write_back file p a =
    let same : p ≡ plan_of file = sym (encoded_plan p a.0) ∙ ap plan_of a.1 in
    (same, ap encoded (sym same) ∙ a.1)

-- The first n texts: all are rules, or a first one is not.
pub record FirstRefused (file : List ℕ) (n : ℕ) : Type 0 where
  pub rule : ℕ
  pub fault : Fault
  pub below : rule < n
  pub before : (j : ℕ) → j < rule → IsRuleText (text_at file j)
  pub refused : Reading 6 (text_at file rule) (Err fault)

abbrev AllRead : List ℕ → ℕ → Type 0
AllRead file n = (j : ℕ) → j < n → IsRuleText (text_at file j)

one_more : (file : List ℕ) (n : ℕ) (r : Result Rule Fault) → Reading 6 (text_at file n) r → AllRead file n → AllRead file (suc n) ⊎ FirstRefused file (suc n)
one_more file n (Ok f) reading all =
    inl (λ j below. elim (cases_order j n) [
      | inl same ↦ subst (λ (k : ℕ). IsRuleText (text_at file k)) (sym same) (f, reading)
      | inr (inl less) ↦ all j less
      | inr (inr more) ↦ absurd (omega arith)
    ])
one_more file n (Err e) reading all = inr (record { rule = n; fault = e; below = omega arith; before = all; refused = reading })

texts_decided : (file : List ℕ) (n : ℕ) → AllRead file n ⊎ FirstRefused file n
texts_decided file zero = inl (λ j below. absurd (omega arith))
texts_decided file (suc n) =
    elim (texts_decided file n) [
      | inl all ↦ let text = text_decided 6 (text_at file n) in one_more file n text.0 text.1 all
      | inr first ↦
          let below = first.below in
          inr (record { rule = first.rule; fault = first.fault; below = omega arith; before = first.before; refused = first.refused })
    ]

each_bytes : (file : List ℕ) → Each (λ b. b < 2 ^ 8) file → Bytes file
each_bytes [] each = tt
each_bytes (b ∷ bs) each = (each 0 b refl, each_bytes bs (λ i x here. each (suc i) x here))

by_shape : (file : List ℕ) → Each (λ b. b < 2 ^ 8) file → (o : Option FileFault) → shape_fault (length file) file ≡ o → (r : Result Plan PlanFault) × PlanRead file r
by_shape file bytes (Some f) is = (Err (InFile f), is)
by_shape file bytes None is =
    elim (texts_decided file (rule_count file)) [
      | inl all ↦ (Ok (plan_of file), bytes_are_plan file (each_bytes file bytes) (shape_passes (length file) file is) all)
      | inr first ↦ (Err (InText first.rule first.fault), (is, first.below, first.before, first.refused))
    ]

pub decided : (file : List ℕ) → Each (λ b. b < 2 ^ 8) file → (r : Result Plan PlanFault) × PlanRead file r
decided file bytes = by_shape file bytes (shape_fault (length file) file) refl
