use Rattle.std.proofs.Common.{◌≡◌, ℕ, ◌^◌, ◌<◌, Bool, true, not, ◌&&◌, ltb, ◌↔◌, sym, ◌∙◌, subst, ⊎_elim, arith}
use Rattle.std.proofs.lemmas.Bool.{cases_eq, and_parts, and_from, lt-ltb, ltb-true, not-true, not_from_false, not-false, both_ways, cases_Bool, false≢true}
use Rattle.conditions.proofs.Picking.{picked_like}
use Rattle.routing.specs.Net.{Net, Pos, settings}
use Rattle.judging.specs.Judged.{covers}
use Rattle.judging.proofs.Covers.{covers_read, covers_at}
use Rattle.judging.proofs.Rows.{guard_true, setting_below}
use Rattle.verdicts.specs.Verdicts.{Entry}
use Rattle.verdicts.proofs.entries.at_entries.Goals as goal
use Rattle.verdicts.proofs.entries.at_entries.Goals.{then-has_mark+in_default, else-has_mark}

-- What the complement of a set has.
outside : (K : ℕ) (held failing covered : ℕ → Bool) → ((a : ℕ) → failing a ≡ (ltb a (2 ^ K) && not (held a))) → ((a : ℕ) → covered a ≡ held a)
    → (a : ℕ) → (failing a ≡ true) ↔ ((a < 2 ^ K) × (¬ (covered a ≡ true)))
outside K held failing covered made same a = (
  λ h. let both = and_parts (ltb a (2 ^ K)) (not (held a)) (sym (made a) ∙ h) in
      (ltb-true a (2 ^ K) both.0, λ e. both_ways (held a) (not-true (held a) both.1) (sym (same a) ∙ e)),
  λ h. made a ∙ and_from (ltb a (2 ^ K)) (not (held a)) (lt-ltb a (2 ^ K) h.0)
      (⊎_elim (λ e. absurd (h.1 (same a ∙ e))) (not_from_false (held a)) (cases_Bool (held a))),
)

pub returns-in-Some : goal.returns-in-Some
returns-in-Some g c =
    let holds = g.N.Set.ConditionSet.holds in
    let N : Net = g.N.Network.meaning c.args.net.now in
    let part = c.args.part.now in
    let s = c.loop-place.place in
    let held = c.index-part-place.result in
    let at : ℕ → Pos = λ b. record { place = s; setting = b } in
    let P : ℕ → Type 0 = λ b. (b < settings N) × (¬ (covers holds part (at b) ≡ true)) in
    let likeness : (a : ℕ) → (holds c.complement-failing.result a ≡ true) ↔ P a =
    λ a. subst (λ (k : ℕ). (holds c.complement-failing.result a ≡ true) ↔ ((a < 2 ^ k) × (¬ (covers holds part (at a) ≡ true)))) (sym (g.met.N.Network.over c.args.net.now))
    (outside g.N.Set.ConditionSet.count (holds held) (holds c.complement-failing.result) (λ b. covers holds part (at b)) c.complement-failing.ensures
    (λ b. covers_read holds part (at b) held c.loop-place-test.true c.index-part-place.is) a) in
    record {
      inside = omega arith;
      entry = sym c.has_mark.ensures ∙ c.if-has_mark.true;
      earlier = c.loop-place.invariant;
      picked = picked_like (λ a. holds c.complement-failing.result a ≡ true) P c.in-Some.setting likeness c.in-Some.ensures;
    }

pub loop-place-preserved : goal.loop-place-preserved
loop-place-preserved g c = λ x w below entry.
    let holds = g.N.Set.ConditionSet.holds in
    let K = g.N.Set.ConditionSet.count in
    let N : Net = g.N.Network.meaning c.args.net.now in
    let part = c.args.part.now in
    let s = c.loop-place.place in
    ⊎_elim
    (λ e. elim c.if-has_mark.branch [
      | then-has_mark+in_default v ↦
          let held = c.index-part-place.result in
          let inside : ltb x.setting (2 ^ K) ≡ true = lt-ltb x.setting (2 ^ K) (setting_below N K (g.met.N.Network.over c.args.net.now) x w) in
          covers_at holds part x s held e c.loop-place-test.true c.index-part-place.is
          ∙ not-false (holds held x.setting) (sym (guard_true _ (not (holds held x.setting)) inside) ∙ sym (v.complement-failing.ensures x.setting) ∙ v.in_default.ensures x.setting)
      | else-has_mark v ↦ absurd (false≢true (sym v.if-has_mark.false ∙ c.has_mark.ensures ∙ subst (Entry N) e entry))
    ])
    (λ ne. c.loop-place.invariant x w (omega arith) entry)
    (cases_eq x.place s)
