use Rattle.std.proofs.Common.{◌||◌, sym, refl, ap, ◌∙◌, inl, inr, ⊎_elim}
use Rattle.std.proofs.lemmas.Bool.{cases_eq, cases_Bool, or_left, or_right, true≢false}
use Rattle.routing.specs.Net.{Pos}
use Rattle.judging.specs.Judged.{covers}
use Rattle.judging.proofs.Covers.{covers_at, covers_set_same, covers_set_other}
use Rattle.judging.proofs.row_rounds.forward.Goals as goal

pub returns-then-is_entered : goal.returns-then-is_entered
returns-then-is_entered g c x l =
    let holds = g.S.ConditionSet.holds in
    let b = c.args.b.now in
    let out = c.args.out.now in
    let some = c.is_entered.ensures.0 c.if-is_entered.true in
    let y : Pos = record { place = b.to; setting = some.0 } in
    let target = covers_at holds c.args.sets.now y b.to c.index-sets-to.result refl c.requires.to c.index-sets-to.is ∙ some.1 in
    ⊎_elim
    (λ e.
    let old = covers_at holds out x b.from c.index-out-from.result e c.requires.from c.index-out-from.is in
    let union = c.union.ensures x.setting ∙ ap (λ t. t || holds b.set x.setting) (sym old) in
    let is = covers_set_same holds out b.from c.union.result x c.requires.from e ∙ union in (
      λ h. ⊎_elim (λ t. inl t)
          (λ f. inr (sym e, ap (λ t. t || holds b.set x.setting) (sym f) ∙ sym is ∙ h, (some.0, target)))
          (cases_Bool (covers holds out x)),
      λ d. is ∙ ⊎_elim (λ t. or_left _ _ t) (λ k. or_right _ _ k.1) d,
    ))
    (λ ne.
    let is = covers_set_other holds out b.from c.union.result x ne in
    (λ h. inl (sym is ∙ h), λ d. is ∙ ⊎_elim (λ t. t) (λ k. absurd (ne (sym k.0))) d))
    (cases_eq x.place b.from)

pub returns-else-is_entered : goal.returns-else-is_entered
returns-else-is_entered g c x l =
    let holds = g.S.ConditionSet.holds in
    let b = c.args.b.now in (
      λ h. inl h,
      λ d. ⊎_elim (λ t. t) (λ k.
          let y : Pos = record { place = b.to; setting = k.2.0 } in
          let target = covers_at holds c.args.sets.now y b.to c.index-sets-to.result refl c.requires.to c.index-sets-to.is in
          absurd (true≢false (sym (c.is_entered.ensures.1 (k.2.0, sym target ∙ k.2.1)) ∙ c.if-is_entered.false))) d,
    )
