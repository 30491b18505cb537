use Rattle.std.proofs.Common.{◌≡◌, ℕ, Bool, true, false, is_some, Some, None, Decides, Option, sym, refl, ◌∙◌, MatchOption}
use Rattle.std.proofs.lemmas.Bool.{false≢true}
use Rattle.std.proofs.lemmas.Bool.Decides.{Decides-at}
use Rattle.conditions.specs.Sets.{Picked}
use Rattle.conditions.proofs.Picking.{picked_in}
use Rattle.judging.proofs.sets.is_entered.Goals as goal

-- Something is picked just where there is a member.
picks : (p : ℕ → Bool) (o : Option ℕ) → MatchOption o ((a : ℕ) → p a ≡ false) (Picked (λ a. p a ≡ true)) → Decides (is_some o) ((a : ℕ) × (p a ≡ true))
picks p None none = (λ e. absurd (false≢true e), λ h. absurd (false≢true (sym (none h.0) ∙ h.1)))
picks p (Some m) at = (λ _. (m, picked_in (λ a. p a ≡ true) m at), λ _. refl)

pub returns : goal.returns
returns g c =
    Decides-at c.is_some.result (is_some c.pick.result) c.is_some.ensures (picks (g.S.ConditionSet.holds c.args.set.now) c.pick.result c.pick.ensures)
