-- One verdict is told of a rule, and there is one.
use Rattle.std.proofs.Common.{◌≡◌, ℕ, ◌<◌, true, false, ◌⊎◌, slice_index, sym, refl, ap, ◌∙◌, subst, inl, inr}
use Rattle.std.proofs.lemmas.Bool.{cases_Bool, true≢false}
use Rattle.conditions.specs.Sets.{bit, Picked}
use Rattle.conditions.proofs.Picking.{picked_in, picked_first, picked_least}
use Rattle.routing.specs.Net.{Net, Pos, Within, places, settings}
use Rattle.routing.specs.Rules.{Rule, Means}
use Rattle.rounds.proofs.Decide.{true_at_decides}
use Rattle.rounds.proofs.Tests.{told, First, first_below}
use Rattle.judging.proofs.Counted.{same_from}
use Rattle.verdicts.specs.declared.verdict.Verdict.{Verdict}
use Rattle.verdicts.specs.declared.verdict.Verdict.TheVariants.{Holds, Breaks}
use Rattle.verdicts.specs.Verdicts.{Entry, FirstFailing, Told}

pub picked_once : (P : ℕ → Type 0) (a b : ℕ) → Picked P a → Picked P b → a ≡ b
picked_once P a b p q =
    same_from a b (λ l. picked_first P b q a l (picked_in P a p)) (λ l. picked_first P a p b l (picked_in P b q))

module _ (N : Net) (P : Pos → Type 0) where
  -- No entry fails before the first that does.
  not_earlier : (s a t b : ℕ) → FirstFailing N P s a → FirstFailing N P t b → ¬ (s < t)
  not_earlier s a t b f g below =
      let fails = picked_in (λ c. (c < settings N) × (¬ (P (record { place = s; setting = c })))) a f.picked in
      fails.1 (g.earlier (record { place = s; setting = a }) (record { place_in = f.inside; setting_in = fails.0 }) below f.entry)

  not_holding : (s a : ℕ) → FirstFailing N P s a → ¬ (Told N P Holds)
  not_holding s a f holds =
      let fails = picked_in (λ c. (c < settings N) × (¬ (P (record { place = s; setting = c })))) a f.picked in
      fails.1 (holds (record { place = s; setting = a }) (record { place_in = f.inside; setting_in = fails.0 }) f.entry)

  pub told_once : (v w : Verdict) → Told N P v → Told N P w → v ≡ w
  told_once Holds Holds h k = refl
  told_once Holds (Breaks t b) h g = absurd (not_holding t b g h)
  told_once (Breaks s a) Holds f k = absurd (not_holding s a f k)
  told_once (Breaks s a) (Breaks t b) f g =
      let place : t ≡ s = same_from t s (not_earlier t b s a g f) (not_earlier s a t b f g) in
      let picked : Picked (λ c. (c < settings N) × (¬ (P (record { place = s; setting = c })))) b =
      subst (λ (u : ℕ). Picked (λ c. (c < settings N) × (¬ (P (record { place = u; setting = c })))) b) place g.picked in
      let setting : a ≡ b = picked_once _ a b f.picked picked in
      ap (λ (u : ℕ). Breaks u a) (sym place) ∙ ap (Breaks t) setting

module _ (N : Net) (P : Pos → Type 0) (decided : (x : Pos) → Within N x → P x ⊎ (¬ (P x))) where
  -- P fails at place s under setting a.
  abbrev Fails : ℕ → ℕ → Type 0
  Fails s a = ¬ (P (record { place = s; setting = a }))

  -- Place s is an entry at which P fails under some setting.
  abbrev Failing : ℕ → Type 0
  Failing s = Entry N s × ((a : ℕ) × (a < settings N) × First (Fails s) a)

  fails_told : (s a : ℕ) → s < places N → a < settings N → Fails s a ⊎ (¬ (Fails s a))
  fails_told s a l k = elim (decided (record { place = s; setting = a }) (record { place_in = l; setting_in = k })) [ inl h ↦ inr (λ n. n h) | inr n ↦ inl n ]

  at_place : (s : ℕ) → s < places N → ((a : ℕ) × (a < settings N) × First (Fails s) a) ⊎ ((a : ℕ) → a < settings N → ¬ (Fails s a))
  at_place s l = first_below (settings N) (Fails s) (λ a k. fails_told s a l k)

  failing_told : (s : ℕ) → s < places N → Failing s ⊎ (¬ (Failing s))
  failing_told s l = go (cases_Bool (bit (slice_index N.marks s) 0)) (at_place s l)
    where
      go : (bit (slice_index N.marks s) 0 ≡ true) ⊎ (bit (slice_index N.marks s) 0 ≡ false)
          → ((a : ℕ) × (a < settings N) × First (Fails s) a) ⊎ ((a : ℕ) → a < settings N → ¬ (Fails s a)) → Failing s ⊎ (¬ (Failing s))
      go (inl e) (inl f) = inl (e, f)
      go (inl e) (inr n) = inr (λ f. n f.1.0 f.1.1 f.1.2.is)
      go (inr e) f = inr (λ k. true≢false (sym k.0 ∙ e))

  -- Where the place of x is no such entry, P holds at x.
  holds_there : (x : Pos) → Within N x → Entry N x.place → ¬ (Failing x.place) → P x
  holds_there x w entry none = go (decided x w) (at_place x.place w.place_in)
    where
      go : P x ⊎ (¬ (P x)) → ((a : ℕ) × (a < settings N) × First (Fails x.place) a) ⊎ ((a : ℕ) → a < settings N → ¬ (Fails x.place a)) → P x
      go (inl h) f = h
      go (inr n) (inl f) = absurd (none (entry, f))
      go (inr n) (inr f) = absurd (f x.setting w.setting_in n)

  verdict_some : (v : Verdict) × Told N P v
  verdict_some = go (first_below (places N) Failing (λ s l. failing_told s l))
    where
      go : ((s : ℕ) × (s < places N) × First Failing s) ⊎ ((s : ℕ) → s < places N → ¬ (Failing s)) → (v : Verdict) × Told N P v
      go (inr none) = (Holds, λ x w entry. holds_there x w entry (none x.place w.place_in))
      go (inl (s, l, f)) =
          let k = f.is.1 in (
            Breaks s k.0,
            record {
              inside = l;
              entry = f.is.0;
              earlier = λ x w below entry. holds_there x w entry (f.none x.place below);
              picked = picked_least (λ b. (b < settings N) × Fails s b) k.0 (k.1, k.2.is) (λ b below q. k.2.none b below q.1);
            },
          )

pub told_some : (N : Net) (f : Rule) → (v : Verdict) × Told N (Means N f) v
told_some N f = verdict_some N (Means N f) (λ x w. told _ (true_at_decides N f x w))
