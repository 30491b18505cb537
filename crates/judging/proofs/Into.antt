-- The settings with a step into given sets, binding by binding.
use Rattle.std.proofs.Common.{◌≡◌, ℕ, ◌+◌, ◌<◌, ◌≤◌, Bool, true, false, ◌⊎◌, length, Some, Decides, sym, refl, ap, ◌∙◌, subst, inl, inr, ⊎_elim, arith}
use Rattle.std.specs.List.{slice_get}
use Rattle.std.proofs.lemmas.Option.{slice_get_within}
use Rattle.std.proofs.lemmas.Bool.{cases_eq, false≢true}
use Rattle.routing.specs.Net.{Link, Pos, Net, Step, places, settings}
use Rattle.routing.specs.Routes.{SomeNext}

module _ (N : Net) (X : Pos → Type 0) where
  -- Some step by one of the first n bindings leads into X.
  abbrev pub Into : ℕ → Pos → Type 0
  Into n x = (y : Pos) × (s : Step N x y) × (s.number < n) × X y

  pub into_none : (b : Bool) (x : Pos) → b ≡ false → Decides b (Into 0 x)
  into_none b x e = (λ h. absurd (false≢true (sym e ∙ h)), λ w. absurd (omega (arith, w.2)))

  -- What one more binding adds.
  abbrev pub By : Link → Pos → Type 0
  By l x = (l.from ≡ x.place) × (l.forwards x.setting ≡ true) × ((a : ℕ) × X (record { place = l.to; setting = a }))

  pub into_more : (n : ℕ) (l : Link) → slice_get N.bindings n ≡ Some l → l.to < places N → ((y : Pos) → X y → y.setting < settings N)
      → (b c : Bool) (x : Pos) → Decides b (Into n x) → Decides c ((b ≡ true) ⊎ By l x) → Decides c (Into (n + 1) x)
  into_more n l listed inside below b c x before now = (
    λ h. ⊎_elim (λ k. wider (before.0 k)) made (now.0 h),
    λ w. now.1 (⊎_elim (λ e. inr (by w e)) (λ ne. inl (before.1 (w.0, w.1, omega (arith, w.2), w.3))) (cases_eq w.1.number n)),
  )
    where
      wider : Into n x → Into (n + 1) x
      wider w = (w.0, w.1, omega (arith, w.2), w.3)

      made : By l x → Into (n + 1) x
      made k =
          let y : Pos = record { place = l.to; setting = k.2.0 } in (
            y,
            record {
              number = n;
              by = l;
              listed = listed;
              leaves = k.0;
              enters = refl;
              forwarded = k.1;
              within = record { place_in = inside; setting_in = below y k.2.1 };
            },
            omega arith,
            k.2.1,
          )

      by : (w : Into (n + 1) x) → w.1.number ≡ n → By l x
      by w e =
          let at : slice_get N.bindings n ≡ Some w.1.by = ap (slice_get N.bindings) (sym e) ∙ w.1.listed in
          let same : w.1.by ≡ l = cc in (
            ap (λ (k : Link). k.from) (sym same) ∙ w.1.leaves,
            ap (λ (k : Link). k.forwards x.setting) (sym same) ∙ w.1.forwarded,
            (w.0.setting, subst (λ (t : ℕ). X (record { place = t; setting = w.0.setting })) (sym w.1.enters ∙ ap (λ (k : Link). k.to) same) w.3),
          )

  pub into_all : (n : ℕ) → length N.bindings ≤ n → (b : Bool) (x : Pos) → Decides b (Into n x) → Decides b (SomeNext N X x)
  into_all n all b x d = (
    λ h. let w = d.0 h in (w.0, w.1, w.3),
    λ w. d.1 (w.0, w.1, (let l = slice_get_within N.bindings w.1.number w.1.by w.1.listed in omega arith), w.2),
  )
