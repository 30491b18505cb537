-- Rows say the same of positions that are the same.
use Rattle.std.proofs.Common.{◌≡◌, ℕ, zero, suc, true, ◌↔◌, refl, inl, inr, ⊎_elim, arith}
use Rattle.routing.specs.Net.{Pos, Net, Within}
use Rattle.routing.specs.Routes.{position, SomeNext, SomeUntil, SomeAlways}
use Rattle.rounds.specs.Rounds.{Grown, Kept, Stable, LeastStable}
use Rattle.rounds.proofs.Walks.{stays, has_before}
use Rattle.tables.specs.declared.row.Operation.{Operation}
use Rattle.tables.specs.declared.row.Operation.TheVariants.{Yes, Mark, Condition, Not, And, Or, Next, Until, Always}
use Rattle.judging.specs.Shapes.{Shape, Rounds, first_is_row, second_is_row}

-- Two sets of positions are the same on the network.
abbrev pub Alike : Net → (Pos → Type 0) → (Pos → Type 0) → Type 0
Alike N P Q = (x : Pos) → Within N x → P x ↔ Q x

module _ (N : Net) where
  pub alike_back : (P Q : Pos → Type 0) → Alike N P Q → Alike N Q P
  alike_back P Q e x w = ((e x w).1, (e x w).0)

  next_alike : (P P' : Pos → Type 0) → Alike N P P' → (x : Pos) → SomeNext N P x → SomeNext N P' x
  next_alike P P' e x h = (h.0, h.1, (e h.0 h.1.within).0 h.2)

  module _ (P P' Q Q' : Pos → Type 0) (p : Alike N P P') (q : Alike N Q Q') where
    until_alike : (x : Pos) → Within N x → SomeUntil N P Q x → SomeUntil N P' Q' x
    until_alike x w h =
        let r = h.0 in
        let u = h.1 in (
          r,
          record {
            hops = u.hops;
            reached = u.reached;
            holds = (q (position r u.hops) (stays r w u.hops u.reached)).0 u.holds;
            before = λ j l. (p (position r j) (stays r w j (has_before r j u.hops (omega arith) u.reached))).0 (u.before j l);
          },
        )

    grown_alike : (i : ℕ) (x : Pos) → Within N x → Grown N P Q i x → Grown N P' Q' i x
    grown_alike zero x w h = (q x w).0 h
    grown_alike (suc i) x w (inl h) = inl (grown_alike i x w h)
    grown_alike (suc i) x w (inr h) = inr ((p x w).0 h.0, (h.1.0, h.1.1, grown_alike i h.1.0 h.1.1.within h.1.2))

  always_alike : (P P' : Pos → Type 0) → Alike N P P' → (x : Pos) → Within N x → SomeAlways N P x → SomeAlways N P' x
  always_alike P P' p x w h = (h.0, λ i has. (p (position h.0 i) (stays h.0 w i has)).0 (h.1 i has))

  kept_alike : (P P' : Pos → Type 0) → Alike N P P' → (i : ℕ) (x : Pos) → Within N x → Kept N P i x → Kept N P' i x
  kept_alike P P' p zero x w h = (p x w).0 h
  kept_alike P P' p (suc i) x w h =
      (kept_alike P P' p i x w h.0, ⊎_elim (λ r. inl r) (λ s. inr (s.0, s.1, kept_alike P P' p i s.0 s.1.within s.2)) h.1)

  -- Sequences that are the same are stable at the same index.
  stable_alike : (T T' : ℕ → Pos → Type 0) → ((i : ℕ) → Alike N (T i) (T' i)) → (i : ℕ) → Stable N T i → Stable N T' i
  stable_alike T T' e i s x w = (
    λ h. (e i x w).0 ((s x w).0 ((e (suc i) x w).1 h)),
    λ h. (e (suc i) x w).0 ((s x w).1 ((e i x w).1 h)),
  )

  least_alike : (T T' : ℕ → Pos → Type 0) → ((i : ℕ) → Alike N (T i) (T' i)) → (i : ℕ) → LeastStable N T i → LeastStable N T' i
  least_alike T T' e i l = record {
    stable = stable_alike T T' e i l.stable;
    first = λ j before s. l.first j before (stable_alike T' T (λ k. alike_back (T k) (T' k) (e k)) j s);
  }

  module _ (P P' Q Q' : Pos → Type 0) where
    -- A row of alike operands, of those that it has.
    pub shape_alike : (op : Operation) → (first_is_row op ≡ true → Alike N P P') → (second_is_row op ≡ true → Alike N Q Q') → Alike N (Shape N op P Q) (Shape N op P' Q')
    shape_alike Yes p q x w = (λ h. h, λ h. h)
    shape_alike (Mark k) p q x w = (λ h. h, λ h. h)
    shape_alike (Condition k) p q x w = (λ h. h, λ h. h)
    shape_alike (Not a) p q x w = (λ n h. n ((p refl x w).1 h), λ n h. n ((p refl x w).0 h))
    shape_alike (And a b) p q x w = (λ h. ((p refl x w).0 h.0, (q refl x w).0 h.1), λ h. ((p refl x w).1 h.0, (q refl x w).1 h.1))
    shape_alike (Or a b) p q x w =
        (⊎_elim (λ h. inl ((p refl x w).0 h)) (λ h. inr ((q refl x w).0 h)), ⊎_elim (λ h. inl ((p refl x w).1 h)) (λ h. inr ((q refl x w).1 h)))
    shape_alike (Next a) p q x w = (next_alike P P' (p refl) x, next_alike P' P (alike_back P P' (p refl)) x)
    shape_alike (Until a b) p q x w =
        (until_alike P P' Q Q' (p refl) (q refl) x w, until_alike P' P Q' Q (alike_back P P' (p refl)) (alike_back Q Q' (q refl)) x w)
    shape_alike (Always a) p q x w = (always_alike P P' (p refl) x w, always_alike P' P (alike_back P P' (p refl)) x w)

    pub rounds_alike : (op : Operation) (i : ℕ) → (first_is_row op ≡ true → Alike N P P') → (second_is_row op ≡ true → Alike N Q Q') → Rounds N op P Q i → Rounds N op P' Q' i
    rounds_alike Yes i p q h = h
    rounds_alike (Mark k) i p q h = h
    rounds_alike (Condition k) i p q h = h
    rounds_alike (Not a) i p q h = h
    rounds_alike (And a b) i p q h = h
    rounds_alike (Or a b) i p q h = h
    rounds_alike (Next a) i p q h = h
    rounds_alike (Until a b) i p q h =
        least_alike (Grown N P Q) (Grown N P' Q')
        (λ j x w. (grown_alike P P' Q Q' (p refl) (q refl) j x w, grown_alike P' P Q' Q (alike_back P P' (p refl)) (alike_back Q Q' (q refl)) j x w)) i h
    rounds_alike (Always a) i p q h =
        least_alike (Kept N P) (Kept N P') (λ j x w. (kept_alike P P' (p refl) j x w, kept_alike P' P (alike_back P P' (p refl)) j x w)) i h
