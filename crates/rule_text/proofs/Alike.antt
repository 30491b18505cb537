-- A rule and the rule of its table, in which every A form is said by E forms, mean the same.
use Rattle.std.proofs.Common.{◌⊎◌, ◌↔◌, inl, inr, arith}
use Rattle.routing.specs.Net.{Net, Pos, Within}
use Rattle.routing.specs.Routes.{position, SomeNext, SomeUntil, SomeAlways}
use Rattle.routing.specs.Rules.{Rule, truth, mark, condition, non, both, either, ex, eu, eg, ef, ax, au, ag, af, Means}
use Rattle.rounds.specs.Truth.{true_at}
use Rattle.rounds.proofs.Decide.{true_at_decides}
use Rattle.rounds.proofs.Every.{every_next, every_until, every_some, every_always}
use Rattle.rounds.proofs.Walks.{has_before, stays}

-- The rule that a table has for a rule.
abbrev pub core : Rule → Rule
core truth = truth
core (mark k) = mark k
core (condition k) = condition k
core (non p) = non (core p)
core (both p q) = both (core p) (core q)
core (either p q) = either (core p) (core q)
core (ex p) = ex (core p)
core (eu p q) = eu (core p) (core q)
core (eg p) = eg (core p)
core (ef q) = eu truth (core q)
core (ax p) = non (ex (non (core p)))
core (au p q) = non (either (eu (non (core q)) (both (non (core p)) (non (core q)))) (eg (non (core q))))
core (ag p) = non (eu truth (non (core p)))
core (af q) = non (eg (non (core q)))

-- What holds of P on the network holds of P'.
abbrev Under : Net → (Pos → Type 0) → (Pos → Type 0) → Type 0
Under N P P' = (y : Pos) → Within N y → P y → P' y

next_under : (N : Net) (P P' : Pos → Type 0) → Under N P P' → (x : Pos) → SomeNext N P x → SomeNext N P' x
next_under N P P' p x (y, s, h) = (y, s, p y s.within h)

until_under : (N : Net) (P P' Q Q' : Pos → Type 0) → Under N P P' → Under N Q Q' → (x : Pos) → Within N x → SomeUntil N P Q x → SomeUntil N P' Q' x
until_under N P P' Q Q' p q x w (r, u) = (
  r,
  record {
    hops = u.hops;
    reached = u.reached;
    holds = q (position r u.hops) (stays r w u.hops u.reached) u.holds;
    before = λ j l. p (position r j) (stays r w j (has_before r j u.hops (omega arith) u.reached)) (u.before j l);
  },
)

always_under : (N : Net) (P P' : Pos → Type 0) → Under N P P' → (x : Pos) → Within N x → SomeAlways N P x → SomeAlways N P' x
always_under N P P' p x w (r, h) = (r, λ i g. p (position r i) (stays r w i g) (h i g))

not_under : (N : Net) (P P' : Pos → Type 0) → Under N P P' → Under N (λ y. ¬ (P' y)) (λ y. ¬ (P y))
not_under N P P' p y w n h = n (p y w h)

nor_under : (N : Net) (P P' Q Q' : Pos → Type 0) → Under N P P' → Under N Q Q' → Under N (λ y. (¬ (P' y)) × (¬ (Q' y))) (λ y. (¬ (P y)) × (¬ (Q y)))
nor_under N P P' Q Q' p q y w (m, n) = (λ h. m (p y w h), λ h. n (q y w h))

same_unit : (N : Net) → Under N (λ _. Unit {0}) (λ _. Unit {0})
same_unit N y w h = h

contra : {A B C : Type 0} → A ↔ (¬ B) → (B → C) → (C → B) → A ↔ (¬ C)
contra e f g = (λ a c. e.0 a (g c), λ n. e.1 (λ b. n (f b)))

-- The bad routes of A[p U q].
abbrev Bad : Net → (Pos → Type 0) → (Pos → Type 0) → Pos → Type 0
Bad N P Q x = SomeUntil N (λ y. ¬ (Q y)) (λ y. (¬ (P y)) × (¬ (Q y))) x ⊎ SomeAlways N (λ y. ¬ (Q y)) x

bad_under : (N : Net) (P P' Q Q' : Pos → Type 0) → Under N P P' → Under N Q Q' → (x : Pos) → Within N x → Bad N P' Q' x → Bad N P Q x
bad_under N P P' Q Q' p q x w (inl e) =
    inl (until_under N (λ y. ¬ (Q' y)) (λ y. ¬ (Q y)) (λ y. (¬ (P' y)) × (¬ (Q' y))) (λ y. (¬ (P y)) × (¬ (Q y))) (not_under N Q Q' q) (nor_under N P P' Q Q' p q) x w e)
bad_under N P P' Q Q' p q x w (inr e) = inr (always_under N (λ y. ¬ (Q' y)) (λ y. ¬ (Q y)) (not_under N Q Q' q) x w e)

module _ (N : Net) where
  pub alike : (f : Rule) (x : Pos) → Within N x → Means N f x ↔ Means N (core f) x
  alike truth x w = (λ h. h, λ h. h)
  alike (mark k) x w = (λ h. h, λ h. h)
  alike (condition k) x w = (λ h. h, λ h. h)
  alike (non p) x w = let h = alike p x w in (λ n m. n (h.1 m), λ n m. n (h.0 m))
  alike (both p q) x w =
      let h = alike p x w in let k = alike q x w in (λ e. (h.0 e.0, k.0 e.1), λ e. (h.1 e.0, k.1 e.1))
  alike (either p q) x w =
      let h = alike p x w in let k = alike q x w in
      (λ e. elim e [ inl a ↦ inl (h.0 a) | inr b ↦ inr (k.0 b) ], λ e. elim e [ inl a ↦ inl (h.1 a) | inr b ↦ inr (k.1 b) ])
  alike (ex p) x w =
      (next_under N (Means N p) (Means N (core p)) (λ y v. (alike p y v).0) x, next_under N (Means N (core p)) (Means N p) (λ y v. (alike p y v).1) x)
  alike (eu p q) x w = (
    until_under N (Means N p) (Means N (core p)) (Means N q) (Means N (core q)) (λ y v. (alike p y v).0) (λ y v. (alike q y v).0) x w,
    until_under N (Means N (core p)) (Means N p) (Means N (core q)) (Means N q) (λ y v. (alike p y v).1) (λ y v. (alike q y v).1) x w,
  )
  alike (eg p) x w =
      (always_under N (Means N p) (Means N (core p)) (λ y v. (alike p y v).0) x w, always_under N (Means N (core p)) (Means N p) (λ y v. (alike p y v).1) x w)
  alike (ef q) x w = (
    until_under N (λ _. Unit {0}) (λ _. Unit {0}) (Means N q) (Means N (core q)) (same_unit N) (λ y v. (alike q y v).0) x w,
    until_under N (λ _. Unit {0}) (λ _. Unit {0}) (Means N (core q)) (Means N q) (same_unit N) (λ y v. (alike q y v).1) x w,
  )
  alike (ax p) x w =
      contra (every_next N (true_at N p) (Means N p) (true_at_decides N p) x w)
      (next_under N (λ y. ¬ (Means N p y)) (λ y. ¬ (Means N (core p) y)) (not_under N (Means N (core p)) (Means N p) (λ y v. (alike p y v).1)) x)
      (next_under N (λ y. ¬ (Means N (core p) y)) (λ y. ¬ (Means N p y)) (not_under N (Means N p) (Means N (core p)) (λ y v. (alike p y v).0)) x)
  alike (au p q) x w =
      contra (every_until N (true_at N p) (true_at N q) (Means N p) (Means N q) (true_at_decides N p) (true_at_decides N q) x w)
      (bad_under N (Means N (core p)) (Means N p) (Means N (core q)) (Means N q) (λ y v. (alike p y v).1) (λ y v. (alike q y v).1) x w)
      (bad_under N (Means N p) (Means N (core p)) (Means N q) (Means N (core q)) (λ y v. (alike p y v).0) (λ y v. (alike q y v).0) x w)
  alike (ag p) x w =
      contra (every_always N (true_at N p) (Means N p) (true_at_decides N p) x w)
      (until_under N (λ _. Unit {0}) (λ _. Unit {0}) (λ y. ¬ (Means N p y)) (λ y. ¬ (Means N (core p) y)) (same_unit N) (not_under N (Means N (core p)) (Means N p) (λ y v. (alike p y v).1)) x w)
      (until_under N (λ _. Unit {0}) (λ _. Unit {0}) (λ y. ¬ (Means N (core p) y)) (λ y. ¬ (Means N p y)) (same_unit N) (not_under N (Means N p) (Means N (core p)) (λ y v. (alike p y v).0)) x w)
  alike (af q) x w =
      contra (every_some N (true_at N q) (Means N q) (true_at_decides N q) x w)
      (always_under N (λ y. ¬ (Means N q y)) (λ y. ¬ (Means N (core q) y)) (not_under N (Means N (core q)) (Means N q) (λ y v. (alike q y v).1)) x w)
      (always_under N (λ y. ¬ (Means N (core q) y)) (λ y. ¬ (Means N q y)) (not_under N (Means N q) (Means N (core q)) (λ y v. (alike q y v).0)) x w)
