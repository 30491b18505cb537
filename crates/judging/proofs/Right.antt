-- The route that is shown for a rule shows it.
use Rattle.std.proofs.Common.{◌≡◌, ℕ, zero, suc, Bool, true, ◌⊎◌, [], ◌∷◌, Some, Option, sym, refl, subst, inl, inr, arith}
use Rattle.std.specs.List.{slice_get}
use Rattle.std.proofs.lemmas.Bool.{cond_both, false≢true}
use Rattle.routing.specs.Net.{Net, Pos, Within, Step, Rests as AtRest, places}
use Rattle.routing.specs.Routes.{SomeNext, SomeAlways}
use Rattle.routing.specs.Rules.{Rule, truth, mark, condition, non, both, either, ex, eu, eg, ef, ax, au, ag, af, Means}
use Rattle.routing.specs.Bindings.{Fits}
use Rattle.rounds.specs.Rounds.{Kept, Decided}
use Rattle.rounds.specs.Truth.{kept, true_at}
use Rattle.rounds.proofs.Truth.{kept_decides}
use Rattle.rounds.proofs.Settle.{always_settled}
use Rattle.rounds.proofs.Walks.{has_first, starts}
use Rattle.rounds.proofs.Decide.{true_at_decides}
use Rattle.judging.specs.declared.shown.Ending.TheVariants.{Reaches, Returns}
use Rattle.judging.specs.Chosen.{Chosen, next_in, same_pos, chosen_next, chosen}
use Rattle.judging.specs.Shown.{Trail, ShowsNext, Shows, CanShow}
use Rattle.judging.proofs.Choices.{next_out, next_some}
use Rattle.judging.proofs.Trails.{same_pos_is, same_pos_self}
use Rattle.judging.proofs.Fewest.{until_right}
use Rattle.judging.proofs.Lasting.{always_right}

-- A position alone is a trail.
alone : (N : Net) (x : Pos) → Trail N x (x ∷ [])
alone N x = record {
  starts = refl;
  joined = λ i a b e g. let z : ◌≡◌ {A = ℕ} 0 1 = cc in absurd (omega arith);
  different = apart;
  few = omega arith;
}
  where
    apart : (i j : ℕ) (a : Pos) → slice_get (x ∷ []) i ≡ Some a → slice_get (x ∷ []) j ≡ Some a → i ≡ j
    apart zero zero a e g = refl
    apart zero (suc j) a e g = let z : ◌≡◌ {A = ℕ} 0 1 = cc in absurd (omega arith)
    apart (suc i) j a e g = let z : ◌≡◌ {A = ℕ} 0 1 = cc in absurd (omega arith)

-- A step to another position is a trail.
pair : (N : Net) (x y : Pos) → Within N x → Step N x y → (y ≡ x → ⊥) → Trail N x (x ∷ y ∷ [])
pair N x y w s d = record { starts = refl; joined = joins; different = apart; few = omega (arith, w.place_in) }
  where
    joins : (i : ℕ) (a b : Pos) → slice_get (x ∷ y ∷ []) i ≡ Some a → slice_get (x ∷ y ∷ []) (suc i) ≡ Some b → Step N a b
    joins zero a b e g = let h : x ≡ a = cc in let k : y ≡ b = cc in subst (Step N a) k (subst (λ (c : Pos). Step N c y) h s)
    joins (suc i) a b e g = let z : ◌≡◌ {A = ℕ} 0 1 = cc in absurd (omega arith)

    apart : (i j : ℕ) (a : Pos) → slice_get (x ∷ y ∷ []) i ≡ Some a → slice_get (x ∷ y ∷ []) j ≡ Some a → i ≡ j
    apart zero zero a e g = refl
    apart zero (suc zero) a e g = absurd (d (cc))
    apart zero (suc (suc j)) a e g = let z : ◌≡◌ {A = ℕ} 0 1 = cc in absurd (omega arith)
    apart (suc zero) zero a e g = absurd (d (cc))
    apart (suc zero) (suc zero) a e g = refl
    apart (suc zero) (suc (suc j)) a e g = let z : ◌≡◌ {A = ℕ} 0 1 = cc in absurd (omega arith)
    apart (suc (suc i)) j a e g = let z : ◌≡◌ {A = ℕ} 0 1 = cc in absurd (omega arith)

-- EX p.
module _ (N : Net) (fits : Fits N) (p : Pos → Bool) (P : Pos → Type 0) (dp : Decided N p P) (x : Pos) (w : Within N x) where
  abbrev NextRight : Chosen → Type 0
  NextRight c = Trail N x c.positions × ShowsNext N P x c.positions c.ending

  stepped : (y : Pos) → Step N x y → P y → NextRight (chosen_next x (Some y))
  unfolding chosen_next
  stepped y s h = cond_both (same_pos y x) (record { positions = x ∷ []; ending = Returns 0 }) (record { positions = x ∷ y ∷ []; ending = Reaches }) NextRight
      (λ t. let e = same_pos_is y x t in (alone N x, (refl, refl, subst (Step N x) e s, subst P e h)))
      (λ t. (pair N x y w s (λ e. false≢true (subst (λ (b : Bool). b ≡ true) t (subst (λ (c : Pos). same_pos y c ≡ true) e (same_pos_self y)))), (y, refl, h)))

  next_right : SomeNext N P x → NextRight (chosen_next x (next_in N p x))
  next_right (y, s, h) =
      let v = next_some N p x (y, s, (dp y s.within).1 h) in
      let o = next_out N p x fits v.0 v.1 in
      subst (λ (o : Option Pos). NextRight (chosen_next x o)) (sym v.1) (stepped v.0 o.0 ((dp v.0 o.0.within).0 o.1))

-- EG p: each position of the set is at rest or has a step into it.
module _ (N : Net) (p : Rule) where
  eg_onward : (x : Pos) → Within N x → true_at N (eg p) x ≡ true → AtRest N x ⊎ SomeNext N (λ y. true_at N (eg p) y ≡ true) x
  unfolding true_at
  eg_onward x w h = go ((always_settled N (true_at N p) (Means N p) d x w).1 ((kept_decides N (true_at N p) (Means N p) d (places N) x w).0 h)).1
    where
      d : Decided N (true_at N p) (Means N p)
      d = true_at_decides N p

      go : AtRest N x ⊎ SomeNext N (Kept N (Means N p) (places N)) x → AtRest N x ⊎ SomeNext N (λ y. kept N (true_at N p) (places N) y ≡ true) x
      go (inl z) = inl z
      go (inr (y, s, k)) = inr (y, s, (kept_decides N (true_at N p) (Means N p) d (places N) y s.within).1 k)

  eg_holds : (x : Pos) → Within N x → true_at N (eg p) x ≡ true → Means N p x
  eg_holds x w h = here ((true_at_decides N (eg p) x w).0 h)
    where
      here : SomeAlways N (Means N p) x → Means N p x
      here (r, a) = subst (Means N p) (starts r) (a 0 (has_first r))

-- Where a rule that can be shown is true, the chosen route is a trail that shows it.
pub shown_right : (N : Net) → Fits N → (f : Rule) (x : Pos) → Within N x → CanShow f → Means N f x
    → Trail N x (chosen N f x).positions × Shows N f x (chosen N f x).positions (chosen N f x).ending
unfolding chosen
shown_right N fits (ex p) x w c m = next_right N fits (true_at N p) (Means N p) (true_at_decides N p) x w m
shown_right N fits (eu p q) x w c m =
    until_right N (true_at N p) (true_at N q) (Means N p) (Means N q) (true_at_decides N p) (true_at_decides N q) fits x w m
shown_right N fits (eg p) x w c m =
    always_right N (true_at N (eg p)) (Means N p) x fits (eg_holds N p) (eg_onward N p) w ((true_at_decides N (eg p) x w).1 m)
shown_right N fits truth x w c m = absurd c
shown_right N fits (mark k) x w c m = absurd c
shown_right N fits (condition k) x w c m = absurd c
shown_right N fits (non p) x w c m = absurd c
shown_right N fits (both p q) x w c m = absurd c
shown_right N fits (either p q) x w c m = absurd c
shown_right N fits (ef q) x w c m = absurd c
shown_right N fits (ax p) x w c m = absurd c
shown_right N fits (au p q) x w c m = absurd c
shown_right N fits (ag p) x w c m = absurd c
shown_right N fits (af q) x w c m = absurd c
