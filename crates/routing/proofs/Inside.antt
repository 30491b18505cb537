-- The test `all-inside`, record by record.
use Rattle.std.proofs.Common.{◌≡◌, ℕ, zero, suc, ◌+◌, ◌<◌, ◌≤◌, true, false, ◌&&◌, ltb, ◌⊎◌, List, [], ◌∷◌, take, Some, refl, ap, ◌∙◌, ⊎_elim, add-one, arith}
use Rattle.std.specs.List.{slice_get}
use Rattle.std.proofs.lemmas.Bool.{and_parts, and_from, and_left, and_right, lt-ltb, le-ltb}
use Rattle.routing.specs.declared.binding.Binding.{Binding}
use Rattle.routing.specs.Refusals.{all_inside}

module _ {S : Type 0} (n : ℕ) where
  -- One record more with its ends inside.
  inside_suc : (bs : List (Binding S)) (i : ℕ) (b : Binding S) → slice_get bs i ≡ Some b → b.from < n → b.to < n
      → all_inside n (take i bs) ≡ true → all_inside n (take (suc i) bs) ≡ true
  inside_suc [] i b e f t h = let z : ◌≡◌ {A = ℕ} 0 1 = cc in absurd (omega arith)
  inside_suc (c ∷ bs) zero b e f t h =
      let same : c ≡ b = cc in
      and_from _ _ (and_from _ _ (ap (λ (v : Binding S). ltb v.from n) same ∙ lt-ltb b.from n f) (ap (λ (v : Binding S). ltb v.to n) same ∙ lt-ltb b.to n t)) refl
  inside_suc (c ∷ bs) (suc i) b e f t h =
      let both = and_parts (ltb c.from n && ltb c.to n) (all_inside n (take i bs)) h in
      and_from _ _ both.0 (inside_suc bs i b e f t both.1)

  pub inside_more : (bs : List (Binding S)) (i : ℕ) (b : Binding S) → slice_get bs i ≡ Some b → b.from < n → b.to < n
      → all_inside n (take i bs) ≡ true → all_inside n (take (i + 1) bs) ≡ true
  inside_more bs i b e f t h = rw add-one (inside_suc bs i b e f t h)

  -- A record with an end outside.
  pub inside_fails : (bs : List (Binding S)) (i : ℕ) (b : Binding S) → slice_get bs i ≡ Some b → (n ≤ b.from) ⊎ (n ≤ b.to) → all_inside n bs ≡ false
  inside_fails [] i b e out = let z : ◌≡◌ {A = ℕ} 0 1 = cc in absurd (omega arith)
  inside_fails (c ∷ bs) zero b e out =
      let same : c ≡ b = cc in
      and_left (ltb c.from n && ltb c.to n) (all_inside n bs) (⊎_elim
      (λ h. and_left (ltb c.from n) (ltb c.to n) (ap (λ (v : Binding S). ltb v.from n) same ∙ le-ltb b.from n h))
      (λ h. and_right (ltb c.from n) (ltb c.to n) (ap (λ (v : Binding S). ltb v.to n) same ∙ le-ltb b.to n h))
      out)
  inside_fails (c ∷ bs) (suc i) b e out = and_right _ _ (inside_fails bs i b e out)
