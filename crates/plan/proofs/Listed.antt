-- Lists by their number of elements and what stands at each number.
use Rattle.std.proofs.Common.{◌≡◌, ℕ, zero, suc, ◌<◌, ◌≤◌, true, ◌&&◌, ltb, List, [], ◌∷◌, length, Some, None, refl, arith}
use Rattle.std.specs.List.{slice_get}
use Rattle.std.proofs.lemmas.Bool.{lt-ltb, and_from}
use Rattle.routing.specs.declared.binding.Binding.{Binding}
use Rattle.routing.specs.Refusals.{all_inside}
use Rattle.plan.specs.Contents.{listed}

pub nth_listed : {A : Type 0} (n : ℕ) (f : ℕ → A) (i : ℕ) → i < n → slice_get (listed n f) i ≡ Some (f i)
unfolding listed
nth_listed zero f i below = absurd (omega arith)
nth_listed (suc n) f zero below = refl
nth_listed (suc n) f (suc i) below = nth_listed n (λ k. f (suc k)) i (omega arith)

pub nth_past : {A : Type 0} (n : ℕ) (f : ℕ → A) (i : ℕ) → n ≤ i → slice_get (listed n f) i ≡ None
unfolding listed
nth_past zero f i past = refl
nth_past (suc n) f zero past = absurd (omega arith)
nth_past (suc n) f (suc i) past = nth_past n (λ k. f (suc k)) i (omega arith)

-- Where the ends of each binding are places, they all are.
pub inside_listed : {S : Type 0} (places n : ℕ) (f : ℕ → Binding S) → ((k : ℕ) → k < n → ((f k).from < places) × ((f k).to < places))
    → all_inside places (listed n f) ≡ true
unfolding listed
inside_listed places zero f ends = refl
inside_listed places (suc n) f ends =
    let here = ends 0 (omega arith) in
    and_from (ltb (f 0).from places && ltb (f 0).to places) (all_inside places (listed n (λ k. f (suc k))))
    (and_from (ltb (f 0).from places) (ltb (f 0).to places) (lt-ltb (f 0).from places here.0) (lt-ltb (f 0).to places here.1))
    (inside_listed places n (λ k. f (suc k)) (λ k below. ends (suc k) (omega arith)))

-- Where nothing stands at a number, the list is no longer than that.
pub past_of_none : {A : Type 0} (xs : List A) (i : ℕ) → None ≡ slice_get xs i → length xs ≤ i
past_of_none [] i e = omega arith
past_of_none (x ∷ xs) zero e = let z : ◌≡◌ {A = ℕ} 0 1 = cc in absurd (omega arith)
past_of_none (x ∷ xs) (suc i) e = let rest = past_of_none xs i e in omega arith

-- What stands at a number of the list is what f gives there.
pub listed_at : {A : Type 0} (n : ℕ) (f : ℕ → A) (i : ℕ) (x : A) → slice_get (listed n f) i ≡ Some x → (i < n) × (f i ≡ x)
unfolding listed
listed_at zero f i x e = let z : ◌≡◌ {A = ℕ} 0 1 = cc in absurd (omega arith)
listed_at (suc n) f zero x e = let same : f 0 ≡ x = cc in (omega arith, same)
listed_at (suc n) f (suc i) x e = let rest = listed_at n (λ k. f (suc k)) i x e in let below = rest.0 in (omega arith, rest.1)
