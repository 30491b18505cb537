-- What holds of each element of a list.
use Rattle.std.proofs.Common.{◌≡◌, ℕ, zero, suc, ◌+◌, ◌<◌, ◌≤◌, List, [], ◌∷◌, ◌++◌, length, get_or, take, sym, refl, subst, arith}
use Rattle.std.proofs.lemmas.List.{take_all, take_more}
use Rattle.plan.specs.Reading.{Each}

pub each_none : {A : Type 0} (P : A → Type 0) → Each P []
each_none P i x here = let z : ◌≡◌ {A = ℕ} 0 1 = cc in absurd (omega arith)

pub each_cons : {A : Type 0} (P : A → Type 0) (y : A) (ys : List A) → P y → Each P ys → Each P (y ∷ ys)
each_cons P y ys first others zero x here = let same : y ≡ x = cc in subst P same first
each_cons P y ys first others (suc i) x here = others i x here

-- By the elements as they are read.
pub each_from_getD : {A : Type 0} (P : A → Type 0) (xs : List A) (d : A) → ((i : ℕ) → i < length xs → P (get_or xs i d)) → Each P xs
each_from_getD P [] d all = each_none P
each_from_getD P (x ∷ xs) d all = each_cons P x xs (all 0 (omega arith)) (each_from_getD P xs d (λ i h. all (suc i) (omega arith)))

-- One element behind the others.
pub each_push : {A : Type 0} (P : A → Type 0) (xs : List A) (y : A) → Each P xs → P y → Each P (xs ++ y ∷ [])
each_push P [] y none last = each_cons P y [] last (each_none P)
each_push P (x ∷ xs) y all last = each_cons P x (xs ++ y ∷ []) (all 0 x refl) (each_push P xs y (λ i z here. all (suc i) z here) last)

-- One element more in a loop, and the loop's end.
pub each_more : {A : Type 0} (P : A → Type 0) (xs : List A) (i : ℕ) (d : A) → i < length xs → Each P (take i xs) → P (get_or xs i d)
    → Each P (take (i + 1) xs)
each_more P xs i d in_List before here = subst (Each P) (sym (take_more xs i d in_List)) (each_push P (take i xs) (get_or xs i d) before here)

pub each_all : {A : Type 0} (P : A → Type 0) (xs : List A) (i : ℕ) → length xs ≤ i → Each P (take i xs) → Each P xs
each_all P xs i past all = subst (Each P) (take_all i xs past) all
