-- Lists of bytes, one behind the other.
use Rattle.std.proofs.Common.{◌≡◌, ℕ, ◌+◌, ◌*◌, ◌<◌, List, [], ◌∷◌, ◌++◌, length, get_or, take, sym, refl, ap, ◌∙◌, append_assoc, append-nil, mul-zero, mul-suc, arith, length-append}
use Rattle.std.proofs.lemmas.List.{take_more}
use Rattle.plan.specs.Format.{flat}

pub flat_append : {A : Type 0} (f : A → List ℕ) (xs ys : List A) → flat f (xs ++ ys) ≡ flat f xs ++ flat f ys
unfolding flat
flat_append f [] ys = refl
flat_append f (x ∷ xs) ys = ap (λ (zs : List ℕ). f x ++ zs) (flat_append f xs ys) ∙ sym (append_assoc (f x) (flat f xs) (flat f ys))

pub flat_one : {A : Type 0} (f : A → List ℕ) (x : A) → flat f (x ∷ []) ≡ f x
unfolding flat
flat_one f x = append-nil (f x)

-- Where each is w bytes long.
pub length_flat : {A : Type 0} (w : ℕ) (f : A → List ℕ) → ((x : A) → length (f x) ≡ w) → (xs : List A) → length (flat f xs) ≡ w * length xs
unfolding flat
length_flat w f width [] = sym (mul-zero w)
length_flat w f width (x ∷ xs) =
    length-append (f x) (flat f xs) ∙ (omega (arith, width x, length_flat w f width xs, mul-suc w (length xs)))

-- One more element.
pub flat_more : {A : Type 0} (f : A → List ℕ) (xs : List A) (i : ℕ) (d : A) → i < length xs
    → flat f (take (i + 1) xs) ≡ flat f (take i xs) ++ f (get_or xs i d)
flat_more f xs i d in_List =
    ap (flat f) (take_more xs i d in_List)
    ∙ (flat_append f (take i xs) (get_or xs i d ∷ []) ∙ ap (λ (zs : List ℕ). flat f (take i xs) ++ zs) (flat_one f (get_or xs i d)))
