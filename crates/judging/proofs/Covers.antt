-- Lists with a set for each place, one write at a time.
use Rattle.std.proofs.Common.{◌≡◌, ℕ, ◌^◌, ◌<◌, Bool, true, List, length, get_or, set, Some, None, Option, sym, ⊎_elim, refl, ap, ◌∙◌, length-set}
use Rattle.std.specs.List.{slice_get}
use Rattle.std.proofs.lemmas.Option.{slice_get-get_or, slice_get_past, slice_get_read}
use Rattle.std.proofs.lemmas.List.{get_or-set_other, get_or-set_same}
use Rattle.std.proofs.lemmas.Bool.{cases_lt, false≢true}
use Rattle.routing.specs.Net.{Pos}
use Rattle.judging.specs.Judged.{in_set, covers}

module _ {S : Type 0} (holds : S → ℕ → Bool) where
  -- The set at the position's place, when it is known.
  pub covers_read : (xs : List S) (x : Pos) (v : S) → x.place < length xs → v ≡ get_or xs x.place v → covers holds xs x ≡ holds v x.setting
  covers_read xs x v l e = ap (λ o. in_set holds o x.setting) (slice_get_read xs (length xs) x.place v refl l e)

  -- The same, where the place has another name.
  pub covers_at : (xs : List S) (x : Pos) (i : ℕ) (v : S) → x.place ≡ i → i < length xs → v ≡ get_or xs i v → covers holds xs x ≡ holds v x.setting
  covers_at xs x i v p l e =
      ap (λ o. in_set holds o x.setting) (ap (slice_get xs) p ∙ slice_get_read xs (length xs) i v refl l e)

  -- A write at the position's place ..
  pub covers_set_same : (xs : List S) (i : ℕ) (v : S) (x : Pos) → i < length xs → x.place ≡ i → covers holds (set xs i v) x ≡ holds v x.setting
  covers_set_same xs i v x l e =
      covers_at (set xs i v) x i v e (simp length-set l) (sym (get_or-set_same xs i v v l))

  -- .. and one elsewhere.
  pub covers_set_other : (xs : List S) (i : ℕ) (v : S) (x : Pos) → (x.place ≡ i → ⊥) → covers holds (set xs i v) x ≡ covers holds xs x
  covers_set_other xs i v x ne =
      ap (λ o. in_set holds o x.setting) (⊎_elim
      (λ l. slice_get-get_or (set xs i v) x.place v (simp length-set l) ∙ ap Some (get_or-set_other xs i x.place v v ne) ∙ sym (slice_get-get_or xs x.place v l))
      (λ l. slice_get_past (set xs i v) x.place (simp length-set l) ∙ sym (slice_get_past xs x.place l))
      (cases_lt x.place (length xs)))

  -- A setting that a list has is one of K conditions, where every member of a set is.
  pub covers_below : (K : ℕ) → ((s : S) (a : ℕ) → holds s a ≡ true → a < 2 ^ K) → (xs : List S) (x : Pos) → covers holds xs x ≡ true → x.setting < 2 ^ K
  covers_below K below xs x h = go (slice_get xs x.place) h
    where
      go : (o : Option S) → in_set holds o x.setting ≡ true → x.setting < 2 ^ K
      go None e = absurd (false≢true e)
      go (Some s) e = below s x.setting e
