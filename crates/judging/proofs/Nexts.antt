-- The next position, binding by binding.
use Rattle.std.proofs.Common.{◌≡◌, ℕ, zero, suc, ◌+◌, ◌<◌, ◌≤◌, Bool, true, false, cond, ◌&&◌, eqb, List, [], ◌∷◌, length, get_or, drop, Some, None, Option, sym, refl, ap, ◌∙◌, ⊎_elim, arith}
use Rattle.std.specs.List.{slice_get}
use Rattle.std.proofs.lemmas.Bool.{cond-true, cond-false, cases_Bool, and_from, and_left, and_right, eq-eqb, ne_eqb}
use Rattle.conditions.specs.Sets.{Picked}
use Rattle.conditions.proofs.Picking.{picked_in, picked_first}
use Rattle.routing.specs.Net.{Link, Net, Pos, settings}
use Rattle.judging.specs.Judged.{covers}
use Rattle.judging.proofs.Covers.{covers_read}
use Rattle.judging.specs.Chosen.{pos, at_place, entering, or_next, next_by}
use Rattle.judging.specs.Notes.{first_link}
use Rattle.judging.proofs.Choices.{least_is, least_none}

-- What one binding gives.
abbrev pub by_link : (ℕ → Option Pos) → Pos → Link → Option Pos
by_link enter x b = cond (eqb b.from x.place && b.forwards x.setting) (enter b.to) None

-- The next position is the entry of the first binding that fits.
pub next_first : (N : Net) (X : Pos → Bool) (x : Pos) (bs : List Link) → next_by N X x bs ≡ first_link (entering N X) x bs
unfolding next_by first_link
next_first N X x [] = refl
next_first N X x (b ∷ bs) = ap (or_next (by_link (entering N X) x b)) (next_first N X x bs)

-- One binding more.
first_one : (enter : ℕ → Option Pos) (x : Pos) (bs : List Link) (i : ℕ) (b : Link) → slice_get bs i ≡ Some b
    → first_link enter x (drop i bs) ≡ or_next (by_link enter x b) (first_link enter x (drop (i + 1) bs))
unfolding first_link
first_one enter x [] i b e = let z : ◌≡◌ {A = ℕ} 0 1 = cc in absurd (omega arith)
first_one enter x (c ∷ bs) zero b e =
    let same : c ≡ b = cc in ap (λ (l : Link). or_next (by_link enter x l) (first_link enter x bs)) same
first_one enter x (c ∷ bs) (suc i) b e =
    let s : suc i + 1 ≡ suc (i + 1) = omega arith in
    first_one enter x bs i b e ∙ ap (λ k. or_next (by_link enter x b) (first_link enter x (drop k (c ∷ bs)))) (sym s)

-- No binding is left.
pub first_none : (enter : ℕ → Option Pos) (x : Pos) (bs : List Link) (i : ℕ) → length bs ≤ i → first_link enter x (drop i bs) ≡ None
unfolding first_link
first_none enter x [] zero l = refl
first_none enter x [] (suc i) l = refl
first_none enter x (c ∷ bs) zero l = absurd (omega arith)
first_none enter x (c ∷ bs) (suc i) l = first_none enter x bs i (omega arith)

module _ (enter : ℕ → Option Pos) (x : Pos) (bs : List Link) (i : ℕ) (b : Link) (listed : slice_get bs i ≡ Some b)
    (inv : first_link enter x bs ≡ first_link enter x (drop i bs)) where
  -- The binding leads to a place with an entry.
  pub first_found : (y : Pos) → b.from ≡ x.place → b.forwards x.setting ≡ true → enter b.to ≡ Some y → first_link enter x bs ≡ Some y
  first_found y from forwards enters =
      inv ∙ first_one enter x bs i b listed
      ∙ ap (λ o. or_next o (first_link enter x (drop (i + 1) bs))) (cond-true _ _ _ (and_from _ _ (eq-eqb b.from x.place from) forwards) ∙ enters)

  skip : by_link enter x b ≡ None → first_link enter x bs ≡ first_link enter x (drop (i + 1) bs)
  skip e = inv ∙ first_one enter x bs i b listed ∙ ap (λ o. or_next o (first_link enter x (drop (i + 1) bs))) e

  -- It leaves from elsewhere, or is shut, or leads to a place with no entry.
  pub first_elsewhere : (b.from ≡ x.place → ⊥) → first_link enter x bs ≡ first_link enter x (drop (i + 1) bs)
  first_elsewhere ne = skip (cond-false _ _ _ (and_left _ _ (ne_eqb b.from x.place ne)))

  pub first_shut : b.forwards x.setting ≡ false → first_link enter x bs ≡ first_link enter x (drop (i + 1) bs)
  first_shut e = skip (cond-false _ _ _ (and_right _ _ e))

  pub first_outside : enter b.to ≡ None → first_link enter x bs ≡ first_link enter x (drop (i + 1) bs)
  first_outside e = skip (go _ refl)
    where
      go : (t : Bool) → t ≡ (eqb b.from x.place && b.forwards x.setting) → by_link enter x b ≡ None
      go true h = cond-true _ _ _ (sym h) ∙ e
      go false h = cond-false _ _ _ (sym h)

-- The sets as they are picked from.
module _ {S : Type 0} (holds : S → ℕ → Bool) (N : Net) (sets : List S) (t : ℕ) (s : S)
    (within : t < length sets) (is : s ≡ get_or sets t s)
    (below : (a : ℕ) → holds s a ≡ true → a < settings N) where
  pub entering_some : (m : ℕ) → Picked (λ a. holds s a ≡ true) m → entering N (covers holds sets) t ≡ Some (pos t m)
  unfolding entering
  entering_some m p =
      let read : (a : ℕ) → covers holds sets (pos t a) ≡ holds s a = λ a. covers_read holds sets (pos t a) s within is in
      ap (at_place t) (least_is (settings N) (λ a. covers holds sets (pos t a)) m (below m (picked_in _ m p)) (read m ∙ picked_in _ m p)
      (λ a l. read a ∙ ⊎_elim (λ e. absurd (picked_first (λ b. holds s b ≡ true) m p a l e)) (λ e. e) (cases_Bool (holds s a))))

  pub entering_none : ((a : ℕ) → holds s a ≡ false) → entering N (covers holds sets) t ≡ None
  unfolding entering
  entering_none none = ap (at_place t) (least_none (settings N) (λ a. covers holds sets (pos t a)) (λ a l. covers_read holds sets (pos t a) s within is ∙ none a))
