-- A loop that writes to each place a set made of its own and two others.
use Rattle.std.proofs.Common.{◌≡◌, ℕ, ◌+◌, ◌<◌, ◌≤◌, Bool, ◌&&◌, List, length, get_or, set, Decides, sym, refl, ap, ◌∙◌, ⊎_elim, arith}
use Rattle.std.proofs.lemmas.Bool.{cases_eq, and_parts, and_from}
use Rattle.routing.specs.Net.{Pos}
use Rattle.judging.specs.Judged.{covers}
use Rattle.judging.proofs.Covers.{covers_at, covers_set_same, covers_set_other}

module _ {S : Type 0} (holds : S → ℕ → Bool) (start one other : List S) where
  -- The places below i are made by f, and the others are as they were.
  abbrev pub MadeBy : (Bool → Bool → Bool → Bool) → List S → ℕ → Type 0
  MadeBy f sets i = (x : Pos) → x.place < i → covers holds sets x ≡ f (covers holds start x) (covers holds one x) (covers holds other x)

  abbrev pub Beyond : List S → ℕ → Type 0
  Beyond sets i = (x : Pos) → i ≤ x.place → covers holds sets x ≡ covers holds start x

  -- No place below i has changed.
  abbrev pub Unchanged : List S → ℕ → Type 0
  Unchanged sets i = (x : Pos) → x.place < i → covers holds sets x ≡ covers holds start x

  module _ (sets : List S) (i : ℕ) (v old p q : S) (within : i < length sets) (within_one : i < length one) (within_other : i < length other)
      (old_is : old ≡ get_or sets i old) (p_is : p ≡ get_or one i p) (q_is : q ≡ get_or other i q) (beyond : Beyond sets i) where
    here : (x : Pos) → x.place ≡ i → covers holds start x ≡ holds old x.setting
    here x e = sym (beyond x (omega arith)) ∙ covers_at holds sets x i old e within old_is

    pub beyond_more : Beyond (set sets i v) (i + 1)
    beyond_more x above = covers_set_other holds sets i v x (λ e. omega arith) ∙ beyond x (omega arith)

    pub made_more : (f : Bool → Bool → Bool → Bool) → ((a : ℕ) → holds v a ≡ f (holds old a) (holds p a) (holds q a)) → MadeBy f sets i → MadeBy f (set sets i v) (i + 1)
    made_more f made before x below = ⊎_elim
        (λ e. covers_set_same holds sets i v x within e ∙ made x.setting
        ∙ ap (λ t. f t (holds p x.setting) (holds q x.setting)) (sym (here x e))
        ∙ ap (λ t. f (covers holds start x) t (holds q x.setting)) (sym (covers_at holds one x i p e within_one p_is))
        ∙ ap (λ t. f (covers holds start x) (covers holds one x) t) (sym (covers_at holds other x i q e within_other q_is)))
        (λ ne. covers_set_other holds sets i v x ne ∙ before x (omega arith))
        (cases_eq x.place i)

    pub unchanged_more : (t m : Bool) → Decides t (Unchanged sets i) → Decides m ((a : ℕ) → holds v a ≡ holds old a)
        → Decides (t && m) (Unchanged (set sets i v) (i + 1))
    unchanged_more t m before now = (
      λ h. let both = and_parts t m h in λ x below. ⊎_elim
          (λ e. covers_set_same holds sets i v x within e ∙ now.0 both.1 x.setting ∙ sym (here x e))
          (λ ne. covers_set_other holds sets i v x ne ∙ before.0 both.0 x (omega arith))
          (cases_eq x.place i),
      λ same. and_from t m
          (before.1 (λ x below. sym (covers_set_other holds sets i v x (λ e. omega arith)) ∙ same x (omega arith)))
          (now.1 (λ a.
          let x : Pos = record { place = i; setting = a } in
          sym (covers_set_same holds sets i v x within refl) ∙ same x (omega arith) ∙ here x refl)),
    )
