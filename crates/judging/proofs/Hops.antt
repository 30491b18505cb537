-- The rounds of E[p U q] as tests, and the notes on them.
use Rattle.std.proofs.Common.{◌≡◌, ℕ, zero, suc, ◌<◌, ◌≤◌, Bool, true, false, ◌&&◌, ◌||◌, eqb, leb, ◌⊎◌, List, [], ◌∷◌, is_some, Some, None, Decides, Option, sym, refl, ap, ◌∙◌, subst, inl, inr, ⊎_elim, arith}
use native.Mathlib.Decide.{le_ind}
use Rattle.std.specs.List.{slice_get}
use Rattle.std.proofs.lemmas.Bool.{cases_eq, cases_Bool, or_left, or_right, or_cases, and_from, and_parts, cond-true, cond-false, le-leb, lt-leb, leb-true, both_ways, eqb-true, true≢false}
use Rattle.std.proofs.lemmas.Bool.Decides.{same_from_decides}
use Rattle.routing.specs.Net.{Link, Net, Pos, Within, Step, places}
use Rattle.routing.specs.Routes.{SomeNext}
use Rattle.routing.specs.Bindings.{Fits}
use Rattle.rounds.specs.Rounds.{Decided}
use Rattle.rounds.specs.Truth.{into, grown}
use Rattle.rounds.proofs.Truth.{into_decides, is_decides}
use Rattle.judging.specs.declared.shown.Ending.TheVariants.{Reaches}
use Rattle.judging.specs.Chosen.{least_from, pos, at_place, entering, or_next, next_in, goes_on, counted, walk_until, chosen_until}
use Rattle.judging.specs.declared.notes.Note.{Note}
use Rattle.judging.specs.Notes.{note_of, noted_at, noted_by, setting_by, first_link, noted_entry, noted_next, walk_noted, Noted}
use Rattle.judging.proofs.Choices.{entering_like, entering_out, entering_some, next_out}
use Rattle.judging.proofs.Nexts.{by_link, next_first}

-- A test of the positions that another passes decides them.
same_decided : (N : Net) (b c : Pos → Bool) → ((y : Pos) → Within N y → b y ≡ c y) → Decided N c (λ y. b y ≡ true)
same_decided N b c same y w = (λ e. same y w ∙ e, λ e. sym (same y w) ∙ e)

-- The settings with a step into the set, by their test.
pub into_same : (N : Net) (b c : Pos → Bool) → ((y : Pos) → Within N y → b y ≡ c y) → (t : Bool) (x : Pos) → Decides t (SomeNext N (λ y. b y ≡ true) x) → t ≡ into N c x
into_same N b c same t x d = same_from_decides t (into N c x) d (into_decides N c (λ y. b y ≡ true) (same_decided N b c same) x)

-- One round more of E[p U q].
pub grown_next : (N : Net) (p q b g after : Pos → Bool) (i : ℕ) (x : Pos) → b x ≡ grown N p q i x → g x ≡ into N (grown N p q i) x
    → after x ≡ (b x || (p x && g x)) → after x ≡ grown N p q (suc i) x
unfolding grown
grown_next N p q b g after i x e f made = made ∙ ap (λ t. t || (p x && g x)) e ∙ ap (λ t. grown N p q i x || (p x && t)) f

pub grown_first : (N : Net) (p q : Pos → Bool) (x : Pos) → q x ≡ grown N p q 0 x
unfolding grown
grown_first N p q x = refl

module _ (N : Net) (p q : Pos → Bool) where
  grown_keeps : (i : ℕ) (x : Pos) → grown N p q i x ≡ true → grown N p q (suc i) x ≡ true
  unfolding grown
  grown_keeps i x h = or_left (grown N p q i x) _ h

  -- The rounds only add.
  grows : (i k : ℕ) (x : Pos) → i ≤ k → grown N p q i x ≡ true → grown N p q k x ≡ true
  grows i k x l h = le_ind (λ j. grown N p q j x ≡ true) h (λ j _ e. grown_keeps j x e) k l

  -- A position that is new in a round has p, and p with a step into a round is in the next.
  new_has : (i : ℕ) (x : Pos) → grown N p q i x ≡ false → grown N p q (suc i) x ≡ true → p x ≡ true
  unfolding grown
  new_has i x old new = ⊎_elim (λ e. absurd (both_ways (grown N p q i x) old e)) (λ e. (and_parts (p x) (into N (grown N p q i) x) e).0) (or_cases (grown N p q i x) _ new)

  steps_in : (i : ℕ) (x : Pos) → p x ≡ true → SomeNext N (λ y. grown N p q i y ≡ true) x → grown N p q (suc i) x ≡ true
  unfolding grown
  steps_in i x has s =
      or_right (grown N p q i x) _ (and_from (p x) _ has ((into_decides N (grown N p q i) (λ y. grown N p q i y ≡ true) (is_decides N (grown N p q i)) x).1 s))

  -- A place that was entered stays entered.
  stays_entered : (i k t : ℕ) (y : Pos) → i ≤ k → entering N (grown N p q i) t ≡ Some y → is_some (entering N (grown N p q k) t) ≡ true
  stays_entered i k t y l e =
      let o = entering_out N (grown N p q i) t y e in
      let h : grown N p q k (pos t y.setting) ≡ true = subst (λ (s : ℕ). grown N p q k (pos s y.setting) ≡ true) o.0 (grows i k y l o.2) in
      let z = entering_some N (grown N p q k) t y.setting o.1 h in
      ap is_some z.1

  module _ (i : ℕ) (notes notes' : List (Option Note)) (X : Pos → Bool) (same : (y : Pos) → Within N y → X y ≡ grown N p q i y)
      (made : (t : ℕ) → t < places N → note_of notes' t ≡ noted_at (note_of notes t) (entering N X t) i)
      (before : Noted N (grown N p q) i notes) where
    entered : (t : ℕ) → t < places N → entering N X t ≡ entering N (grown N p q i) t
    entered t l = entering_like N X (grown N p q i) t l same

    -- What the note of one place says.
    One : ℕ → Option Note → Type 0
    One t o = ((j : ℕ) → j < suc i → is_some (entering N (grown N p q j) t) ≡ noted_by o j)
        × ((n : Note) → o ≡ Some n → (n.round < suc i) × (entering N (grown N p q n.round) t ≡ Some (pos t n.setting)))

    -- A place that was noted before.
    kept : (t : ℕ) (n : Note) → t < places N → note_of notes t ≡ Some n → One t (Some n)
    unfolding One
    kept t n l is =
        let e = before.entry t n l is in (
          λ j k. ⊎_elim
              (λ s. ap (λ m. is_some (entering N (grown N p q m) t)) s
              ∙ stays_entered n.round i t _ (let less = e.0 in omega arith) e.1 ∙ sym (le-leb n.round j (let less = e.0 in omega arith)))
              (λ ne. before.by_then t j l (omega arith) ∙ ap (λ (o : Option Note). noted_by o j) is)
              (cases_eq j i),
          λ m also. let f = before.entry t m l (is ∙ also) in (let less = f.0 in omega arith, f.1),
        )

    -- A place that is not entered yet.
    still : (t : ℕ) → t < places N → note_of notes t ≡ None → entering N (grown N p q i) t ≡ None → One t None
    unfolding One
    still t l is none = (
      λ j k. ⊎_elim
          (λ s. ap (λ m. is_some (entering N (grown N p q m) t)) s ∙ ap is_some none)
          (λ ne. before.by_then t j l (omega arith) ∙ ap (λ (o : Option Note). noted_by o j) is)
          (cases_eq j i),
      λ n some. absurd (true≢false (sym (ap is_some some))),
    )

    -- A place that is entered now.
    fresh : (t : ℕ) (y : Pos) → t < places N → note_of notes t ≡ None → entering N (grown N p q i) t ≡ Some y → One t (Some (record { round = i; setting = y.setting }))
    unfolding One
    fresh t y l is some = (
      λ j k. ⊎_elim
          (λ s. ap (λ m. is_some (entering N (grown N p q m) t)) s ∙ ap is_some some ∙ sym (le-leb i j (omega arith)))
          (λ ne. before.by_then t j l (omega arith) ∙ ap (λ (o : Option Note). noted_by o j) is ∙ sym (lt-leb i j (omega arith)))
          (cases_eq j i),
      λ n also.
          let e : ◌≡◌ {A = Note} (record { round = i; setting = y.setting }) n = cc in
          subst (λ (m : Note). (m.round < suc i) × (entering N (grown N p q m.round) t ≡ Some (pos t m.setting))) e
          (omega arith, some ∙ ap (λ (s : ℕ). Some (pos s y.setting)) (entering_out N (grown N p q i) t y some).0),
    )

    one : (t : ℕ) → t < places N → One t (note_of notes' t)
    one t l = subst (One t) (sym (made t l)) (go (note_of notes t) (entering N X t) refl refl)
      where
        go : (o : Option Note) (e : Option Pos) → note_of notes t ≡ o → entering N X t ≡ e → One t (noted_at o e i)
        go (Some n) e is enters = kept t n l is
        go None None is enters = still t l is (sym (entered t l) ∙ enters)
        go None (Some y) is enters = fresh t y l is (sym (entered t l) ∙ enters)

    -- The notes with one round more.
    pub noted_more : Noted N (grown N p q) (suc i) notes'
    unfolding One
    noted_more = record { by_then = λ t j l k. (one t l).0 j k; entry = λ t n l. (one t l).1 n }

  -- Bindings that give the same.
  first_like : (enter enter' : ℕ → Option Pos) (x : Pos) (bs : List Link) → ((k : ℕ) (b : Link) → slice_get bs k ≡ Some b → by_link enter x b ≡ by_link enter' x b)
      → first_link enter x bs ≡ first_link enter' x bs
  unfolding first_link
  first_like enter enter' x [] same = refl
  first_like enter enter' x (b ∷ bs) same =
      ap (λ o. or_next o (first_link enter x bs)) (same 0 b refl) ∙ ap (or_next (by_link enter' x b)) (first_like enter enter' x bs (λ k c e. same (suc k) c e))

  module _ (fits : Fits N) (n : ℕ) (notes : List (Option Note)) (noted : Noted N (grown N p q) n notes) where
    module _ (d : ℕ) (early : d < n) (x : Pos) (new : grown N p q (suc d) x ≡ true) (old : grown N p q d x ≡ false) where
      -- No binding from x leads to a place that was entered before round d.
      not_before : (k : ℕ) (b : Link) (m : Note) → slice_get N.bindings k ≡ Some b → b.from ≡ x.place → b.forwards x.setting ≡ true
          → note_of notes b.to ≡ Some m → m.round < d → ⊥
      not_before k b m listed from forwards is less =
          let ends = fits.ends k b listed in
          let y : Pos = pos b.to m.setting in
          let o = entering_out N (grown N p q m.round) b.to y (noted.entry b.to m ends.1 is).1 in
          let s : Step N x y = record { number = k; by = b; listed = listed; leaves = from; enters = refl; forwarded = forwards; within = record { place_in = ends.1; setting_in = o.1 } } in
          both_ways (grown N p q d x) old (grows (suc m.round) d x (omega arith) (steps_in m.round x (new_has d x old new) (y, s, o.2)))

      each_link : (k : ℕ) (b : Link) → slice_get N.bindings k ≡ Some b → by_link (noted_entry notes d) x b ≡ by_link (entering N (grown N p q d)) x b
      each_link k b listed = go (cases_Bool (eqb b.from x.place && b.forwards x.setting))
        where
          ends : (b.from < places N) × (b.to < places N)
          ends = fits.ends k b listed

          none : (o : Option Pos) → is_some o ≡ false → o ≡ None
          none None e = refl
          none (Some y) e = absurd (true≢false e)

          told : (o : Option Note) → note_of notes b.to ≡ o → is_some (entering N (grown N p q d) b.to) ≡ noted_by o d
          told o is = noted.by_then b.to d ends.1 early ∙ ap (λ (m : Option Note). noted_by m d) is

          at_note : eqb b.from x.place ≡ true → b.forwards x.setting ≡ true → (m : Note) → note_of notes b.to ≡ Some m
              → (leb m.round d ≡ true) ⊎ (leb m.round d ≡ false) → at_place b.to (setting_by d (Some m)) ≡ entering N (grown N p q d) b.to
          at_note from forwards m is (inr e) =
              ap (at_place b.to) (cond-false _ _ _ e) ∙ sym (none (entering N (grown N p q d) b.to) (told (Some m) is ∙ e))
          at_note from forwards m is (inl e) = ⊎_elim
              (λ s. ap (at_place b.to) (cond-true _ _ _ e) ∙ sym (noted.entry b.to m ends.1 is).1 ∙ ap (λ r. entering N (grown N p q r) b.to) s)
              (λ ne. absurd (not_before k b m listed (eqb-true b.from x.place from) forwards is (let l = leb-true m.round d e in omega arith)))
              (cases_eq m.round d)

          at : eqb b.from x.place ≡ true → b.forwards x.setting ≡ true → (o : Option Note) → note_of notes b.to ≡ o
              → at_place b.to (setting_by d o) ≡ entering N (grown N p q d) b.to
          at from forwards None is = sym (none (entering N (grown N p q d) b.to) (told None is))
          at from forwards (Some m) is = at_note from forwards m is (cases_Bool (leb m.round d))

          go : ((eqb b.from x.place && b.forwards x.setting) ≡ true) ⊎ ((eqb b.from x.place && b.forwards x.setting) ≡ false)
              → by_link (noted_entry notes d) x b ≡ by_link (entering N (grown N p q d)) x b
          go (inl e) =
              let both = and_parts (eqb b.from x.place) (b.forwards x.setting) e in
              cond-true _ _ _ e ∙ at both.0 both.1 (note_of notes b.to) refl ∙ sym (cond-true _ _ _ e)
          go (inr e) = cond-false _ _ _ e ∙ sym (cond-false _ _ _ e)

      -- The next noted position is the next one.
      noted_is : noted_next N notes d x ≡ next_in N (grown N p q d) x
      unfolding next_in
      noted_is = first_like (noted_entry notes d) (entering N (grown N p q d)) x N.bindings each_link ∙ sym (next_first N (grown N p q d) x N.bindings)

      -- The next position is new in the round before.
      next_new : (y : Pos) → next_in N (grown N p q d) x ≡ Some y → (grown N p q d y ≡ true) × ((e : ℕ) → suc e ≡ d → grown N p q e y ≡ false)
      next_new y e =
          let o = next_out N (grown N p q d) x fits y e in (
            o.1,
            λ k s. ⊎_elim
                (λ h. absurd (both_ways (grown N p q d x) old (subst (λ (j : ℕ). grown N p q j x ≡ true) s (steps_in k x (new_has d x old new) (y, o.0, h)))))
                (λ h. h)
                (cases_Bool (grown N p q k y)),
          )

    -- The way down by the notes is the way down.
    pub noted_walk : (d : ℕ) → d ≤ n → (x : Pos) → grown N p q d x ≡ true → ((e : ℕ) → suc e ≡ d → grown N p q e x ≡ false) → walk_noted N notes d x ≡ walk_until N p q d x
    unfolding walk_noted walk_until
    noted_walk zero l x new old = refl
    noted_walk (suc d) l x new old =
        ap (λ (o : Option Pos). x ∷ goes_on o (walk_noted N notes d)) (noted_is d (omega arith) x new (old d refl))
        ∙ go (next_in N (grown N p q d) x) (next_new d (omega arith) x new (old d refl)) (noted_walk d (omega arith))
      where
        go : (o : Option Pos) → ((y : Pos) → o ≡ Some y → (grown N p q d y ≡ true) × ((e : ℕ) → suc e ≡ d → grown N p q e y ≡ false))
            → ((y : Pos) → grown N p q d y ≡ true → ((e : ℕ) → suc e ≡ d → grown N p q e y ≡ false) → walk_noted N notes d y ≡ walk_until N p q d y)
            → (x ∷ goes_on o (walk_noted N notes d)) ≡ (x ∷ goes_on o (walk_until N p q d))
        go None new rest = refl
        go (Some y) new rest = let h = new y refl in ap (λ (ps : List Pos). x ∷ ps) (rest y h.0 h.1)

-- No notes yet.
pub noted_none : (N : Net) (T : ℕ → Pos → Bool) (notes : List (Option Note)) → ((t : ℕ) → t < places N → note_of notes t ≡ None) → Noted N T 0 notes
noted_none N T notes fresh = record {
  by_then = λ t j l k. absurd (omega arith);
  entry = λ t n l is. absurd (true≢false (sym (ap is_some (sym (fresh t l) ∙ is))));
}

-- The route of E[p U q], by its hops.
pub until_some : (N : Net) (p q : Pos → Bool) (x : Pos) (d : ℕ) → Some d ≡ least_from (suc (places N)) 0 (λ i. grown N p q i x)
    → chosen_until N p q x ≡ record { positions = walk_until N p q d x; ending = Reaches }
unfolding chosen_until
until_some N p q x d e = ap (λ (o : Option ℕ). record { positions = counted o (λ k. walk_until N p q k x); ending = Reaches }) (sym e)

pub until_none : (N : Net) (p q : Pos → Bool) (x : Pos) → None ≡ least_from (suc (places N)) 0 (λ i. grown N p q i x)
    → chosen_until N p q x ≡ record { positions = []; ending = Reaches }
unfolding chosen_until
until_none N p q x e = ap (λ (o : Option ℕ). record { positions = counted o (λ k. walk_until N p q k x); ending = Reaches }) (sym e)
