-- What the least number that passes, the position entered at a place and the next position are.
use Rattle.std.proofs.Common.{◌≡◌, ℕ, zero, suc, ◌+◌, ◌<◌, ◌≤◌, Bool, true, false, ◌&&◌, eqb, ◌⊎◌, List, [], ◌∷◌, Some, None, Option, sym, refl, ap, ◌∙◌, subst, inl, inr, arith}
use Rattle.std.specs.List.{slice_get}
use Rattle.std.proofs.lemmas.Bool.{cases_Bool, cases_eq, cond-true, cond-false, cond_both, false≢true, true≢false, and_parts, and_from, eqb-true, eq-eqb}
use Rattle.routing.specs.Net.{Link, Net, Pos, Within, Step, places, settings}
use Rattle.routing.specs.Routes.{SomeNext}
use Rattle.routing.specs.Bindings.{Fits, Inside}
use Rattle.judging.specs.Chosen.{least_from, pos, at_place, entering, or_next, next_by, next_in}

-- Where the first number passes it is the least, and else the least is one of the others.
least_here : (n a : ℕ) (f : ℕ → Bool) → f a ≡ true → least_from (suc n) a f ≡ Some a
unfolding least_from
least_here n a f t = cond-true (f a) (Some a) (least_from n (suc a) f) t

least_later : (n a : ℕ) (f : ℕ → Bool) → f a ≡ false → least_from (suc n) a f ≡ least_from n (suc a) f
unfolding least_from
least_later n a f t = cond-false (f a) (Some a) (least_from n (suc a) f) t

least_at : (n a : ℕ) (f : ℕ → Bool) (m : ℕ) → a ≤ m → m < a + n → f m ≡ true → ((b : ℕ) → a ≤ b → b < m → f b ≡ false) → least_from n a f ≡ Some m
least_at zero a f m l k t none = absurd (omega arith)
least_at (suc n) a f m l k t none = go (cases_eq a m) (λ j. least_at n (suc a) f m j (omega arith) t (λ b i c. none b (omega arith) c))
  where
    go : (a ≡ m) ⊎ (a ≡ m → ⊥) → (suc a ≤ m → least_from n (suc a) f ≡ Some m) → least_from (suc n) a f ≡ Some m
    go (inl e) r = least_here n a f (subst (λ (b : ℕ). f b ≡ true) (sym e) t) ∙ ap Some e
    go (inr d) r = least_later n a f (none a (omega arith) (omega arith)) ∙ r (omega arith)

least_no : (n a : ℕ) (f : ℕ → Bool) → ((b : ℕ) → a ≤ b → b < a + n → f b ≡ false) → least_from n a f ≡ None
unfolding least_from
least_no zero a f none = refl
least_no (suc n) a f none =
    least_later n a f (none a (omega arith) (omega arith)) ∙ least_no n (suc a) f (λ b i c. none b (omega arith) (omega arith))

abbrev Least : ℕ → ℕ → (ℕ → Bool) → ℕ → Type 0
Least n a f m = (a ≤ m) × (m < a + n) × (f m ≡ true) × ((b : ℕ) → a ≤ b → b < m → f b ≡ false)

least_found : (n a : ℕ) (f : ℕ → Bool) (m : ℕ) → least_from n a f ≡ Some m → Least n a f m
unfolding least_from
least_found zero a f m e = let z : ◌≡◌ {A = ℕ} 0 1 = cc in absurd (omega arith)
least_found (suc n) a f m e = go (cases_Bool (f a)) (least_found n (suc a) f m)
  where
    below : f a ≡ false → (r : Least n (suc a) f m) → (b : ℕ) → a ≤ b → b < m → (a ≡ b) ⊎ (a ≡ b → ⊥) → f b ≡ false
    below t r b i c (inl s) = subst (λ (k : ℕ). f k ≡ false) s t
    below t r b i c (inr d) = r.3 b (omega arith) c

    go : (f a ≡ true) ⊎ (f a ≡ false) → (least_from n (suc a) f ≡ Some m → Least n (suc a) f m) → Least (suc n) a f m
    go (inl t) r =
        let h = least_here n a f t in
        let s : a ≡ m = cc in
        (omega arith, omega arith, subst (λ (k : ℕ). f k ≡ true) s t, λ b i c. absurd (omega arith))
    go (inr t) r =
        let v = r (sym (least_later n a f t) ∙ e) in
        (omega (arith, v.0), omega (arith, v.1), v.2, λ b i c. below t v b i c (cases_eq a b))

passes_none : (n a : ℕ) (f : ℕ → Bool) → least_from n a f ≡ None → (b : ℕ) → a ≤ b → b < a + n → f b ≡ false
unfolding least_from
passes_none zero a f e b i l = absurd (omega arith)
passes_none (suc n) a f e b i l = go (cases_Bool (f a)) (cases_eq a b) (λ k. passes_none n (suc a) f k b)
  where
    go : (f a ≡ true) ⊎ (f a ≡ false) → (a ≡ b) ⊎ (a ≡ b → ⊥)
        → (least_from n (suc a) f ≡ None → suc a ≤ b → b < suc a + n → f b ≡ false) → f b ≡ false
    go (inl t) s r = let h = least_here n a f t in let z : ◌≡◌ {A = ℕ} 0 1 = cc in absurd (omega arith)
    go (inr t) (inl s) r = subst (λ (k : ℕ). f k ≡ false) s t
    go (inr t) (inr d) r = r (sym (least_later n a f t) ∙ e) (omega arith) (omega arith)

least_same : (n a : ℕ) (f g : ℕ → Bool) → ((b : ℕ) → b < a + n → f b ≡ g b) → least_from n a f ≡ least_from n a g
unfolding least_from
least_same zero a f g s = refl
least_same (suc n) a f g s =
    let h = s a (omega arith) in
    let r = least_same n (suc a) f g (λ b l. s b (omega arith)) in
    cc

-- The first number that passes is the least that passes.
pub least_is : (n : ℕ) (f : ℕ → Bool) (m : ℕ) → m < n → f m ≡ true → ((a : ℕ) → a < m → f a ≡ false) → least_from n 0 f ≡ Some m
least_is n f m l t none = least_at n 0 f m (omega arith) (omega arith) t (λ b _ c. none b c)

-- Where none passes there is none.
pub least_none : (n : ℕ) (f : ℕ → Bool) → ((a : ℕ) → a < n → f a ≡ false) → least_from n 0 f ≡ None
least_none n f none = least_no n 0 f (λ b _ c. none b (omega arith))

-- The least passes, and none below it.
pub least_out : (n : ℕ) (f : ℕ → Bool) (m : ℕ) → least_from n 0 f ≡ Some m → (m < n) × (f m ≡ true) × ((a : ℕ) → a < m → f a ≡ false)
least_out n f m e = let v = least_found n 0 f m e in (omega (arith, v.1), v.2, λ a l. v.3 a (omega arith) l)

-- There is a least where some number passes.
pub least_some : (n : ℕ) (f : ℕ → Bool) (a : ℕ) → a < n → f a ≡ true → (m : ℕ) × (least_from n 0 f ≡ Some m)
least_some n f a l t = go (least_from n 0 f) refl
  where
    go : (o : Option ℕ) → least_from n 0 f ≡ o → (m : ℕ) × (least_from n 0 f ≡ Some m)
    go (Some m) e = (m, e)
    go None e = absurd (false≢true (sym (passes_none n 0 f e a (omega arith) (omega arith)) ∙ t))

-- Sets that are alike in the network have the same position entered at each place ..
pub entering_like : (N : Net) (X Y : Pos → Bool) (t : ℕ) → t < places N → ((y : Pos) → Within N y → X y ≡ Y y) → entering N X t ≡ entering N Y t
unfolding entering
entering_like N X Y t l s =
    ap (at_place t) (least_same (settings N) 0 (λ a. X (pos t a)) (λ a. Y (pos t a)) (λ b c. s (pos t b) (record { place_in = l; setting_in = omega arith })))

next_by_like : (N : Net) (X Y : Pos → Bool) (x : Pos) (bs : List Link) → ((i : ℕ) (b : Link) → slice_get bs i ≡ Some b → Inside (places N) b)
    → ((y : Pos) → Within N y → X y ≡ Y y) → next_by N X x bs ≡ next_by N Y x bs
unfolding next_by
next_by_like N X Y x [] inside s = refl
next_by_like N X Y x (b ∷ bs) inside s =
    let h = entering_like N X Y b.to (inside 0 b refl).1 s in
    let r = next_by_like N X Y x bs (λ i c e. inside (suc i) c e) s in
    cc

-- .. and the same next position.
pub next_like : (N : Net) → Fits N → (X Y : Pos → Bool) (x : Pos) → ((y : Pos) → Within N y → X y ≡ Y y) → next_in N X x ≡ next_in N Y x
unfolding next_in
next_like N fits X Y x s = next_by_like N X Y x N.bindings fits.ends s

-- The position entered at a place is one of the set there ..
pub entering_out : (N : Net) (X : Pos → Bool) (t : ℕ) (y : Pos) → entering N X t ≡ Some y → (y.place ≡ t) × (y.setting < settings N) × (X y ≡ true)
unfolding entering
entering_out N X t y e = go (least_from (settings N) 0 (λ a. X (pos t a))) refl e
  where
    go : (o : Option ℕ) → least_from (settings N) 0 (λ a. X (pos t a)) ≡ o → at_place t o ≡ Some y
        → (y.place ≡ t) × (y.setting < settings N) × (X y ≡ true)
    go None h k = let z : ◌≡◌ {A = ℕ} 0 1 = cc in absurd (omega arith)
    go (Some a) h k =
        let v = least_out (settings N) (λ a. X (pos t a)) a h in
        let s : pos t a ≡ y = cc in (
          sym (ap (λ (y : Pos). y.place) s),
          subst (λ (y : Pos). y.setting < settings N) s v.0,
          subst (λ (y : Pos). X y ≡ true) s v.1,
        )

-- .. and there is one where the set has any.
pub entering_some : (N : Net) (X : Pos → Bool) (t a : ℕ) → a < settings N → X (pos t a) ≡ true → (y : Pos) × (entering N X t ≡ Some y)
unfolding entering
entering_some N X t a l h =
    let v = least_some (settings N) (λ a. X (pos t a)) a l h in
    (pos t v.0, ap (at_place t) v.1)

-- The binding can be taken from x.
abbrev taken : Pos → Link → Bool
taken x b = eqb b.from x.place && b.forwards x.setting

or_first : (o w : Option Pos) (y : Pos) → o ≡ Some y → or_next o w ≡ Some y
or_first (Some z) w y e = e
or_first None w y e = let z : ◌≡◌ {A = ℕ} 0 1 = cc in absurd (omega arith)

or_second : (o w : Option Pos) → o ≡ None → or_next o w ≡ w
or_second (Some z) w e = let z : ◌≡◌ {A = ℕ} 0 1 = cc in absurd (omega arith)
or_second None w e = refl

module _ (N : Net) (X : Pos → Bool) (x : Pos) (b : Link) (bs : List Link) where
  by_here : (y : Pos) → taken x b ≡ true → entering N X b.to ≡ Some y → next_by N X x (b ∷ bs) ≡ Some y
  unfolding next_by
  by_here y t e = or_first _ _ y (cond-true (taken x b) (entering N X b.to) None t ∙ e)

  by_later : (taken x b ≡ false) ⊎ (entering N X b.to ≡ None) → next_by N X x (b ∷ bs) ≡ next_by N X x bs
  unfolding next_by
  by_later (inl t) = or_second _ _ (cond-false (taken x b) (entering N X b.to) None t)
  by_later (inr e) = or_second _ _ (cond_both (taken x b) (entering N X b.to) None (λ o. o ≡ None) (λ _. e) (λ _. refl))

-- A binding of the list by which y is entered from x.
record By (N : Net) (X : Pos → Bool) (x y : Pos) (bs : List Link) : Type 0 where
  number : ℕ
  link : Link
  listed : slice_get bs number ≡ Some link
  goes : taken x link ≡ true
  enters : entering N X link.to ≡ Some y

module _ (N : Net) (X : Pos → Bool) (x : Pos) where
  by_out : (bs : List Link) (y : Pos) → next_by N X x bs ≡ Some y → By N X x y bs
  unfolding next_by
  by_out [] y e = let z : ◌≡◌ {A = ℕ} 0 1 = cc in absurd (omega arith)
  by_out (b ∷ bs) y e = go (cases_Bool (taken x b)) (entering N X b.to) refl (by_out bs y)
    where
      later : (taken x b ≡ false) ⊎ (entering N X b.to ≡ None) → (next_by N X x bs ≡ Some y → By N X x y bs) → By N X x y (b ∷ bs)
      later h r =
          let v = r (sym (by_later N X x b bs h) ∙ e) in
          record { number = suc v.number; link = v.link; listed = v.listed; goes = v.goes; enters = v.enters }

      go : (taken x b ≡ true) ⊎ (taken x b ≡ false) → (o : Option Pos) → entering N X b.to ≡ o
          → (next_by N X x bs ≡ Some y → By N X x y bs) → By N X x y (b ∷ bs)
      go (inr t) o h r = later (inl t) r
      go (inl t) None h r = later (inr h) r
      go (inl t) (Some z) h r =
          let k = by_here N X x b bs z t h in
          let s : z ≡ y = cc in
          record { number = 0; link = b; listed = refl; goes = t; enters = h ∙ ap Some s }

  by_none : (bs : List Link) → next_by N X x bs ≡ None → (y : Pos) → By N X x y bs → ⊥
  by_none [] e y v = let h = v.listed in let z : ◌≡◌ {A = ℕ} 0 1 = cc in absurd (omega arith)
  by_none (b ∷ bs) e y v = go v.number v.listed (cases_Bool (taken x b)) (entering N X b.to) refl (by_none bs)
    where
      later : (i : ℕ) → slice_get (b ∷ bs) i ≡ Some v.link → (taken x b ≡ false) ⊎ (entering N X b.to ≡ None)
          → (next_by N X x bs ≡ None → (y : Pos) → By N X x y bs → ⊥) → ⊥
      later zero l (inl t) r = let s : b ≡ v.link = cc in let g = v.goes in let z : true ≡ false = cc in true≢false z
      later zero l (inr h) r =
          let s : b ≡ v.link = cc in let g = v.enters in let z : ◌≡◌ {A = ℕ} 0 1 = cc in absurd (omega arith)
      later (suc i) l h r =
          r (sym (by_later N X x b bs h) ∙ e) y (record { number = i; link = v.link; listed = l; goes = v.goes; enters = v.enters })

      go : (i : ℕ) → slice_get (b ∷ bs) i ≡ Some v.link → (taken x b ≡ true) ⊎ (taken x b ≡ false) → (o : Option Pos) → entering N X b.to ≡ o
          → (next_by N X x bs ≡ None → (y : Pos) → By N X x y bs → ⊥) → ⊥
      go i l (inr t) o h r = later i l (inl t) r
      go i l (inl t) None h r = later i l (inr h) r
      go i l (inl t) (Some z) h r =
          let k = by_here N X x b bs z t h in let z : ◌≡◌ {A = ℕ} 0 1 = cc in absurd (omega arith)

  -- The next position is one step on, in the set, and the one entered at its place.
  pub next_out : Fits N → (y : Pos) → next_in N X x ≡ Some y → Step N x y × (X y ≡ true) × (entering N X y.place ≡ Some y)
  unfolding next_in
  next_out fits y e =
      let v = by_out N.bindings y e in
      let t = and_parts (eqb v.link.from x.place) (v.link.forwards x.setting) v.goes in
      let w = entering_out N X v.link.to y v.enters in (
        record {
          number = v.number;
          by = v.link;
          listed = v.listed;
          leaves = eqb-true v.link.from x.place t.0;
          enters = sym w.0;
          forwarded = t.1;
          within = record { place_in = subst (λ (k : ℕ). k < places N) (sym w.0) (fits.ends v.number v.link v.listed).1; setting_in = w.1 };
        },
        w.2,
        ap (entering N X) w.0 ∙ v.enters,
      )

  next_missing : SomeNext N (λ y. X y ≡ true) x → next_in N X x ≡ None → ⊥
  unfolding next_in
  next_missing (y, s, h) e =
      let v = entering_some N X s.by.to y.setting s.within.setting_in
      (subst (λ (t : ℕ). X (pos t y.setting) ≡ true) (sym s.enters) h) in
      by_none N.bindings e v.0 (record {
        number = s.number;
        link = s.by;
        listed = s.listed;
        goes = and_from _ _ (eq-eqb s.by.from x.place s.leaves) s.forwarded;
        enters = v.1;
      })

  -- There is a next position, or no step leads into the set.
  pub next_told : ((y : Pos) × (next_in N X x ≡ Some y)) ⊎ ((next_in N X x ≡ None) × (¬ (SomeNext N (λ y. X y ≡ true) x)))
  next_told = go (next_in N X x) refl
    where
      go : (o : Option Pos) → next_in N X x ≡ o → ((y : Pos) × (next_in N X x ≡ Some y)) ⊎ ((next_in N X x ≡ None) × (¬ (SomeNext N (λ y. X y ≡ true) x)))
      go (Some y) e = inl (y, e)
      go None e = inr (e, λ s. next_missing s e)

  -- There is a next position where some step leads into the set.
  pub next_some : SomeNext N (λ y. X y ≡ true) x → (y : Pos) × (next_in N X x ≡ Some y)
  next_some s = go next_told
    where
      go : ((y : Pos) × (next_in N X x ≡ Some y)) ⊎ ((next_in N X x ≡ None) × (¬ (SomeNext N (λ y. X y ≡ true) x))) → (y : Pos) × (next_in N X x ≡ Some y)
      go (inl v) = v
      go (inr v) = absurd (v.1 s)
