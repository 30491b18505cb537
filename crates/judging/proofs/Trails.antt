-- Lists of positions that grow at an end, and how long they can get.
use Rattle.std.proofs.Common.{◌≡◌, ℕ, zero, suc, ◌+◌, ◌-◌, ◌<◌, ◌≤◌, true, false, cond, eqb, ◌⊎◌, List, [], ◌∷◌, ◌++◌, length, get_or, Some, None, Option, sym, refl, ap, ◌∙◌, subst, inl, inr, not-suc-le-zero, arith}
use Rattle.std.specs.List.{slice_get}
use Rattle.std.proofs.lemmas.Option.{slice_get-get_or}
use Rattle.std.proofs.lemmas.Bool.{cases_Bool, cond-true, cond-false, and_parts, and_from, eqb-true, eq-eqb, true≢false}
use Rattle.std.proofs.lemmas.Bool.Decides.{nat_tests}
use Rattle.routing.specs.Net.{Net, Pos, Within, Step, places}
use Rattle.std.proofs.lemmas.Option.{slice_get_within}
use Rattle.judging.specs.Chosen.{pos, same_pos, one_later, index_of}

-- Each position is joined to the next by a step.
abbrev pub Joined : Net → List Pos → Type 0
Joined N ps = (i : ℕ) (a b : Pos) → slice_get ps i ≡ Some a → slice_get ps (suc i) ≡ Some b → Step N a b

-- No position stands at two numbers.
abbrev pub Different : List Pos → Type 0
Different ps = (i j : ℕ) (a : Pos) → slice_get ps i ≡ Some a → slice_get ps j ≡ Some a → i ≡ j

-- What a list has at a number it has with more at its end.
pub nth_more : (ps : List Pos) (x : Pos) (i : ℕ) (a : Pos) → slice_get ps i ≡ Some a → slice_get (ps ++ x ∷ []) i ≡ Some a
nth_more [] x i a e = let z : ◌≡◌ {A = ℕ} 0 1 = cc in absurd (omega arith)
nth_more (p ∷ ps) x zero a e = e
nth_more (p ∷ ps) x (suc i) a e = nth_more ps x i a e

-- The position put at the end is the last.
pub nth_end : (ps : List Pos) (x : Pos) → slice_get (ps ++ x ∷ []) (length ps) ≡ Some x
nth_end [] x = refl
nth_end (p ∷ ps) x = nth_end ps x

-- What the longer list has at a number: what the list has, or the one at its end.
pub nth_either : (ps : List Pos) (x : Pos) (i : ℕ) (a : Pos) → slice_get (ps ++ x ∷ []) i ≡ Some a → (slice_get ps i ≡ Some a) ⊎ ((i ≡ length ps) × (a ≡ x))
nth_either [] x zero a e = inr (refl, cc)
nth_either [] x (suc i) a e = let z : ◌≡◌ {A = ℕ} 0 1 = cc in absurd (omega arith)
nth_either (p ∷ ps) x zero a e = inl e
nth_either (p ∷ ps) x (suc i) a e = go (nth_either ps x i a e)
  where
    go : (slice_get ps i ≡ Some a) ⊎ ((i ≡ length ps) × (a ≡ x)) → (slice_get ps i ≡ Some a) ⊎ ((suc i ≡ suc (length ps)) × (a ≡ x))
    go (inl h) = inl h
    go (inr h) = inr (ap suc h.0, h.1)

-- The longer list has P at each number where the list has it, and its end has it.
pub each_more : (P : ℕ → Pos → Type 0) (ps : List Pos) (x : Pos) → ((i : ℕ) (a : Pos) → slice_get ps i ≡ Some a → P i a) → P (length ps) x
    → (i : ℕ) (a : Pos) → slice_get (ps ++ x ∷ []) i ≡ Some a → P i a
each_more P ps x f h i a e = go (nth_either ps x i a e)
  where
    go : (slice_get ps i ≡ Some a) ⊎ ((i ≡ length ps) × (a ≡ x)) → P i a
    go (inl k) = f i a k
    go (inr k) = subst (λ (j : ℕ). P j a) (sym k.0) (subst (P (length ps)) (sym k.1) h)

-- A position with a step from the last one can be put at the end.
pub joined_more : (N : Net) (ps : List Pos) (x : Pos) → Joined N ps → ((a : Pos) → slice_get ps (length ps - 1) ≡ Some a → Step N a x) → Joined N (ps ++ x ∷ [])
joined_more N ps x f s i a b e g = go (nth_either ps x i a e) (nth_either ps x (suc i) b g)
  where
    go : (slice_get ps i ≡ Some a) ⊎ ((i ≡ length ps) × (a ≡ x)) → (slice_get ps (suc i) ≡ Some b) ⊎ ((suc i ≡ length ps) × (b ≡ x)) → Step N a b
    go (inl h) (inl k) = f i a b h k
    go (inl h) (inr k) =
        let l : i ≡ length ps - 1 = omega (arith, k.0) in
        subst (Step N a) (sym k.1) (s a (subst (λ (j : ℕ). slice_get ps j ≡ Some a) l h))
    go (inr h) (inl k) = absurd (omega (arith, h.0, slice_get_within ps (suc i) b k))
    go (inr h) (inr k) = absurd (omega (arith, h.0, k.0))

-- A position that is not in the list can be put at its end.
pub different_more : (ps : List Pos) (x : Pos) → Different ps → ((i : ℕ) → slice_get ps i ≡ Some x → ⊥) → Different (ps ++ x ∷ [])
different_more ps x f n i j a e g = go (nth_either ps x i a e) (nth_either ps x j a g)
  where
    go : (slice_get ps i ≡ Some a) ⊎ ((i ≡ length ps) × (a ≡ x)) → (slice_get ps j ≡ Some a) ⊎ ((j ≡ length ps) × (a ≡ x)) → i ≡ j
    go (inl h) (inl k) = f i j a h k
    go (inl h) (inr k) = absurd (n i (h ∙ ap Some k.1))
    go (inr h) (inl k) = absurd (n j (k ∙ ap Some h.1))
    go (inr h) (inr k) = h.0 ∙ sym k.0

-- Positions are the same where their places and settings are.
pub same_pos_is : (x y : Pos) → same_pos x y ≡ true → x ≡ y
same_pos_is x y t =
    let v = and_parts (eqb x.place y.place) (eqb x.setting y.setting) t in
    ap (λ (k : ℕ). pos k x.setting) (eqb-true x.place y.place v.0) ∙ ap (pos y.place) (eqb-true x.setting y.setting v.1)

-- A position is the same as itself.
pub same_pos_self : (x : Pos) → same_pos x x ≡ true
same_pos_self x = and_from _ _ (eq-eqb x.place x.place refl) (eq-eqb x.setting x.setting refl)

one_later_some : (o : Option ℕ) (i : ℕ) → one_later o ≡ Some i → (j : ℕ) × (o ≡ Some j) × (i ≡ suc j)
one_later_some None i e = let z : ◌≡◌ {A = ℕ} 0 1 = cc in absurd (omega arith)
one_later_some (Some j) i e = (j, refl, cc)

one_later_none : (o : Option ℕ) → one_later o ≡ None → o ≡ None
one_later_none None e = refl
one_later_none (Some j) e = let z : ◌≡◌ {A = ℕ} 0 1 = cc in absurd (omega arith)

-- The position stands at the number that is found ..
pub index_out : (x : Pos) (ps : List Pos) (i : ℕ) → index_of x ps ≡ Some i → slice_get ps i ≡ Some x
unfolding index_of
index_out x [] i e = let z : ◌≡◌ {A = ℕ} 0 1 = cc in absurd (omega arith)
index_out x (p ∷ ps) i e = go (cases_Bool (same_pos x p)) (index_out x ps) e
  where
    go : (same_pos x p ≡ true) ⊎ (same_pos x p ≡ false) → ((j : ℕ) → index_of x ps ≡ Some j → slice_get ps j ≡ Some x)
        → cond (same_pos x p) (Some 0) (one_later (index_of x ps)) ≡ Some i → slice_get (p ∷ ps) i ≡ Some x
    go (inl t) r k =
        let h : ◌≡◌ {A = Option ℕ} (cond (same_pos x p) (Some 0) (one_later (index_of x ps))) (Some 0) = cond-true (same_pos x p) (Some 0) (one_later (index_of x ps)) t in
        let s : i ≡ 0 = cc in
        subst (λ (j : ℕ). slice_get (p ∷ ps) j ≡ Some x) (sym s) (ap Some (sym (same_pos_is x p t)))
    go (inr t) r k =
        let v = one_later_some (index_of x ps) i (sym (cond-false (same_pos x p) (Some 0) (one_later (index_of x ps)) t) ∙ k) in
        subst (λ (j : ℕ). slice_get (p ∷ ps) j ≡ Some x) (sym v.2) (r v.0 v.1)

-- .. and where none is found the position is not in the list.
pub index_none : (x : Pos) (ps : List Pos) → index_of x ps ≡ None → (i : ℕ) → slice_get ps i ≡ Some x → ⊥
unfolding index_of
index_none x [] e i h = let z : ◌≡◌ {A = ℕ} 0 1 = cc in absurd (omega arith)
index_none x (p ∷ ps) e i h = go (cases_Bool (same_pos x p)) (index_none x ps) e i h
  where
    go : (same_pos x p ≡ true) ⊎ (same_pos x p ≡ false) → (index_of x ps ≡ None → (j : ℕ) → slice_get ps j ≡ Some x → ⊥)
        → cond (same_pos x p) (Some 0) (one_later (index_of x ps)) ≡ None → (j : ℕ) → slice_get (p ∷ ps) j ≡ Some x → ⊥
    go (inl t) r k j g =
        let h = cond-true (same_pos x p) (Some 0) (one_later (index_of x ps)) t in
        let z : ◌≡◌ {A = ℕ} 0 1 = cc in
        absurd (omega arith)
    go (inr t) r k zero g = let s : p ≡ x = cc in true≢false (sym (subst (λ (y : Pos). same_pos x y ≡ true) (sym s) (same_pos_self x)) ∙ t)
    go (inr t) r k (suc j) g = r (one_later_none (index_of x ps) (sym (cond-false (same_pos x p) (Some 0) (one_later (index_of x ps)) t) ∙ k)) j g

-- Number n gives way to v.
abbrev moved : ℕ → ℕ → ℕ → ℕ
moved n v k = cond (eqb k n) v k

moved_below : (n v k : ℕ) → v < suc n → k < suc n → (k ≡ v → ⊥) → moved n v k < n
moved_below n v k a b d = grind (arith, nat_tests)

moved_back : (n v k l : ℕ) → (k ≡ v → ⊥) → (l ≡ v → ⊥) → moved n v k ≡ moved n v l → k ≡ l
moved_back n v k l a b e = grind (arith, nat_tests)

-- There are at most n different numbers below n.
pub no_more : (n m : ℕ) (f : ℕ → ℕ) → ((i : ℕ) → i < m → f i < n) → ((i j : ℕ) → i < m → j < m → f i ≡ f j → i ≡ j) → m ≤ n
no_more n zero f low apart = omega arith
no_more zero (suc m) f low apart = absurd (not-suc-le-zero (low m (omega arith)))
no_more (suc n) (suc m) f low apart =
    let r = no_more n m (λ i. moved n (f m) (f i)) (λ i l. moved_below n (f m) (f i) (low m (omega arith)) (low i (omega arith)) (other i l))
    (λ i j l k e. apart i j (omega arith) (omega arith) (moved_back n (f m) (f i) (f j) (other i l) (other j k) e)) in
    omega arith
  where
    other : (i : ℕ) → i < m → f i ≡ f m → ⊥
    other i l e = let s = apart i m (omega arith) (omega arith) e in omega arith

-- Different positions of the network, each after the first the only one of them that there can be at its place: no more than there are places and one.
pub few_different : (N : Net) (x : Pos) (ps : List Pos) (entry : ℕ → Option Pos) → Different ps
    → ((i : ℕ) (a : Pos) → slice_get ps i ≡ Some a → Within N a) → ((i : ℕ) (a : Pos) → slice_get ps (suc i) ≡ Some a → entry a.place ≡ Some a)
    → length ps ≤ places N + 1
few_different N x ps entry apart within entered =
    let r = no_more (places N) (length ps - 1) (λ i. (at i).place)
    (λ i l. (within (suc i) (at i) (there i l)).place_in)
    (λ i j l k e. (let s = apart (suc i) (suc j) (at i) (there i l) (there j k ∙ same i j l k e) in omega arith)) in
    omega arith
  where
    at : ℕ → Pos
    at i = get_or ps (suc i) x

    there : (i : ℕ) → i < length ps - 1 → slice_get ps (suc i) ≡ Some (at i)
    there i l = slice_get-get_or ps (suc i) x (omega arith)

    same : (i j : ℕ) → i < length ps - 1 → j < length ps - 1 → (at i).place ≡ (at j).place → Some (at j) ≡ Some (at i)
    same i j l k e = sym (entered j (at j) (there j k)) ∙ (ap entry (sym e) ∙ entered i (at i) (there i l))
