-- Lists of own bindings and of links.
use Rattle.std.proofs.Common.{◌≡◌, ◌≢◌, ℕ, zero, suc, ◌+◌, ◌-◌, ◌<◌, ◌≤◌, true, ◌&&◌, ltb, List, [], ◌∷◌, ◌++◌, map, length, slice_get, remove, Some, None, Option, refl, ap, sym, ◌∙◌, subst, arith, add-one, length-append}
use Rattle.std.proofs.lemmas.List.{length-map}
use Rattle.std.proofs.lemmas.Bool.{and_parts, ltb-true}
use Rattle.std.specs.Option.{MatchOption, IfSome}
use Rattle.conditions.specs.declared.set.ConditionSet.{Ghosts}
use Rattle.routing.specs.Net.{Link}
use Rattle.paper.specs.declared.own.OwnBinding.{OwnBinding}
use Rattle.paper.specs.Own.{own_link, reconditioned}
use Rattle.board.specs.declared.own.KeptBinding.{KeptBinding}
use Rattle.board.specs.Entries.{bindings_of, kept_binding}
use Rattle.board.specs.Possible.{ends_inside}

-- There are as many own bindings as entries, and each is that of its entry.
pub length_kept : {S : Type 0} {s : Ghosts S} (es : List (KeptBinding S s)) → length (bindings_of es) ≡ length es
length_kept [] = refl
length_kept (e ∷ es) = ap suc (length_kept es)

pub kept_get : {S : Type 0} {s : Ghosts S} (es : List (KeptBinding S s)) (i : ℕ) → kept_binding (slice_get es i) ≡ slice_get (bindings_of es) i
kept_get [] i = refl
kept_get (e ∷ es) zero = refl
kept_get (e ∷ es) (suc i) = kept_get es i

-- One own binding more: it is the last, and the others stay.
pub added_at : (own : List OwnBinding) (b : OwnBinding) → slice_get (own ++ b ∷ []) (length own) ≡ Some b
added_at [] b = refl
added_at (o ∷ os) b = added_at os b

pub added_other : (own : List OwnBinding) (b : OwnBinding) (k : ℕ) → k ≢ length own → slice_get (own ++ b ∷ []) k ≡ slice_get own k
added_other [] b zero ne = absurd (ne refl)
added_other [] b (suc k) ne = refl
added_other (o ∷ os) b zero ne = refl
added_other (o ∷ os) b (suc k) ne = added_other os b k (λ e. ne (ap suc e))

-- One less: those behind it move down, and the others stay.
pub removed_other : (own : List OwnBinding) (i k : ℕ) → k < i → slice_get (remove own i) k ≡ slice_get own k
removed_other own zero k lt = absurd (omega arith)
removed_other [] (suc i) k lt = refl
removed_other (o ∷ os) (suc i) zero lt = refl
removed_other (o ∷ os) (suc i) (suc k) lt = removed_other os i k (omega arith)

moved_down : (own : List OwnBinding) (i k : ℕ) → i ≤ k → slice_get (remove own i) k ≡ slice_get own (suc k)
moved_down [] zero k le = refl
moved_down [] (suc i) k le = refl
moved_down (o ∷ os) zero k le = refl
moved_down (o ∷ os) (suc i) zero le = absurd (omega arith)
moved_down (o ∷ os) (suc i) (suc k) le = moved_down os i k (omega arith)

pub removed_behind : (own : List OwnBinding) (i k : ℕ) → i ≤ k → slice_get (remove own i) k ≡ slice_get own (k + 1)
removed_behind own i k le = rw add-one (moved_down own i k le)

-- One with other numbers: the others stay.
pub length_reconditioned : (i on off : ℕ) (own : List OwnBinding) → length (reconditioned i on off own) ≡ length own
length_reconditioned i on off [] = refl
length_reconditioned zero on off (b ∷ bs) = refl
length_reconditioned (suc i) on off (b ∷ bs) = ap suc (length_reconditioned i on off bs)

pub reconditioned_at : (i on off : ℕ) (own : List OwnBinding) (b : OwnBinding) → slice_get own i ≡ Some b
    → slice_get (reconditioned i on off own) i ≡ Some (record { from = b.from; to = b.to; on = on; off = off })
reconditioned_at i on off [] b e = let z : ◌≡◌ {A = ℕ} 0 1 = cc in absurd (omega arith)
reconditioned_at zero on off (o ∷ os) b e = let same : o ≡ b = cc in ap (λ v. Some (record { from = v.from; to = v.to; on = on; off = off })) same
reconditioned_at (suc i) on off (o ∷ os) b e = reconditioned_at i on off os b e

pub reconditioned_other : (i on off : ℕ) (own : List OwnBinding) (k : ℕ) → k ≢ i → slice_get (reconditioned i on off own) k ≡ slice_get own k
reconditioned_other i on off [] k ne = refl
reconditioned_other zero on off (b ∷ bs) zero ne = absurd (ne refl)
reconditioned_other zero on off (b ∷ bs) (suc k) ne = refl
reconditioned_other (suc i) on off (b ∷ bs) zero ne = refl
reconditioned_other (suc i) on off (b ∷ bs) (suc k) ne = reconditioned_other i on off bs k (λ e. ne (ap suc e))

pub reconditioned_none : (i on off : ℕ) (own : List OwnBinding) (k : ℕ) → slice_get own k ≡ None → slice_get (reconditioned i on off own) k ≡ None
reconditioned_none i on off [] k e = refl
reconditioned_none zero on off (b ∷ bs) zero e = let z : ◌≡◌ {A = ℕ} 0 1 = cc in absurd (omega arith)
reconditioned_none zero on off (b ∷ bs) (suc k) e = e
reconditioned_none (suc i) on off (b ∷ bs) zero e = let z : ◌≡◌ {A = ℕ} 0 1 = cc in absurd (omega arith)
reconditioned_none (suc i) on off (b ∷ bs) (suc k) e = reconditioned_none i on off bs k e

-- Beyond the last there is none.
pub none_past : {X : Type 0} (xs : List X) (n : ℕ) → slice_get xs n ≡ None → length xs ≤ n
none_past [] n e = omega arith
none_past (x ∷ xs) zero e = let z : ◌≡◌ {A = ℕ} 0 1 = cc in absurd (omega arith)
none_past (x ∷ xs) (suc n) e = let rest = none_past xs n e in omega (arith, rest)

-- The links of own bindings in front of others.
pub link_own : (K : ℕ) (own : List OwnBinding) (far : List Link) (n : ℕ) (b : OwnBinding) → slice_get own n ≡ Some b
    → slice_get (map (own_link K) own ++ far) n ≡ Some (own_link K b)
link_own K [] far n b e = let z : ◌≡◌ {A = ℕ} 0 1 = cc in absurd (omega arith)
link_own K (o ∷ os) far zero b e = let same : o ≡ b = cc in ap (λ v. Some (own_link K v)) same
link_own K (o ∷ os) far (suc n) b e = link_own K os far n b e

behind : (K : ℕ) (own : List OwnBinding) (far : List Link) (m n : ℕ) → n ≡ length own + m → slice_get (map (own_link K) own ++ far) n ≡ slice_get far m
behind K [] far m n e = let same : n ≡ m = omega arith in ap (slice_get far) same
behind K (o ∷ os) far m zero e = absurd (omega arith)
behind K (o ∷ os) far m (suc n) e = behind K os far m n (omega arith)

pub link_far : (K : ℕ) (own : List OwnBinding) (far : List Link) (n : ℕ) → length own ≤ n
    → slice_get (map (own_link K) own ++ far) n ≡ slice_get far (n - length own)
link_far K own far n le = behind K own far (n - length own) n (omega arith)

pub length_links : (K : ℕ) (own : List OwnBinding) (far : List Link) → length (map (own_link K) own ++ far) ≡ length own + length far
length_links K own far = grind (arith, length-append (map (own_link K) own) far, length-map own (own_link K))

-- The ends of each own binding are among the places.
pub ends_of : (n : ℕ) (own : List OwnBinding) (i : ℕ) (b : OwnBinding) → ends_inside n own ≡ true → slice_get own i ≡ Some b → (b.from < n) × (b.to < n)
ends_of n [] i b all e = let z : ◌≡◌ {A = ℕ} 0 1 = cc in absurd (omega arith)
ends_of n (o ∷ os) zero b all e =
    let here = (and_parts (ltb o.from n && ltb o.to n) (ends_inside n os) all).0 in
    let ends = and_parts (ltb o.from n) (ltb o.to n) here in
    let same : o ≡ b = cc in
    rw (← same) (ltb-true o.from n ends.0, ltb-true o.to n ends.1)
ends_of n (o ∷ os) (suc i) b all e = ends_of n os i b (and_parts (ltb o.from n && ltb o.to n) (ends_inside n os) all).1 e

-- What is known of an answer gives what is to be shown of it.
pub match_with : {X : Type 0} (o : Option X) {P P' : Type 0} {Q Q' : X → Type 0} → (P → P') → ((x : X) → Q x → Q' x) → MatchOption o P Q → MatchOption o P' Q'
match_with None f h m = f m
match_with (Some x) f h m = h x m

pub some_with : {X : Type 0} (o : Option X) {Q Q' : X → Type 0} → ((x : X) → Q x → Q' x) → IfSome o Q → IfSome o Q'
some_with None h m = m
some_with (Some x) h m = h x m

-- An answer about a far binding, at its number behind the own ones.
pub far_answer : {X : Type 0} (K : ℕ) (own : List OwnBinding) (far : List Link) (count i n : ℕ) (o : Option X) (link : X → Link)
    → length own ≤ n → length own ≡ i → length far ≡ count
    → MatchOption o (count ≤ n - i) (λ x. slice_get far (n - i) ≡ Some (link x))
    → MatchOption o (length (map (own_link K) own ++ far) ≤ n) (λ x. slice_get (map (own_link K) own ++ far) n ≡ Some (link x))
far_answer K own far count i n o link le is far_is m =
    match_with o (λ past. let all = length_links K own far in omega arith)
    (λ x e. link_far K own far n le ∙ subst (λ j. slice_get far (n - j) ≡ Some (link x)) (sym is) e) m
