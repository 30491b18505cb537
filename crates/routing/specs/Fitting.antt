-- Networks keep to their limits: what the implementations of `Network` give for `fits`. Proved facts, no definitions.
use Rattle.std.specs.Prelude.{◌≡◌, ℕ, zero, suc, ◌≤◌, Bool, true, ◌&&◌, List, [], ◌∷◌, map, length, Some, nat_lt, refl}
use Rattle.std.proofs.Common.{ap, subst, arith}
use Rattle.std.specs.List.{slice_get}
use Rattle.std.proofs.lemmas.Bool.{and_parts, ltb-true}
use Rattle.routing.specs.declared.binding.Binding.{Binding}
use Rattle.routing.specs.Net.{Link}
use Rattle.routing.specs.Bindings.{linked, net_of, Inside, Fits}
use Rattle.routing.specs.Refusals.{all_inside}

-- A list of links has the length of its records.
pub length_links : {S : Type 0} (holds : S → ℕ → Bool) (records : List (Binding S)) → length (map (linked holds) records) ≡ length records
length_links holds [] = refl
length_links holds (b ∷ bs) = ap suc (length_links holds bs)

-- The link at a number is that of the record there.
pub nth_link : {S : Type 0} (holds : S → ℕ → Bool) (records : List (Binding S)) (i : ℕ) (b : Binding S)
    → slice_get records i ≡ Some b → slice_get (map (linked holds) records) i ≡ Some (linked holds b)
nth_link holds [] i b e = let z : ◌≡◌ {A = ℕ} 0 1 = cc in absurd (omega arith)
nth_link holds (c ∷ bs) zero b e = let same : c ≡ b = cc in ap (λ v. Some (linked holds v)) same
nth_link holds (c ∷ bs) (suc i) b e = nth_link holds bs i b e

-- Where all records have their ends among n places, so has each link.
pub link_inside : {S : Type 0} (holds : S → ℕ → Bool) (n : ℕ) (records : List (Binding S)) → all_inside n records ≡ true
    → (i : ℕ) (l : Link) → slice_get (map (linked holds) records) i ≡ Some l → Inside n l
link_inside holds n [] all i l e = let z : ◌≡◌ {A = ℕ} 0 1 = cc in absurd (omega arith)
link_inside holds n (b ∷ bs) all zero l e =
    let here = (and_parts (nat_lt b.from n && nat_lt b.to n) (all_inside n bs) all).0 in
    let ends = and_parts (nat_lt b.from n) (nat_lt b.to n) here in
    let same : linked holds b ≡ l = cc in
    subst (Inside n) same (ltb-true b.from n ends.0, ltb-true b.to n ends.1)
link_inside holds n (b ∷ bs) all (suc i) l e =
    link_inside holds n bs (and_parts (nat_lt b.from n && nat_lt b.to n) (all_inside n bs) all).1 i l e

-- The network with no places.
pub empty_fits : {S : Type 0} (K : ℕ) (holds : S → ℕ → Bool) → Fits (net_of K holds [] [])
empty_fits K holds = record {
  few_places = omega arith;
  few_bindings = omega arith;
  ends = λ i b e. let z : ◌≡◌ {A = ℕ} 0 1 = cc in absurd (omega arith);
}

-- The network of marks and records within the limits.
pub lists_fit : {S : Type 0} (K : ℕ) (holds : S → ℕ → Bool) (marks : List ℕ) (records : List (Binding S))
    → length marks ≤ 256 → length records ≤ 4096 → all_inside (length marks) records ≡ true → Fits (net_of K holds marks records)
lists_fit K holds marks records few_marks few_records inside = record {
  few_places = few_marks;
  few_bindings = rw (length_links holds records) few_records;
  ends = link_inside holds (length marks) records inside;
}
