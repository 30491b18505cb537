use Rattle.std.proofs.Common.{◌≡◌, ℕ, ◌≤◌, Bool, true, ltb, List, length, map, get_or, slice_get, is_some, Some, None, Option, IfSome, MatchOption, sym, refl, ltb-false}
use Rattle.std.specs.Borrow.{Bor}
use Rattle.std.specs.Option.{option_copied}
use Rattle.std.proofs.lemmas.Bool.{ltb-true}
use Rattle.std.proofs.lemmas.Option.{slice_get_read}
use Rattle.routing.specs.declared.binding.Binding.{Binding}
use Rattle.routing.specs.Bindings.{linked, Inside}
use Rattle.routing.specs.Refusals.{all_inside}
use Rattle.routing.specs.Fitting.{length_links, nth_link, link_inside}
use Rattle.routing.proofs.site.table.SiteTableNetwork.binding.Goals as goal

-- The record that is lent at a number, if there is one, has its ends inside.
ends_of : {S : Type 0} (holds : S → ℕ → Bool) (n : ℕ) (records : List (Binding S)) → all_inside n records ≡ true → (i : ℕ) (r : Option (Bor (Binding S)))
    → is_some r ≡ ltb i (length records) → IfSome r (λ b. b.now ≡ get_or records i b.now) → IfSome (option_copied r) (λ b. Inside n (linked holds b))
ends_of holds n records all i None some read = tt
ends_of holds n records all i (Some b) some read =
    link_inside holds n records all i _ (nth_link holds records i b.now (slice_get_read records _ i b.now refl (ltb-true i _ (sym some)) read))

pub returns-clause-ends : goal.returns-clause-ends
returns-clause-ends g c =
    let t = c.args.self.now in
    let l = c.get.ensures.lookup in
    rw c.copied.ensures (ends_of g.S.ConditionSet.holds _ t.records.now t.ends c.args.number c.get.result l.0 l.1)

-- The record that is lent at a number is that of the link there; there is none exactly beyond the last link.
value_of : {S : Type 0} (holds : S → ℕ → Bool) (records : List (Binding S)) (i : ℕ) (r : Option (Bor (Binding S)))
    → is_some r ≡ ltb i (length records) → IfSome r (λ b. b.now ≡ get_or records i b.now)
    → MatchOption (option_copied r) (length (map (linked holds) records) ≤ i) (λ b. slice_get (map (linked holds) records) i ≡ Some (linked holds b))
value_of holds records i None some read = rw (length_links holds records) (ltb-false i _ (sym some))
value_of holds records i (Some b) some read = nth_link holds records i b.now (slice_get_read records _ i b.now refl (ltb-true i _ (sym some)) read)

pub returns-clause-value : goal.returns-clause-value
returns-clause-value g c =
    let l = c.get.ensures.lookup in
    rw c.copied.ensures (value_of g.S.ConditionSet.holds c.args.self.now.records.now c.args.number c.get.result l.0 l.1)
