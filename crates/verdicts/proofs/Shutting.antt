-- Replacing the set of one binding, and putting the old one back.
use Rattle.std.proofs.Common.{◌≡◌, ℕ, zero, suc, Bool, cond, ◌&&◌, ◌||◌, ltb, List, [], ◌∷◌, length, Some, None, refl, ap, ◌∙◌}
use Rattle.conditions.specs.declared.word.Word.{Word}
use Rattle.routing.specs.declared.binding.Binding.{Binding}
use Rattle.routing.specs.declared.refusal.Refusal.TheVariants.{NoPlace, OverLimit}
use Rattle.routing.specs.Refusals.{all_inside, opening}
use Rattle.verdicts.specs.Shutting.{with_set, set_at, shut_at}

-- The old set, put back over any other, gives the records again.
restore : (records : List (Binding Word)) (i : ℕ) (s : Word) → with_set (with_set records i s) i (set_at records i) ≡ records
restore [] i s = refl
restore (b ∷ bs) zero s = refl
restore (b ∷ bs) (suc i) s = ap (λ (r : List (Binding Word)). b ∷ r) (restore bs i s)

-- The same of records and a set that are known by equations.
pub restored : (records now : List (Binding Word)) (i : ℕ) (s old : Word) → now ≡ with_set records i s → old ≡ set_at records i → with_set now i old ≡ records
restored records now i s old e f = rw (e, f) (restore records i s)

-- Shut records are as many, and have the same ends.
shut_length : (i : ℕ) (records : List (Binding Word)) → length (shut_at i records) ≡ length records
shut_length i [] = refl
shut_length zero (b ∷ bs) = refl
shut_length (suc i) (b ∷ bs) = ap suc (shut_length i bs)

shut_inside : (n i : ℕ) (records : List (Binding Word)) → all_inside n (shut_at i records) ≡ all_inside n records
shut_inside n i [] = refl
shut_inside n zero (b ∷ bs) = refl
shut_inside n (suc i) (b ∷ bs) = ap (λ (t : Bool). (ltb b.from n && ltb b.to n) && t) (shut_inside n i bs)

-- So they are refused just where the records are.
pub shut_opening : (marks : List ℕ) (i : ℕ) (records : List (Binding Word)) → opening marks (shut_at i records) ≡ opening marks records
shut_opening marks i records =
    ap (λ (n : ℕ). cond (ltb 256 (length marks) || ltb 4096 n) (Some OverLimit) (cond (all_inside (length marks) (shut_at i records)) None (Some NoPlace))) (shut_length i records)
    ∙ ap (λ (t : Bool). cond (ltb 256 (length marks) || ltb 4096 (length records)) (Some OverLimit) (cond t None (Some NoPlace))) (shut_inside (length marks) i records)
