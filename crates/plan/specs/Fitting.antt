-- A plan that was read keeps to the limits of a network. Proved facts, no definitions.
use Rattle.std.specs.Prelude.{◌≡◌, ℕ, zero, suc, true, length, refl}
use Rattle.std.proofs.Common.{sym, ap, subst, arith}
use Rattle.conditions.specs.WordSets.{word_holds}
use Rattle.routing.specs.Bindings.{Fits}
use Rattle.routing.specs.Fitting.{lists_fit}
use Rattle.routing.specs.Refusals.{all_inside}
use Rattle.plan.specs.declared.file.PlanFile.{PlanFile}
use Rattle.plan.specs.Contents.{place_count, binding_count, listed, mark_at, binding_at}
use Rattle.plan.specs.Files.{file_bytes, file_plan, file_meaning}

-- A list of n elements has that length.
pub length_listed : {A : Type 0} (n : ℕ) (f : ℕ → A) → length (listed n f) ≡ n
unfolding listed
length_listed zero f = refl
length_listed (suc n) f = ap suc (length_listed n (λ k. f (suc k)))

pub file_fits : (f : PlanFile) → Fits (file_meaning f)
file_fits f =
    let places = length_listed (place_count (file_bytes f)) (mark_at (file_bytes f)) in
    let bindings = length_listed (binding_count (file_bytes f)) (binding_at (file_bytes f)) in
    let few_places = f.file.few_places in
    let few_bindings = f.file.few_bindings in
    let places_are = f.file.counted.places_are in
    let bindings_are = f.file.counted.bindings_are in
    lists_fit 6 word_holds (file_plan f).marks (file_plan f).records (omega arith) (omega arith)
    (subst (λ (n : ℕ). all_inside n (file_plan f).records ≡ true) (sym places) f.file.ends)
