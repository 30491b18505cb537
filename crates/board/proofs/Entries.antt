-- Entries of the table of own bindings.
use Rattle.std.proofs.Common.{◌≡◌, ℕ, zero, suc, ◌<◌, Bool, true, false, ◌&&◌, List, [], ◌∷◌, length, get_or, slice_set, remove, refl, ap, arith}
use Rattle.conditions.specs.declared.set.ConditionSet.{Ghosts}
use Rattle.board.specs.declared.when.When.{When}
use Rattle.board.specs.declared.own.KeptBinding.{KeptBinding}
use Rattle.board.specs.Entries.{binding_of, bindings_of, with_when}
use Rattle.paper.specs.Own.{reconditioned}

-- One test more.
pub and_later : (x y z : Bool) → (x && y) && z ≡ x && (z && y)
and_later true true true = refl
and_later true true false = refl
and_later true false true = refl
and_later true false false = refl
and_later false y z = refl

-- To write an entry that forwards at another time is to change when it forwards.
pub set_when : {S : Type 0} {s : Ghosts S} (es : List (KeptBinding S s)) (i : ℕ) (e : KeptBinding S s) (w : When S s) → i < length es → e ≡ get_or es i e
    → slice_set es i (record { from = e.from; to = e.to; when = w }) ≡ with_when i w es
set_when [] i e w l is = absurd (omega arith)
set_when (d ∷ ds) zero e w l is = ap (λ v. record { from = v.from; to = v.to; when = w } ∷ ds) is
set_when (d ∷ ds) (suc i) e w l is = ap (λ rest. d ∷ rest) (set_when ds i e w (omega arith) is)

-- Entries are taken out and changed as their own bindings are.
pub removed_kept : {S : Type 0} {s : Ghosts S} (es : List (KeptBinding S s)) (i : ℕ) → bindings_of (remove es i) ≡ remove (bindings_of es) i
removed_kept [] zero = refl
removed_kept [] (suc i) = refl
removed_kept (e ∷ es) zero = refl
removed_kept (e ∷ es) (suc i) = ap (λ rest. binding_of e ∷ rest) (removed_kept es i)

pub when_kept : {S : Type 0} {s : Ghosts S} (es : List (KeptBinding S s)) (i : ℕ) (w : When S s) → bindings_of (with_when i w es) ≡ reconditioned i w.on w.off (bindings_of es)
when_kept [] i w = refl
when_kept (e ∷ es) zero w = refl
when_kept (e ∷ es) (suc i) w = ap (λ rest. binding_of e ∷ rest) (when_kept es i w)
