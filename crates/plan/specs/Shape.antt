-- The faults of a file that lie outside the texts of its rules, in the order in which they are tested.
use Rattle.std.specs.Prelude.{ℕ, zero, suc, ◌+◌, Bool, cond, not, List, [], ◌∷◌, Some, None, Option, ◌==◌, nat_lt}
use Rattle.std.specs.Option.{option_or}
use Rattle.plan.specs.declared.fault.FileFault.{FileFault}
use Rattle.plan.specs.declared.fault.FileFaultKind.{FileFaultKind}
use Rattle.plan.specs.declared.fault.FileFaultKind.TheVariants.{BadContents, WrongLength, NoPlace, OverLimit}
use Rattle.plan.specs.Numbers.{field}
use Rattle.plan.specs.Format.{first_body, bindings_start, rules_start}
use Rattle.plan.specs.Contents.{place_count, binding_count, rule_count, binding_byte, rule_byte}
use Rattle.plan.specs.Faults.{file_fault}

-- The first fault in a list of tests, if any.
abbrev pub first_fault : List (Option FileFault) → Option FileFault
first_fault [] = None
first_fault (test ∷ tests) = option_or test (first_fault tests)

-- The fault at the byte, where the test says so.
abbrev pub faulty : Bool → FileFaultKind → ℕ → Option FileFault
faulty test kind byte = cond test (Some (file_fault kind byte)) None

-- 9: the field of w bytes at byte i is above the limit.
abbrev pub over : ℕ → ℕ → ℕ → List ℕ → Option FileFault
over limit w i file = faulty (nat_lt limit (field w i file)) OverLimit i

-- 6: the field of w bytes at byte i is not as it should be.
abbrev pub differs : ℕ → ℕ → ℕ → List ℕ → Option FileFault
differs right w i file = faulty (not (field w i file == right)) BadContents i

-- 8: the field of two bytes at byte i is no place.
abbrev pub no_place : ℕ → List ℕ → Option FileFault
no_place i file = faulty (not (nat_lt (field 2 i file) (place_count file))) NoPlace i

-- 7: at the length of the file.
abbrev pub wrong_length : Bool → ℕ → Option FileFault
wrong_length test total = faulty test WrongLength total

-- The counts: 256 places, 4096 bindings, eight rules.
abbrev pub counts_fault : List ℕ → Option FileFault
counts_fault file = first_fault (over 256 2 2 file ∷ over 4096 2 10 file ∷ over 8 2 18 file ∷ [])

-- The contents: kinds and starts.
abbrev pub contents_fault : List ℕ → Option FileFault
contents_fault file = first_fault
    (differs 1 2 0 file ∷ differs first_body 4 4 file
    ∷ differs 2 2 8 file ∷ differs (bindings_start (place_count file)) 4 12 file
    ∷ differs 3 2 16 file ∷ differs (rules_start (place_count file) (binding_count file)) 4 20 file ∷ [])

-- The length of the text of rule i, in a file of `total` bytes: it lies in the file, and is at most 200.
abbrev pub length_fault : ℕ → List ℕ → ℕ → Option FileFault
length_fault total file i = first_fault (wrong_length (nat_lt total (rule_byte file i + 2)) total ∷ over 200 2 (rule_byte file i) file ∷ [])

-- The lengths of n rules from rule i on.
unfoldable pub lengths_fault : ℕ → List ℕ → ℕ → ℕ → Option FileFault
lengths_fault total file i zero = None
lengths_fault total file i (suc n) = first_fault (length_fault total file i ∷ lengths_fault total file (suc i) n ∷ [])

-- The end of the file, behind the last rule.
abbrev pub end_fault : ℕ → List ℕ → Option FileFault
end_fault total file = wrong_length (not (rule_byte file (rule_count file) == total)) total

-- The ends of n bindings from binding i on: from, then to.
unfoldable pub ends_fault : List ℕ → ℕ → ℕ → Option FileFault
ends_fault file i zero = None
ends_fault file i (suc n) =
    first_fault (no_place (binding_byte file i) file ∷ no_place (binding_byte file i + 2) file ∷ ends_fault file (suc i) n ∷ [])

-- The first fault of a file of `total` bytes that is long enough for its contents.
abbrev pub counted_fault : ℕ → List ℕ → Option FileFault
counted_fault total file = first_fault
    (counts_fault file
    ∷ contents_fault file
    ∷ lengths_fault total file 0 (rule_count file)
    ∷ end_fault total file
    ∷ ends_fault file 0 (binding_count file) ∷ [])

-- The first fault of a file of `total` bytes: 7 where it is too short for its contents, else the first of the others.
unfoldable pub shape_fault : ℕ → List ℕ → Option FileFault
shape_fault total file = option_or (wrong_length (nat_lt total first_body) total) (counted_fault total file)
