-- The first fault of a run of tests: a test that fails decides, one that passes is gone past.
use Rattle.std.proofs.Common.{◌≡◌, ℕ, suc, ◌+◌, ◌-◌, ◌<◌, ◌≤◌, Bool, true, false, not, eqb, ltb, ◌⊎◌, List, [], ◌∷◌, is_some, Some, None, Ok, Err, Option, Result, sym, refl, ap, ◌∙◌, inl, inr, arith}
use Rattle.std.proofs.lemmas.Bool.{eq-eqb, eqb-true, le-ltb, lt-ltb, ltb-false, ltb-true, not-false}
use Rattle.std.specs.Option.{option_or}
use Rattle.std.specs.Result.{result_err, IsErrAnd}
use Rattle.plan.specs.declared.fault.FileFault.{FileFault}
use Rattle.plan.specs.declared.fault.FileFaultKind.{FileFaultKind}
use Rattle.plan.specs.declared.fault.FileFaultKind.TheVariants.{BadContents, NoPlace, OverLimit}
use Rattle.plan.specs.Contents.{place_count, binding_byte, rule_byte}
use Rattle.plan.specs.Numbers.{field}
use Rattle.plan.specs.Shape.{first_fault, no_place, ends_fault, length_fault, lengths_fault, over, differs, faulty, wrong_length}

-- Where the first is a fault it is the answer, and else the second is.
pub or_some : {T : Type 0} (x y : Option T) → is_some x ≡ true → option_or x y ≡ x
or_some (Some x) y h = refl
or_some None y h = let z : true ≡ false = cc in cc

pub or_none : {T : Type 0} (x y : Option T) → is_some x ≡ false → option_or x y ≡ y
or_none None y h = refl
or_none (Some x) y h = let z : true ≡ false = cc in cc

pub or_end : {T : Type 0} (x : Option T) → option_or x None ≡ x
or_end None = refl
or_end (Some x) = refl

pub or_assoc : {T : Type 0} (x y z : Option T) → option_or (option_or x y) z ≡ option_or x (option_or y z)
or_assoc None y z = refl
or_assoc (Some x) y z = refl

-- What `?` hands on is the fault that a test answered.
pub err_of : {T E : Type 0} (r : Result T E) (e : E) (f : Option E) → IsErrAnd r (λ x. x ≡ e) → Some e ≡ f → result_err r ≡ f
err_of (Ok x) e f h is = absurd h
err_of (Err x) e f h is = ap Some h ∙ is

-- The fault of the ends of binding i.
abbrev pub ends_of : List ℕ → ℕ → Option FileFault
ends_of file i = option_or (no_place (binding_byte file i) file) (no_place (binding_byte file i + 2) file)

pub ends_next : (file : List ℕ) (i n : ℕ) → i < n → ends_fault file i (n - i) ≡ option_or (ends_of file i) (ends_fault file (suc i) (n - suc i))
unfolding ends_fault
ends_next file i n more =
    let left : n - i ≡ suc (n - suc i) = omega arith in
    let rest = ends_fault file (suc i) (n - suc i) in
    ap (ends_fault file i) left
    ∙ (ap (λ (o : Option FileFault). option_or (no_place (binding_byte file i) file) (option_or (no_place (binding_byte file i + 2) file) o)) (or_end rest)
    ∙ sym (or_assoc (no_place (binding_byte file i) file) (no_place (binding_byte file i + 2) file) rest))

pub lengths_next : (total : ℕ) (file : List ℕ) (i n : ℕ) → i < n
    → lengths_fault total file i (n - i) ≡ option_or (length_fault total file i) (lengths_fault total file (suc i) (n - suc i))
unfolding lengths_fault
lengths_next total file i n more =
    let left : n - i ≡ suc (n - suc i) = omega arith in
    let rest = lengths_fault total file (suc i) (n - suc i) in
    ap (lengths_fault total file i) left ∙ ap (option_or (length_fault total file i)) (or_end rest)

pub ends_none : (file : List ℕ) (i n : ℕ) → n ≤ i → ends_fault file i (n - i) ≡ None
unfolding ends_fault
ends_none file i n past = let left : n - i ≡ 0 = omega arith in ap (ends_fault file i) left

pub lengths_none : (total : ℕ) (file : List ℕ) (i n : ℕ) → n ≤ i → lengths_fault total file i (n - i) ≡ None
unfolding lengths_fault
lengths_none total file i n past = let left : n - i ≡ 0 = omega arith in ap (lengths_fault total file i) left

-- The loop over the bindings stops at a fault, or goes on.
pub ends_stop : (file : List ℕ) (i n byte : ℕ) (f : Option FileFault) → i < n → byte ≡ binding_byte file i
    → f ≡ option_or (no_place byte file) (no_place (byte + 2) file) → is_some f ≡ true → ends_fault file i (n - i) ≡ f
ends_stop file i n byte f more at is some =
    let here : f ≡ ends_of file i = is ∙ ap (λ (b : ℕ). option_or (no_place b file) (no_place (b + 2) file)) at in
    ends_next file i n more ∙ (ap (λ (o : Option FileFault). option_or o (ends_fault file (suc i) (n - suc i))) (sym here) ∙ or_some f _ some)

pub ends_go : (file : List ℕ) (i n byte : ℕ) (f : Option FileFault) → i < n → byte ≡ binding_byte file i
    → f ≡ option_or (no_place byte file) (no_place (byte + 2) file) → is_some f ≡ false
    → ends_fault file i (n - i) ≡ ends_fault file (i + 1) (n - (i + 1))
ends_go file i n byte f more at is none =
    let here : f ≡ ends_of file i = is ∙ ap (λ (b : ℕ). option_or (no_place b file) (no_place (b + 2) file)) at in
    let next : suc i ≡ i + 1 = omega arith in
    ends_next file i n more
    ∙ (ap (λ (o : Option FileFault). option_or o (ends_fault file (suc i) (n - suc i))) (sym here)
    ∙ (or_none f _ none ∙ ap (λ (k : ℕ). ends_fault file k (n - k)) next))

-- The loop over the rules likewise.
pub lengths_stop : (total : ℕ) (file : List ℕ) (i n byte : ℕ) (f : Option FileFault) → i < n → byte ≡ rule_byte file i
    → f ≡ first_fault (wrong_length (ltb total (byte + 2)) total ∷ over 200 2 byte file ∷ []) → is_some f ≡ true
    → lengths_fault total file i (n - i) ≡ f
lengths_stop total file i n byte f more at is some =
    let here : f ≡ length_fault total file i =
    is ∙ ap (λ (b : ℕ). first_fault (wrong_length (ltb total (b + 2)) total ∷ over 200 2 b file ∷ [])) at in
    lengths_next total file i n more
    ∙ (ap (λ (o : Option FileFault). option_or o (lengths_fault total file (suc i) (n - suc i))) (sym here) ∙ or_some f _ some)

pub lengths_go : (total : ℕ) (file : List ℕ) (i n byte : ℕ) (f : Option FileFault) → i < n → byte ≡ rule_byte file i
    → f ≡ first_fault (wrong_length (ltb total (byte + 2)) total ∷ over 200 2 byte file ∷ []) → is_some f ≡ false
    → lengths_fault total file i (n - i) ≡ lengths_fault total file (i + 1) (n - (i + 1))
lengths_go total file i n byte f more at is none =
    let here : f ≡ length_fault total file i =
    is ∙ ap (λ (b : ℕ). first_fault (wrong_length (ltb total (b + 2)) total ∷ over 200 2 b file ∷ [])) at in
    let next : suc i ≡ i + 1 = omega arith in
    lengths_next total file i n more
    ∙ (ap (λ (o : Option FileFault). option_or o (lengths_fault total file (suc i) (n - suc i))) (sym here)
    ∙ (or_none f _ none ∙ ap (λ (k : ℕ). lengths_fault total file k (n - k)) next))

-- A test that is passed.
pub faulty_none : (test : Bool) (kind : FileFaultKind) (byte : ℕ) → faulty test kind byte ≡ None → test ≡ false
faulty_none false kind byte e = refl
faulty_none true kind byte e = let z : ◌≡◌ {A = ℕ} 0 1 = cc in absurd (omega arith)

pub none_faulty : (test : Bool) (kind : FileFaultKind) (byte : ℕ) → test ≡ false → faulty test kind byte ≡ None
none_faulty false kind byte e = refl
none_faulty true kind byte e = let z : true ≡ false = cc in cc

-- Tests that are both passed.
pub or_nones : {T : Type 0} (x y : Option T) → option_or x y ≡ None → (x ≡ None) × (y ≡ None)
or_nones None y e = (refl, e)
or_nones (Some x) y e = let z : ◌≡◌ {A = ℕ} 0 1 = cc in absurd (omega arith)

pub none_or : {T : Type 0} (x y : Option T) → x ≡ None → y ≡ None → option_or x y ≡ None
none_or None y ex ey = ey
none_or (Some x) y ex ey = ex

-- A test is passed or not.
pub cases_none : {T : Type 0} (x : Option T) → (x ≡ None) ⊎ (is_some x ≡ true)
cases_none None = inl refl
cases_none (Some x) = inr refl

-- What the tests say.
pub over_none : (limit w i : ℕ) (file : List ℕ) → over limit w i file ≡ None → field w i file ≤ limit
over_none limit w i file e = ltb-false limit (field w i file) (faulty_none (ltb limit (field w i file)) OverLimit i e)

pub none_over : (limit w i : ℕ) (file : List ℕ) → field w i file ≤ limit → over limit w i file ≡ None
none_over limit w i file h = none_faulty (ltb limit (field w i file)) OverLimit i (le-ltb limit (field w i file) h)

pub differs_none : (right w i : ℕ) (file : List ℕ) → differs right w i file ≡ None → field w i file ≡ right
differs_none right w i file e = eqb-true (field w i file) right (not-false _ (faulty_none (not (eqb (field w i file) right)) BadContents i e))

pub none_differs : (right w i : ℕ) (file : List ℕ) → field w i file ≡ right → differs right w i file ≡ None
none_differs right w i file e = none_faulty (not (eqb (field w i file) right)) BadContents i (ap not (eq-eqb (field w i file) right e))

pub place_none : (i : ℕ) (file : List ℕ) → no_place i file ≡ None → field 2 i file < place_count file
place_none i file e = ltb-true (field 2 i file) (place_count file) (not-false _ (faulty_none (not (ltb (field 2 i file) (place_count file))) NoPlace i e))

pub none_place : (i : ℕ) (file : List ℕ) → field 2 i file < place_count file → no_place i file ≡ None
none_place i file h = none_faulty (not (ltb (field 2 i file) (place_count file))) NoPlace i (ap not (lt-ltb (field 2 i file) (place_count file) h))
