-- The limits on texts: what the tests come to.
use Rattle.std.proofs.Common.{◌≡◌, ℕ, ◌+◌, ◌≤◌, not, leb, ltb, List, [], ◌∷◌, length, Some, None, sym, refl, ap, ◌∙◌, arith}
use Rattle.std.proofs.lemmas.Bool.{ltb-false}
use Rattle.std.proofs.lemmas.Bool.Decides.{nat_tests}
use Rattle.std.specs.Option.{option_or}
use Rattle.plan.specs.declared.fault.FileFault.{FileFault}
use Rattle.plan.specs.declared.fault.FileFaultKind.TheVariants.{OverLimit}
use Rattle.plan.specs.Shape.{faulty}
use Rattle.plan.specs.Writing.{long_fault, texts_fault}
use Rattle.plan.proofs.Firsts.{faulty_none, or_end, or_nones}

-- The test of a limit, as the code and as the definitions have it.
not_leb : (n limit : ℕ) → not (leb n limit) ≡ ltb limit n
not_leb n limit = grind (arith, nat_tests)

pub limit_test : (n limit byte : ℕ) → faulty (not (leb n limit)) OverLimit byte ≡ faulty (ltb limit n) OverLimit byte
limit_test n limit byte = ap (λ t. faulty t OverLimit byte) (not_leb n limit)

pub few_texts : (start : ℕ) (texts : List (List ℕ)) → None ≡ faulty (ltb 8 (length texts)) OverLimit 18 → long_fault start texts ≡ texts_fault start texts
few_texts start texts is = sym (or_end (long_fault start texts)) ∙ ap (λ o. option_or o (option_or (long_fault start texts) None)) is

pub long_here : (byte : ℕ) (t : List ℕ) (ts : List (List ℕ)) (f : FileFault) → Some f ≡ faulty (ltb 200 (length t)) OverLimit byte
    → Some f ≡ long_fault byte (t ∷ ts)
unfolding long_fault
long_here byte t ts f is = ap (λ o. option_or o (option_or (long_fault (byte + (2 + length t)) ts) None)) is

pub long_next : (byte : ℕ) (t : List ℕ) (ts : List (List ℕ)) → None ≡ faulty (ltb 200 (length t)) OverLimit byte
    → long_fault (byte + (2 + length t)) ts ≡ long_fault byte (t ∷ ts)
unfolding long_fault
long_next byte t ts is =
    let rest = long_fault (byte + (2 + length t)) ts in
    sym (or_end rest) ∙ ap (λ o. option_or o (option_or rest None)) is

pub long_none : (byte : ℕ) → long_fault byte [] ≡ None
unfolding long_fault
long_none byte = refl

-- A text that is not too long.
pub not_long : (byte n : ℕ) → None ≡ faulty (ltb 200 n) OverLimit byte → n ≤ 200
not_long byte n is = ltb-false 200 n (faulty_none (ltb 200 n) OverLimit byte (sym is))

-- Where no limit is passed there are at most eight texts.
pub few_from_none : (start : ℕ) (texts : List (List ℕ)) → texts_fault start texts ≡ None → length texts ≤ 8
few_from_none start texts none =
    ltb-false 8 (length texts)
    (faulty_none (ltb 8 (length texts)) OverLimit 18 (or_nones (faulty (ltb 8 (length texts)) OverLimit 18) (option_or (long_fault start texts) None) none).0)
