-- Bits, and sets kept as the bits of a word, over any width w; the numbers of the machine have the widths of Words.
use Rattle.std.proofs.Common.{◌≡◌, ℕ, zero, suc, ◌+◌, ◌/◌, ◌%◌, ◌^◌, ◌<◌, Bool, true, false, not, ◌&&◌, ◌||◌, eqb, ltb, sym, refl, ap, ◌∙◌, pow-suc, div-one, one-add, arith, shr-shr}
use lib.Count.{count_trailing_zeros, under}
use Rattle.std.proofs.lemmas.Bool.{ltb-true, lt-ltb, both_ways}
use Rattle.conditions.specs.Sets.{bit, Picked}
use Rattle.conditions.proofs.Words.{guarded, outside_of}
use Rattle.conditions.proofs.Picking.{picked_least}

pub bit_zero : (n : ℕ) → bit n 0 ≡ eqb (n % 2) 1
bit_zero n = ap (λ q. eqb (q % 2) 1) (div-one n)

pub bit_suc : (n k : ℕ) → bit n (suc k) ≡ bit (n / 2) k
bit_suc n k = sym (ap (λ q. eqb (q % 2) 1) (shr-shr n 1 k ∙ ap (λ j. n / 2 ^ j) (one-add k)))

flip_digit : (p q : ℕ) → p + q ≡ 1 → eqb p 1 ≡ not (eqb q 1)
flip_digit zero zero e = absurd (omega arith)
flip_digit zero (suc zero) e = refl
flip_digit zero (suc (suc q)) e = absurd (omega arith)
flip_digit (suc zero) zero e = refl
flip_digit (suc zero) (suc q) e = absurd (omega arith)
flip_digit (suc (suc p)) q e = absurd (omega arith)

-- Two numbers that add up to w ones have opposite bits.
pub bit_flip : (w x y k : ℕ) → x + y + 1 ≡ 2 ^ w → k < w → bit y k ≡ not (bit x k)
bit_flip zero x y k e h = absurd (omega arith)
bit_flip (suc w) x y zero e h =
    let p = pow-suc 2 w in
    bit_zero y ∙ flip_digit (y % 2) (x % 2) (omega arith) ∙ ap not (sym (bit_zero x))
bit_flip (suc w) x y (suc k) e h =
    let p = pow-suc 2 w in
    bit_suc y k ∙ bit_flip w (x / 2) (y / 2) k (omega arith) (omega arith) ∙ ap not (sym (bit_suc x k))

-- The trailing zeros of a number that is not 0 are fewer than its bits ..
pub trailing_lt : (w n : ℕ) → n < 2 ^ w → 0 < n → count_trailing_zeros w n < w
unfolding count_trailing_zeros
trailing_lt zero n h p = absurd (omega arith)
trailing_lt (suc w) n h p = at (trailing_lt w (n / 2)) (n % 2) refl
  where
    at : (n / 2 < 2 ^ w → 0 < n / 2 → count_trailing_zeros w (n / 2) < w) → (d : ℕ) → n % 2 ≡ d → under d (count_trailing_zeros w (n / 2)) < suc w
    at rest zero e =
        let q = pow-suc 2 w in
        let r = rest (omega arith) (omega arith) in omega arith
    at rest (suc d) e = omega arith

-- .. the bit above them is 1 ..
pub trailing_at : (w n : ℕ) → count_trailing_zeros w n < w → bit n (count_trailing_zeros w n) ≡ true
unfolding count_trailing_zeros
trailing_at zero n h = absurd (omega arith)
trailing_at (suc w) n h = at (trailing_at w (n / 2)) (n % 2) refl h
  where
    at : (count_trailing_zeros w (n / 2) < w → bit (n / 2) (count_trailing_zeros w (n / 2)) ≡ true) → (d : ℕ) → n % 2 ≡ d
        → under d (count_trailing_zeros w (n / 2)) < suc w → bit n (under d (count_trailing_zeros w (n / 2))) ≡ true
    at rest zero e l = bit_suc n (count_trailing_zeros w (n / 2)) ∙ rest (omega arith)
    at rest (suc zero) e l = bit_zero n ∙ ap (λ d. eqb d 1) e
    at rest (suc (suc d)) e l = absurd (omega arith)

-- .. and each bit below it is 0.
pub trailing_below : (w n k : ℕ) → k < count_trailing_zeros w n → bit n k ≡ false
unfolding count_trailing_zeros
trailing_below zero n k h = absurd (omega arith)
trailing_below (suc w) n k h = at (trailing_below w (n / 2)) (n % 2) k refl h
  where
    at : ((j : ℕ) → j < count_trailing_zeros w (n / 2) → bit (n / 2) j ≡ false) → (d k : ℕ) → n % 2 ≡ d → k < under d (count_trailing_zeros w (n / 2)) → bit n k ≡ false
    at rest zero zero e l = bit_zero n ∙ ap (λ d. eqb d 1) e
    at rest zero (suc k) e l = bit_suc n k ∙ rest k (omega arith)
    at rest (suc d) k e l = absurd (omega arith)

pub and_yes : (t : Bool) → (t && true) ≡ t
and_yes true = refl
and_yes false = refl

and_no : (t : Bool) → (t && false) ≡ false
and_no true = refl
and_no false = refl

pub either_of : (t x y : Bool) → (t && (x || y)) ≡ ((t && x) || (t && y))
either_of true x y = refl
either_of false x y = refl

pub word_complement : (w x y a : ℕ) → x + y + 1 ≡ 2 ^ w → (ltb a w && bit y a) ≡ (ltb a w && not (ltb a w && bit x a))
word_complement w x y a e =
    guarded (ltb a w) (bit y a) (not (bit x a)) (λ l. bit_flip w x y a e (ltb-true a w l)) ∙ outside_of (ltb a w) (bit x a)

pub word_pick : (w n : ℕ) → n < 2 ^ w → 0 < n → Picked (λ a. (ltb a w && bit n a) ≡ true) (count_trailing_zeros w n)
word_pick w n h p =
    let l = trailing_lt w n h p in
    picked_least (λ a. (ltb a w && bit n a) ≡ true) (count_trailing_zeros w n)
    (ap (λ t. t && bit n (count_trailing_zeros w n)) (lt-ltb (count_trailing_zeros w n) w l) ∙ trailing_at w n l)
    (λ a k. both_ways (ltb a w && bit n a) (ap (λ b. ltb a w && b) (trailing_below w n a k) ∙ and_no (ltb a w)))
