-- The bits of a number, as tests.
use Rattle.std.proofs.Common.{◌≡◌, ℕ, zero, suc, ◌-◌, ◌^◌, ◌<◌, not, ◌&&◌, ◌||◌, eqb, min, max, refl, ap, ◌∙◌, arith}
use Rattle.std.specs.Prelude.{bit_and, bit_or}
use mir.Val.{bits}
use Rattle.std.specs.Int.{Width, bit_at, bit_not}
use Rattle.std.proofs.lemmas.Nat.Bits.{bit_at_and, bit_at_or, bit_at_not, bit_at-lt, same_from_bits_below}
use Rattle.conditions.specs.Sets.{bit}

and_digit : (p q : ℕ) → p < 2 → q < 2 → eqb (min p q) 1 ≡ (eqb p 1 && eqb q 1)
and_digit zero zero h k = refl
and_digit zero (suc zero) h k = refl
and_digit zero (suc (suc q)) h k = absurd (omega arith)
and_digit (suc zero) zero h k = refl
and_digit (suc zero) (suc zero) h k = refl
and_digit (suc zero) (suc (suc q)) h k = absurd (omega arith)
and_digit (suc (suc p)) q h k = absurd (omega arith)

or_digit : (p q : ℕ) → p < 2 → q < 2 → eqb (max p q) 1 ≡ (eqb p 1 || eqb q 1)
or_digit zero zero h k = refl
or_digit zero (suc zero) h k = refl
or_digit zero (suc (suc q)) h k = absurd (omega arith)
or_digit (suc zero) zero h k = refl
or_digit (suc zero) (suc zero) h k = refl
or_digit (suc zero) (suc (suc q)) h k = absurd (omega arith)
or_digit (suc (suc p)) q h k = absurd (omega arith)

-- A bit of `x & y` and of `x | y`.
pub bit_of_and : (x y k : ℕ) → bit (bit_and x y) k ≡ (bit x k && bit y k)
bit_of_and x y k = ap (λ d. eqb d 1) (bit_at_and x y k) ∙ and_digit (bit_at x k) (bit_at y k) (bit_at-lt x k) (bit_at-lt y k)

pub bit_of_or : (x y k : ℕ) → bit (bit_or x y) k ≡ (bit x k || bit y k)
bit_of_or x y k = ap (λ d. eqb d 1) (bit_at_or x y k) ∙ or_digit (bit_at x k) (bit_at y k) (bit_at-lt x k) (bit_at-lt y k)

flip_digit : (p : ℕ) → p < 2 → eqb (1 - p) 1 ≡ not (eqb p 1)
flip_digit zero h = refl
flip_digit (suc zero) h = refl
flip_digit (suc (suc p)) h = absurd (omega arith)

-- A bit of `!x`.
pub bit_of_not : (w : Width) (x k : ℕ) → x < 2 ^ bits w → k < bits w → bit (bit_not w x) k ≡ not (bit x k)
bit_of_not w x k h l = ap (λ d. eqb d 1) (bit_at_not w x k h l) ∙ flip_digit (bit_at x k) (bit_at-lt x k)

digit_same : (p q : ℕ) → p < 2 → q < 2 → eqb p 1 ≡ eqb q 1 → p ≡ q
digit_same zero zero h k e = refl
digit_same zero (suc zero) h k e = let z : ◌≡◌ {A = ℕ} 0 1 = cc in absurd (omega arith)
digit_same zero (suc (suc q)) h k e = absurd (omega arith)
digit_same (suc zero) zero h k e = let z : ◌≡◌ {A = ℕ} 0 1 = cc in absurd (omega arith)
digit_same (suc zero) (suc zero) h k e = refl
digit_same (suc zero) (suc (suc q)) h k e = absurd (omega arith)
digit_same (suc (suc p)) q h k e = absurd (omega arith)

-- A number of w bits is known by its bits.
pub bits_same : (w x y : ℕ) → x < 2 ^ w → y < 2 ^ w → ((k : ℕ) → k < w → bit x k ≡ bit y k) → x ≡ y
bits_same w x y h k e = same_from_bits_below w x y h k (λ i l. digit_same (bit_at x i) (bit_at y i) (bit_at-lt x i) (bit_at-lt y i) (e i l))
