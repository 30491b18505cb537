-- Sets kept as the bits of a word, over any width w.
use Rattle.std.proofs.Common.{◌≡◌, ℕ, zero, suc, ◌^◌, ◌<◌, Bool, true, false, not, ◌&&◌, ◌||◌, eqb, ltb, Decides, sym, refl, ap, ◌∙◌}
use mathlib.Core.Bool.{beq}
use Rattle.std.specs.Prelude.{bit_and, bit_or}
use mir.Val.{bits}
use Rattle.std.specs.Int.{Width, bit_not, trailing_zeros}
use Rattle.std.proofs.Math.Bool.{and-false, and-or_distrib_left}
use Rattle.std.proofs.lemmas.Nat.Bits.{bit_at-trailing_zeros}
use Rattle.std.proofs.lemmas.Bool.{ltb-true, lt-ltb, eqb-true, eq-eqb, false≢true, both_ways}
use Rattle.std.proofs.lemmas.Bool.Decides.{Decides-below_and}
use Rattle.conditions.specs.Sets.{bit, Picked}
use Rattle.conditions.proofs.Bits.{bit_of_and, bit_of_or, bit_of_not, bits_same}
use Rattle.conditions.proofs.Picking.{picked_least}

-- A test of every number below n, which the checker computes at a numeral.
abbrev pub every : (ℕ → Bool) → ℕ → Bool
every p zero = true
every p (suc n) = p n && every p n

each : (p : ℕ → Bool) (n : ℕ) → every p n ≡ true → (k : ℕ) → k < n → p k ≡ true
each p n h = (Decides-below_and p (λ k. p k ≡ true) (every p) (λ k. (λ e. e, λ e. e)) refl (λ _. refl) n).0 h

alike : (p q : Bool) → beq p q ≡ true → p ≡ q
alike true true e = refl
alike false false e = refl
alike true false e = sym e
alike false true e = e

pub guarded : (t x y : Bool) → (t ≡ true → x ≡ y) → (t && x) ≡ (t && y)
guarded true x y h = h refl
guarded false x y h = refl

-- Two tests that a computation finds alike below n.
pub table : (n : ℕ) (f g : ℕ → Bool) → every (λ a. beq (f a) (g a)) n ≡ true → (a : ℕ) → (ltb a n && f a) ≡ (ltb a n && g a)
table n f g h a =
    guarded (ltb a n) (f a) (g a) (λ e. alike (f a) (g a) (each (λ a. beq (f a) (g a)) n h a (ltb-true a n e)))

both_of : (t x y : Bool) → (t && (x && y)) ≡ ((t && x) && (t && y))
both_of true x y = refl
both_of false x y = refl

pub outside_of : (t x : Bool) → (t && not x) ≡ (t && not (t && x))
outside_of true x = refl
outside_of false x = refl

pub word_intersection : (w x y a : ℕ) → (ltb a w && bit (bit_and x y) a) ≡ ((ltb a w && bit x a) && (ltb a w && bit y a))
word_intersection w x y a = ap (λ b. ltb a w && b) (bit_of_and x y a) ∙ both_of (ltb a w) (bit x a) (bit y a)

pub word_union : (w x y a : ℕ) → (ltb a w && bit (bit_or x y) a) ≡ ((ltb a w && bit x a) || (ltb a w && bit y a))
word_union w x y a = ap (λ b. ltb a w && b) (bit_of_or x y a) ∙ and-or_distrib_left (ltb a w) (bit x a) (bit y a)

pub word_complement : (w : Width) (x a : ℕ) → x < 2 ^ bits w
    → (ltb a (bits w) && bit (bit_not w x) a) ≡ (ltb a (bits w) && not (ltb a (bits w) && bit x a))
word_complement w x a h =
    guarded (ltb a (bits w)) (bit (bit_not w x) a) (not (bit x a)) (λ l. bit_of_not w x a h (ltb-true a (bits w) l)) ∙ outside_of (ltb a (bits w)) (bit x a)

pub word_same : (w x y : ℕ) → x < 2 ^ w → y < 2 ^ w → Decides (eqb x y) ((a : ℕ) → (ltb a w && bit x a) ≡ (ltb a w && bit y a))
word_same w x y h k = (
  λ e a. ap (λ n. ltb a w && bit n a) (eqb-true x y e),
  λ f. eq-eqb x y (bits_same w x y h k (λ a l. under_guard (ltb a w) (bit x a) (bit y a) (lt-ltb a w l) (f a))),
)
  where
    under_guard : (t x y : Bool) → t ≡ true → (t && x) ≡ (t && y) → x ≡ y
    under_guard true x y e f = f
    under_guard false x y e f = absurd (false≢true e)

pub word_pick : (w : Width) (n : ℕ) → 0 < n → n < 2 ^ bits w → Picked (λ a. (ltb a (bits w) && bit n a) ≡ true) (trailing_zeros w n)
word_pick w n p h =
    let t = bit_at-trailing_zeros w n p h in
    picked_least (λ a. (ltb a (bits w) && bit n a) ≡ true) (trailing_zeros w n)
    (ap (λ c. c && bit n (trailing_zeros w n)) (lt-ltb (trailing_zeros w n) (bits w) t.0) ∙ ap (λ d. eqb d 1) t.1)
    (λ a k. both_ways (ltb a (bits w) && bit n a) (ap (λ b. ltb a (bits w) && eqb b 1) (t.2 a k) ∙ and-false (ltb a (bits w))))

-- A constant m that has just the settings with condition k on.
pub word_condition : (w m k j : ℕ) → j ≡ k → every (λ a. beq (bit m a) (bit a k)) w ≡ true → (a : ℕ) → (ltb a w && bit m a) ≡ (ltb a w && bit a j)
word_condition w m k j e h a = table w (bit m) (λ a. bit a k) h a ∙ ap (λ i. ltb a w && bit a i) (sym e)

-- Two flags are the same when they say the same of setting 0.
pub flags_same : (p q : Bool) → Decides (beq p q) ((a : ℕ) → (p && eqb a 0) ≡ (q && eqb a 0))
flags_same true true = (λ _ a. refl, λ _. refl)
flags_same false false = (λ _ a. refl, λ _. refl)
flags_same true false = (λ e a. cc, λ h. sym (h 0))
flags_same false true = (λ e a. cc, λ h. h 0)
