-- The bytes of numbers: how many, how large, and that the numbers' own bytes are these.
use Rattle.std.proofs.Common.{◌≡◌, ℕ, zero, suc, ◌/◌, ◌%◌, [], ◌∷◌, length, refl, ap}
use native.Mathlib.Nat.{div-div-eq-div-mul}
use Rattle.plan.specs.Numbers.{bytes_of}

pub length_bytes_of : (w n : ℕ) → length (bytes_of w n) ≡ w
unfolding bytes_of
length_bytes_of zero n = refl
length_bytes_of (suc w) n = ap suc (length_bytes_of w (n / 256))

-- The bytes of a number of 16, 32 and 64 bits.
pub bytes_of_2 : (n : ℕ) → bytes_of 2 n ≡ n % 256 ∷ n / 256 % 256 ∷ []
unfolding bytes_of
bytes_of_2 n = refl

pub bytes_of_4 : (n : ℕ) → bytes_of 4 n ≡ n % 256 ∷ n / 256 % 256 ∷ n / 65536 % 256 ∷ n / 16777216 % 256 ∷ []
unfolding bytes_of
bytes_of_4 n = simp div-div-eq-div-mul

pub bytes_of_8 : (n : ℕ)
    → bytes_of 8 n ≡ n % 256 ∷ n / 256 % 256 ∷ n / 65536 % 256 ∷ n / 16777216 % 256 ∷ n / 4294967296 % 256 ∷ n / 1099511627776 % 256 ∷ n / 281474976710656 % 256 ∷ n / 72057594037927936 % 256 ∷ []
unfolding bytes_of
bytes_of_8 n = simp div-div-eq-div-mul
