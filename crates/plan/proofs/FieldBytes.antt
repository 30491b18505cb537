-- The numbers that two, four and eight bytes write.
use Rattle.std.proofs.Common.{◌≡◌, ℕ, zero, suc, ◌+◌, ◌*◌, ◌≤◌, List, [], ◌∷◌, length, get_or, drop, refl, ap, arith}
use Rattle.std.proofs.lemmas.List.{drop_all}
use Rattle.std.specs.Int.{from_le_bytes, w16, w32, w64}
use Rattle.plan.specs.Numbers.{number_of}

-- The number from byte i on: that byte, and the number behind it.
number_from : (i : ℕ) (bs : List ℕ) → number_of (drop i bs) ≡ get_or bs i 0 + 256 * number_of (drop (suc i) bs)
unfolding number_of
number_from zero [] = refl
number_from (suc i) [] = refl
number_from zero (b ∷ bs) = refl
number_from (suc i) (b ∷ bs) = number_from i bs

number_behind : (n : ℕ) (bs : List ℕ) → length bs ≤ n → number_of (drop n bs) ≡ 0
unfolding number_of
number_behind n bs past = ap number_of (drop_all n bs past)

pub number_of_2 : (bs : List ℕ) → length bs ≡ 2 → from_le_bytes w16 bs ≡ number_of bs
number_of_2 bs long = omega (arith, number_from 0 bs, number_from 1 bs, number_behind 2 bs (omega arith))

pub number_of_4 : (bs : List ℕ) → length bs ≡ 4 → from_le_bytes w32 bs ≡ number_of bs
number_of_4 bs long =
    omega (arith, number_from 0 bs, number_from 1 bs, number_from 2 bs, number_from 3 bs, number_behind 4 bs (omega arith))

pub number_of_8 : (bs : List ℕ) → length bs ≡ 8 → from_le_bytes w64 bs ≡ number_of bs
number_of_8 bs long =
    omega (
      arith,
      number_from 0 bs,
      number_from 1 bs,
      number_from 2 bs,
      number_from 3 bs,
      number_from 4 bs,
      number_from 5 bs,
      number_from 6 bs,
      number_from 7 bs,
      number_behind 8 bs (omega arith),
    )
