-- The operands of a row: where they stand in the main list, and what a row makes of them.
use Rattle.std.proofs.Common.{◌≡◌, ℕ, suc, ◌+◌, ◌-◌, ◌*◌, ◌<◌, ◌≤◌, Bool, true, false, cond, List, length, take, drop, IfSome, Some, None, Option, sym, refl, ap, ◌∙◌, subst, mul-le-mul_right, suc-mul, arith}
use borrow.Rule.Slice.PartMut.{put_mid}
use Rattle.std.proofs.lemmas.Slice.{take-put_mid_below, drop-put_mid, between-put_mid}
use Rattle.std.proofs.lemmas.List.Edits.{length-between}
use Rattle.std.proofs.lemmas.Bool.{false≢true}
use Rattle.routing.specs.Net.{Pos, Net, places}
use Rattle.rounds.specs.Claims.{Is}
use Rattle.rounds.specs.Rounds.{Decided}
use Rattle.tables.specs.declared.row.Operation.{Operation}
use Rattle.tables.specs.declared.row.Operation.TheVariants.{Yes, Mark, Condition, Not, And, Or, Next, Until, Always}
use Rattle.tables.specs.Tables.{coded}
use Rattle.judging.specs.Judged.{covers, row_part, PerPlace, HasPart}
use Rattle.judging.specs.Shapes.{Shape, Rounds, first_is_row, second_is_row}

-- The part of an earlier row ends where that of a later one begins, or before.
pub part_before : (k row n : ℕ) → k < row → k * n + n ≤ row * n
part_before k row n l = let s = suc-mul k n in let m = mul-le-mul_right {m = suc k} {n = row} n l in omega arith

-- The part of a row has a set for each place.
pub part_long : {S : Type 0} (N : Net) (n row : ℕ) (main part : List S)
    → n ≡ places N → HasPart N row main → part ≡ row_part n row main → PerPlace N part
part_long N n row main part e room is =
    let r : row * n + n ≤ length main = subst (λ (m : ℕ). row * m + m ≤ length main) (sym e) room in
    ap length is ∙ length-between main (row * n) (row * n + n) r ∙ omega arith

-- An operand that is a row has its part within the main list.
pub operand_within : (o : Option ℕ) (t : Bool) (k row n len : ℕ) → o ≡ cond t (Some k) None → (t ≡ true → k < row) → row * n + n ≤ len
    → IfSome o (λ r. r * n + n ≤ len)
operand_within o true k row n len e earlier room =
    subst (λ (v : Option ℕ). IfSome v (λ r. r * n + n ≤ len)) (sym e) (let p = part_before k row n (earlier refl) in omega arith)
operand_within o false k row n len e earlier room = subst (λ (v : Option ℕ). IfSome v (λ r. r * n + n ≤ len)) (sym e) tt

-- What was copied, where the operand is a row.
pub copied : {S : Type 0} (o : Option ℕ) (t : Bool) (k n : ℕ) (half main : List S) → o ≡ cond t (Some k) None
    → IfSome o (λ r. half ≡ row_part n r main) → t ≡ true → half ≡ row_part n k main
copied o true k n half main e h is = subst (λ (v : Option ℕ). IfSome v (λ r. half ≡ row_part n r main)) e h
copied o false k n half main e h is = absurd (false≢true is)

-- What a row makes of the lists of its operands depends on no other list.
module _ {S : Type 0} (holds : S → ℕ → Bool) (N : Net) (b : Pos → Bool) (r : ℕ) where
  abbrev pub Made : Operation → List S → List S → Type 0
  Made op f s =
      Decided N b (Shape N op (Is (covers holds f)) (Is (covers holds s))) × Rounds N op (Is (covers holds f)) (Is (covers holds s)) r

  first_only : (op : Operation) (f f' s : List S) → f ≡ f' → Made op f s → Made op f' s
  first_only op f f' s e h = subst (λ (v : List S). Made op v s) e h

  both_change : (op : Operation) (f f' s s' : List S) → f ≡ f' → s ≡ s' → Made op f s → Made op f' s'
  both_change op f f' s s' e d h = subst (λ (v : List S). Made op f' v) d (first_only op f f' s e h)

  pub made_of : (op : Operation) (f f' s s' : List S) → (first_is_row op ≡ true → f ≡ f') → (second_is_row op ≡ true → s ≡ s') → Made op f s → Made op f' s'
  made_of Yes f f' s s' e d h = h
  made_of (Mark k) f f' s s' e d h = h
  made_of (Condition k) f f' s s' e d h = h
  made_of (Not p) f f' s s' e d h = first_only (Not p) f f' s (e refl) h
  made_of (Next p) f f' s s' e d h = first_only (Next p) f f' s (e refl) h
  made_of (Always p) f f' s s' e d h = first_only (Always p) f f' s (e refl) h
  made_of (And p q) f f' s s' e d h = both_change (And p q) f f' s s' (e refl) (d refl) h
  made_of (Or p q) f f' s s' e d h = both_change (Or p q) f f' s s' (e refl) (d refl) h
  made_of (Until p q) f f' s s' e d h = both_change (Until p q) f f' s s' (e refl) (d refl) h

-- A row is written to its part of n places, and nothing else of the main list is.
pub record Done {S : Type 0} (holds : S → ℕ → Bool) (N : Net) (op : Operation) (row : ℕ) (main after : List S) (r n : ℕ) : Type 0 where
  pub before : take (row * n) after ≡ take (row * n) main
  pub behind : drop (row * n + n) after ≡ drop (row * n + n) main
  pub made : Made holds N (covers holds (row_part n row after)) r op (row_part n (coded op).first main) (row_part n (coded op).second main)

pub done : {S : Type 0} (holds : S → ℕ → Bool) (N : Net) (op : Operation) (row : ℕ) (main part : List S) (r n : ℕ)
    → row * n + n ≤ length main → length part ≡ n
    → Made holds N (covers holds part) r op (row_part n (coded op).first main) (row_part n (coded op).second main)
    → Done holds N op row main (put_mid (row * n) ((row * n + n) - row * n) main part) r n
done {S} holds N op row main part r n room long made =
    let a : ℕ = row * n in
    let k : ℕ = (a + n) - a in
    record {
      before = take-put_mid_below a k main part a (omega arith) (omega arith);
      behind = drop-put_mid a k main part (a + n) (omega arith) (omega arith) (omega arith);
      made = subst (λ (xs : List S). Made holds N (covers holds xs) r op (row_part n (coded op).first main) (row_part n (coded op).second main))
          (sym (between-put_mid a k main part (a + n) (omega arith) (omega arith))) made;
    }
