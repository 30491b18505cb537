-- Writing nothing, and writing one thing behind another.
use Rattle.std.proofs.Common.{◌≡◌, ℕ, ◌+◌, ◌≤◌, List, [], ◌++◌, length, take, drop, sym, refl, ap, ◌∙◌, append_assoc, append-nil, arith, length-append, length-take, drop-drop}
use Rattle.plan.specs.Put.{Put}

-- Nothing is written.
pub put_nothing : (before : List ℕ) (at : ℕ) → Put before at [] before at
put_nothing before at = record { ends = omega arith; front = sym (append-nil (take at before)); rest = refl }

-- Two lists that agree from a number on agree from any later one on.
pub drop_later : (m n : ℕ) (xs ys : List ℕ) → drop n xs ≡ drop n ys → drop (n + m) xs ≡ drop (n + m) ys
drop_later m n xs ys same = sym (drop-drop m n xs) ∙ (ap (drop m) same ∙ drop-drop m n ys)

-- Bytes behind bytes.
pub put_then : (a b c : List ℕ) (i j k : ℕ) (xs ys : List ℕ) → Put a i xs b j → Put b j ys c k → Put a i (xs ++ ys) c k
put_then a b c i j k xs ys first second = record {
  ends = simp length-append (omega arith);
  front = second.front ∙ (ap (λ (front : List ℕ). front ++ ys) first.front ∙ append_assoc (take i a) xs ys);
  rest =
      second.rest
      ∙ (ap (λ (n : ℕ). drop n b) second.ends ∙ (drop_later (length ys) j b a first.rest ∙ ap (λ (n : ℕ). drop n a) (sym second.ends)));
}
