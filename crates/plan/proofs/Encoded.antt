-- The file of a plan, part by part.
use Rattle.std.proofs.Common.{◌≡◌, ℕ, ◌+◌, ◌*◌, List, ◌++◌, length, arith, length-append}
use Rattle.plan.specs.Put.{Put}
use Rattle.plan.proofs.Puts.{put_then}
use Rattle.plan.specs.Numbers.{bytes_of}
use Rattle.plan.specs.Format.{Plan, contents, binding_bytes, text_bytes, rules_start, flat, encoded}
use Rattle.plan.proofs.Flat.{length_flat}
use Rattle.plan.proofs.Widths.{length_bytes_of}
use Rattle.plan.proofs.Writes.{length_contents, length_binding, put_three}

pub length_marks : (marks : List ℕ) → length (flat (bytes_of 4) marks) ≡ 4 * length marks
length_marks marks = length_flat 4 (bytes_of 4) (length_bytes_of 4) marks

-- The file has 24 bytes of contents, and behind them those of the marks, the bindings and the texts.
pub length_parts : (p : Plan)
    → length (encoded p) ≡ 24 + (length (flat (bytes_of 4) p.marks) + (length (flat binding_bytes p.records) + length (flat text_bytes p.texts)))
unfolding encoded
length_parts p =
    let marks : List ℕ = flat (bytes_of 4) p.marks in
    let records : List ℕ = flat binding_bytes p.records in
    let texts : List ℕ = flat text_bytes p.texts in
    omega (
      arith,
      length-append (contents (length p.marks) (length p.records) (length p.texts)) (marks ++ (records ++ texts)),
      length-append marks (records ++ texts),
      length-append records texts,
      length_contents (length p.marks) (length p.records) (length p.texts),
    )

-- The file ends behind the texts.
pub length_encoded : (p : Plan)
    → length (encoded p) ≡ rules_start (length p.marks) (length p.records) + length (flat text_bytes p.texts)
length_encoded p = omega (arith, length_parts p, length_marks p.marks, length_flat 12 binding_bytes length_binding p.records)

-- The four parts, one behind the other.
pub put_parts : (p : Plan) {a b c d e : List ℕ} {i j k n : ℕ}
    → Put a 0 (contents (length p.marks) (length p.records) (length p.texts)) b i → Put b i (flat (bytes_of 4) p.marks) c j
    → Put c j (flat binding_bytes p.records) d k → Put d k (flat text_bytes p.texts) e n → Put a 0 (encoded p) e n
unfolding encoded
put_parts p first second third fourth = put_then _ _ _ _ _ _ _ _ first (put_three second third fourth)
