-- The fields of a plan's file hold the plan.
use Rattle.std.proofs.Common.{◌≡◌, ℕ, zero, suc, ◌+◌, ◌-◌, ◌*◌, ◌/◌, ◌^◌, ◌<◌, ◌≤◌, List, [], ◌∷◌, ◌++◌, length, take, drop, Some, Ok, sym, refl, ap, ◌∙◌, subst, append_assoc, append-nil, pow-suc, mul-suc, arith, lit≤, length-append}
use lib.Seq.{drop-append-add, take-append-le, take-length, drop-append_seam}
use Rattle.std.specs.List.{slice_get}
use Rattle.conditions.specs.declared.word.Word.{Word}
use Rattle.routing.specs.declared.binding.Binding.{Binding}
use Rattle.rule_text.specs.Reading.{Reading}
use Rattle.plan.specs.Numbers.{bytes_of, number_of, field}
use Rattle.plan.specs.Format.{Plan, first_body, bindings_start, rules_start, binding_bytes, text_bytes, contents, flat, encoded}
use Rattle.plan.specs.Contents.{place_count, binding_count, rule_count, listed, mark_at, binding_at, binding_byte, rule_byte, text_at, plan_of}
use Rattle.plan.specs.Reading.{Sound, TextsRead}
use Rattle.plan.proofs.Encoded.{length_encoded, length_marks}
use Rattle.plan.proofs.Flat.{length_flat}
use Rattle.plan.proofs.Lent.{rule_short}
use Rattle.plan.proofs.Oversized.{field_front}
use Rattle.plan.proofs.Shaped.{Shaped, rule_bytes_up}
use Rattle.plan.proofs.Widths.{length_bytes_of}
use Rattle.plan.proofs.Writes.{length_binding, length_contents}

-- The number that the bytes of a number write is that number.
pub number_of_bytes : (w n : ℕ) → n < 256 ^ w → number_of (bytes_of w n) ≡ n
unfolding bytes_of number_of
number_of_bytes zero n small = omega arith
number_of_bytes (suc w) n small =
    let power = pow-suc 256 w in
    let high : n / 256 < 256 ^ w = omega arith in
    let rest = number_of_bytes w (n / 256) high in
    omega arith

-- A field behind what stands in front.
pub field_behind : (w i : ℕ) (xs ys : List ℕ) → field w (length xs + i) (xs ++ ys) ≡ field w i ys
field_behind w i xs ys = ap (λ (zs : List ℕ). number_of (take w zs)) (drop-append-add xs ys i)

-- The first field of bytes that begin with a number's.
pub field_of_bytes : (w n : ℕ) (ys : List ℕ) → n < 256 ^ w → field w 0 (bytes_of w n ++ ys) ≡ n
field_of_bytes w n ys small =
    let width = length_bytes_of w n in
    let room : w ≤ length (bytes_of w n) = omega arith in
    ap number_of (take-append-le w (bytes_of w n) ys room ∙ (ap (λ (k : ℕ). take k (bytes_of w n)) (sym width) ∙ take-length (bytes_of w n))) ∙ number_of_bytes w n small

-- A field of an element, in elements of k bytes each.
pub field_of_flat : {A : Type 0} (f : A → List ℕ) (k : ℕ) → ((x : A) → length (f x) ≡ k) → (xs : List A) (i : ℕ) (x : A) → slice_get xs i ≡ Some x
    → (w j : ℕ) (ys : List ℕ) → j + w ≤ k → field w (k * i + j) (flat f xs ++ ys) ≡ field w j (f x)
unfolding flat
field_of_flat f k width [] i x here w j ys inside = let z : ◌≡◌ {A = ℕ} 0 1 = cc in absurd (omega arith)
field_of_flat f k width (y ∷ xs) zero x here w j ys inside =
    let same : y ≡ x = cc in
    let long = width y in
    let at : k * 0 + j ≡ j = omega arith in
    ap (λ (n : ℕ). field w n ((f y ++ flat f xs) ++ ys)) at
    ∙ (ap (field w j) (append_assoc (f y) (flat f xs) ys)
    ∙ (field_front w j (f y) (flat f xs ++ ys) (omega arith) ∙ ap (λ (v : _). field w j (f v)) same))
field_of_flat f k width (y ∷ xs) (suc i) x here w j ys inside =
    let long = width y in
    let at : k * suc i + j ≡ length (f y) + (k * i + j) = omega (arith, mul-suc k i) in
    ap (λ (n : ℕ). field w n ((f y ++ flat f xs) ++ ys)) at
    ∙ (ap (field w (length (f y) + (k * i + j))) (append_assoc (f y) (flat f xs) ys)
    ∙ (field_behind w (k * i + j) (f y) (flat f xs ++ ys) ∙ field_of_flat f k width xs i x here w j ys inside))

-- A list by what stands at each number.
pub listed_is : {A : Type 0} (xs : List A) (f : ℕ → A) → ((i : ℕ) (x : A) → slice_get xs i ≡ Some x → f i ≡ x) → listed (length xs) f ≡ xs
unfolding listed
listed_is [] f at = refl
listed_is (x ∷ xs) f at =
    let first = at 0 x refl in
    let rest = listed_is xs (λ k. f (suc k)) (λ i y here. at (suc i) y here) in
    cc

-- The contents of n places, b bindings and r rules.
pub record ContentsAre (n b r : ℕ) (file : List ℕ) : Type 0 where
  pub first_kind : field 2 0 file ≡ 1
  pub places : field 2 2 file ≡ n
  pub first_start : field 4 4 file ≡ first_body
  pub second_kind : field 2 8 file ≡ 2
  pub bindings : field 2 10 file ≡ b
  pub second_start : field 4 12 file ≡ bindings_start n
  pub third_kind : field 2 16 file ≡ 3
  pub rules : field 2 18 file ≡ r
  pub third_start : field 4 20 file ≡ rules_start n b

-- The three contents entries, in front of any bodies.
contents_fields : (n b r : ℕ) (body : List ℕ) → n ≤ 256 → b ≤ 4096 → r ≤ 8 → ContentsAre n b r (contents n b r ++ body)
unfolding bytes_of number_of
contents_fields n b r body few_n few_b few_r = record {
  first_kind = omega arith;
  places = omega arith;
  first_start = omega arith;
  second_kind = omega arith;
  bindings = omega arith;
  second_start = omega arith;
  third_kind = omega arith;
  rules = omega arith;
  third_start = omega arith;
}

-- The parts of a plan's file.
abbrev heads : Plan → List ℕ
heads p = contents (length p.marks) (length p.records) (length p.texts)

abbrev marks_of : Plan → List ℕ
marks_of p = flat (bytes_of 4) p.marks

abbrev records_of : Plan → List ℕ
records_of p = flat binding_bytes p.records

abbrev texts_of : Plan → List ℕ
texts_of p = flat text_bytes p.texts

contents_of : (p : Plan) → Sound p → ContentsAre (length p.marks) (length p.records) (length p.texts) (encoded p)
unfolding encoded
contents_of p sound =
    contents_fields (length p.marks) (length p.records) (length p.texts) (marks_of p ++ (records_of p ++ texts_of p))
    sound.few_places sound.few_bindings sound.few_rules

-- The marks of a place.
mark_is : (p : Plan) → Sound p → (i m : ℕ) → slice_get p.marks i ≡ Some m → mark_at (encoded p) i ≡ m
unfolding encoded
mark_is p sound i m here =
    let long = length_contents (length p.marks) (length p.records) (length p.texts) in
    let at : first_body + 4 * i ≡ length (heads p) + (4 * i + 0) = omega arith in
    ap (λ (k : ℕ). field 4 k (heads p ++ (marks_of p ++ (records_of p ++ texts_of p)))) at
    ∙ (field_behind 4 (4 * i + 0) (heads p) (marks_of p ++ (records_of p ++ texts_of p))
    ∙ (field_of_flat (bytes_of 4) 4 (length_bytes_of 4) p.marks i m here 4 0 (records_of p ++ texts_of p) (lit≤ tt)
    ∙ (ap (field 4 0) (sym (append-nil (bytes_of 4 m))) ∙ field_of_bytes 4 m [] (sound.marks_fit i m here))))

-- A field of a binding.
binding_field : (p : Plan) → (w j i : ℕ) (x : Binding Word) → slice_get p.records i ≡ Some x → j + w ≤ 12
    → field w (bindings_start (length p.marks) + 12 * i + j) (encoded p) ≡ field w j (binding_bytes x)
unfolding encoded
binding_field p w j i x here inside =
    let long = length_contents (length p.marks) (length p.records) (length p.texts) in
    let marks_long = length_marks p.marks in
    let rest = records_of p ++ texts_of p in
    let at : bindings_start (length p.marks) + 12 * i + j ≡ length (heads p) + (length (marks_of p) + (12 * i + j)) = omega arith in
    ap (λ (k : ℕ). field w k (heads p ++ (marks_of p ++ (records_of p ++ texts_of p)))) at
    ∙ (field_behind w (length (marks_of p) + (12 * i + j)) (heads p) (marks_of p ++ (records_of p ++ texts_of p))
    ∙ (field_behind w (12 * i + j) (marks_of p) (records_of p ++ texts_of p)
    ∙ field_of_flat binding_bytes 12 length_binding p.records i x here w j (texts_of p) inside))

-- The fields of a binding's bytes.
from_field : (x : Binding Word) → x.from < 65536 → field 2 0 (binding_bytes x) ≡ x.from
unfolding bytes_of number_of
from_field x small = omega arith

to_field : (x : Binding Word) → x.to < 65536 → field 2 2 (binding_bytes x) ≡ x.to
unfolding bytes_of number_of
to_field x small = omega arith

set_field : (x : Binding Word) → x.set.0 < 2 ^ 64 → field 8 4 (binding_bytes x) ≡ x.set.0
set_field x small =
    let front = bytes_of 2 x.from ++ bytes_of 2 x.to in
    let long : length front ≡ 4 = length-append (bytes_of 2 x.from) (bytes_of 2 x.to) ∙ omega (arith, length_bytes_of 2 x.from, length_bytes_of 2 x.to) in
    let at : 4 ≡ length front + 0 = omega arith in
    ap (λ (k : ℕ). field 8 k (binding_bytes x)) at
    ∙ (ap (field 8 (length front + 0)) (sym (append_assoc (bytes_of 2 x.from) (bytes_of 2 x.to) (bytes_of 8 x.set.0)))
    ∙ (field_behind 8 0 front (bytes_of 8 x.set.0)
    ∙ (ap (field 8 0) (sym (append-nil (bytes_of 8 x.set.0))) ∙ field_of_bytes 8 x.set.0 [] small)))

-- A binding by its fields.
made : (x : Binding Word) (from to set : ℕ) → from ≡ x.from → to ≡ x.to → set ≡ x.set.0
    → ◌≡◌ {A = Binding Word} (record { from = from; to = to; set = record { 0 = set } }) x
made x from to set a b d =
    ap (λ (v : ℕ). record { from = v; to = to; set = record { 0 = set } }) a
    ∙ (ap (λ (v : ℕ). record { from = x.from; to = v; set = record { 0 = set } }) b
    ∙ ap (λ (v : ℕ). record { from = x.from; to = x.to; set = record { 0 = v } }) d)

-- A binding.
binding_is : (p : Plan) → Sound p → (i : ℕ) (x : Binding Word) → slice_get p.records i ≡ Some x → binding_at (encoded p) i ≡ x
binding_is p sound i x here =
    let fits = sound.bindings_fit i x here in
    let from_in = fits.from_in in
    let to_in = fits.to_in in
    let few = sound.few_places in
    let places = (contents_of p sound).places in
    let byte : binding_byte (encoded p) i ≡ bindings_start (length p.marks) + 12 * i + 0 = omega arith in
    let byte2 : binding_byte (encoded p) i + 2 ≡ bindings_start (length p.marks) + 12 * i + 2 = omega arith in
    let byte4 : binding_byte (encoded p) i + 4 ≡ bindings_start (length p.marks) + 12 * i + 4 = omega arith in
    let a : field 2 (binding_byte (encoded p) i) (encoded p) ≡ x.from =
    ap (λ (k : ℕ). field 2 k (encoded p)) byte ∙ (binding_field p 2 0 i x here (lit≤ tt) ∙ from_field x (omega arith)) in
    let b : field 2 (binding_byte (encoded p) i + 2) (encoded p) ≡ x.to =
    ap (λ (k : ℕ). field 2 k (encoded p)) byte2 ∙ (binding_field p 2 2 i x here (lit≤ tt) ∙ to_field x (omega arith)) in
    let d : field 8 (binding_byte (encoded p) i + 4) (encoded p) ≡ x.set.0 =
    ap (λ (k : ℕ). field 8 k (encoded p)) byte4 ∙ (binding_field p 8 4 i x here (lit≤ tt) ∙ set_field x fits.set_fits) in
    made x (field 2 (binding_byte (encoded p) i) (encoded p)) (field 2 (binding_byte (encoded p) i + 2) (encoded p)) (field 8 (binding_byte (encoded p) i + 4) (encoded p)) a b d

-- The file around the text of rule i: what stands before its length, and what stands behind it.
abbrev before : Plan → ℕ → List ℕ
before p i = heads p ++ (marks_of p ++ (records_of p ++ flat text_bytes (take i p.texts)))

text_split : (ts : List (List ℕ)) (i : ℕ) (t : List ℕ) → slice_get ts i ≡ Some t
    → flat text_bytes ts ≡ flat text_bytes (take i ts) ++ (text_bytes t ++ flat text_bytes (drop (suc i) ts))
unfolding flat
text_split [] i t here = let z : ◌≡◌ {A = ℕ} 0 1 = cc in absurd (omega arith)
text_split (u ∷ ts) zero t here = let same : u ≡ t = cc in ap (λ (v : List ℕ). text_bytes v ++ flat text_bytes ts) same
text_split (u ∷ ts) (suc i) t here =
    ap (λ (xs : List ℕ). text_bytes u ++ xs) (text_split ts i t here)
    ∙ sym (append_assoc (text_bytes u) (flat text_bytes (take i ts)) (text_bytes t ++ flat text_bytes (drop (suc i) ts)))

around : (p : Plan) (i : ℕ) (t : List ℕ) → slice_get p.texts i ≡ Some t
    → encoded p ≡ before p i ++ (text_bytes t ++ flat text_bytes (drop (suc i) p.texts))
unfolding encoded
around p i t here =
    let tail = text_bytes t ++ flat text_bytes (drop (suc i) p.texts) in
    ap (λ (xs : List ℕ). heads p ++ (marks_of p ++ (records_of p ++ xs))) (text_split p.texts i t here) ∙ simp append_assoc

length_before : (p : Plan) (i : ℕ)
    → length (before p i) ≡ rules_start (length p.marks) (length p.records) + length (flat text_bytes (take i p.texts))
length_before p i =
    let texts = flat text_bytes (take i p.texts) in
    omega (
      arith,
      length-append (heads p) (marks_of p ++ (records_of p ++ texts)),
      length-append (marks_of p) (records_of p ++ texts),
      length-append (records_of p) texts,
      length_contents (length p.marks) (length p.records) (length p.texts),
      length_marks p.marks,
      length_flat 12 binding_bytes length_binding p.records,
    )

-- The length of the text, and the text, where the rule begins.
length_is : (p : Plan) (i : ℕ) (t : List ℕ) → slice_get p.texts i ≡ Some t → length t < 65536 → field 2 (length (before p i)) (encoded p) ≡ length t
length_is p i t here small =
    let behind = flat text_bytes (drop (suc i) p.texts) in
    let at : length (before p i) ≡ length (before p i) + 0 = omega arith in
    ap (field 2 (length (before p i))) (around p i t here)
    ∙ (ap (λ (k : ℕ). field 2 k (before p i ++ (text_bytes t ++ behind))) at
    ∙ (field_behind 2 0 (before p i) (text_bytes t ++ behind)
    ∙ (ap (field 2 0) (append_assoc (bytes_of 2 (length t)) t behind) ∙ field_of_bytes 2 (length t) (t ++ behind) small)))

text_is : (p : Plan) (i : ℕ) (t : List ℕ) → slice_get p.texts i ≡ Some t → take (length t) (drop (length (before p i) + 2) (encoded p)) ≡ t
text_is p i t here =
    let behind = flat text_bytes (drop (suc i) p.texts) in
    let two = length_bytes_of 2 (length t) in
    let front : List ℕ = before p i ++ bytes_of 2 (length t) in
    let long : length front ≡ length (before p i) + 2 = length-append (before p i) (bytes_of 2 (length t)) ∙ omega arith in
    let whole : encoded p ≡ front ++ (t ++ behind) = around p i t here ∙ simp append_assoc in
    let room : length t ≤ length t = omega arith in
    ap (λ (xs : List ℕ). take (length t) (drop (length (before p i) + 2) xs)) whole
    ∙ (ap (λ (k : ℕ). take (length t) (drop k (front ++ (t ++ behind)))) (sym long)
    ∙ (ap (take (length t)) (drop-append_seam front (t ++ behind)) ∙ (take-append-le (length t) t behind room ∙ take-length t)))

-- The next rule begins behind the text.
before_next : (ts : List (List ℕ)) (i : ℕ) (t : List ℕ) → slice_get ts i ≡ Some t
    → length (flat text_bytes (take (suc i) ts)) ≡ length (flat text_bytes (take i ts)) + (2 + length t)
unfolding flat
before_next [] i t here = let z : ◌≡◌ {A = ℕ} 0 1 = cc in absurd (omega arith)
before_next (u ∷ ts) zero t here =
    let same : u ≡ t = cc in
    let two = length_bytes_of 2 (length u) in
    let len = ap length same in
    omega (arith, length-append (text_bytes u) [], length-append (bytes_of 2 (length u)) u)
before_next (u ∷ ts) (suc i) t here =
    let rest = before_next ts i t here in
    omega (arith, length-append (text_bytes u) (flat text_bytes (take (suc i) ts)), length-append (text_bytes u) (flat text_bytes (take i ts)))

-- What stands at a number stands below the end.
nth_below : {A : Type 0} (xs : List A) (i : ℕ) (x : A) → slice_get xs i ≡ Some x → i < length xs
nth_below [] i x here = let z : ◌≡◌ {A = ℕ} 0 1 = cc in absurd (omega arith)
nth_below (y ∷ xs) zero x here = omega arith
nth_below (y ∷ xs) (suc i) x here = let rest = nth_below xs i x here in omega arith

-- Below the end of a list something stands at each number.
some_at : {A : Type 0} (xs : List A) (i : ℕ) → i < length xs → (x : A) × (slice_get xs i ≡ Some x)
some_at [] i below = absurd (omega arith)
some_at (x ∷ xs) zero below = (x, refl)
some_at (x ∷ xs) (suc i) below = some_at xs i (omega arith)

text_short : (p : Plan) → Sound p → (i : ℕ) (t : List ℕ) → slice_get p.texts i ≡ Some t → length t ≤ 200
text_short p sound i t here = let rule = sound.rules i t here in rule_short t rule.0 rule.1

-- The byte where rule i begins.
rule_byte_is : (p : Plan) → Sound p → (i : ℕ) → i ≤ length p.texts → rule_byte (encoded p) i ≡ length (before p i)
unfolding rule_byte flat
rule_byte_is p sound zero few =
    let long = length_before p 0 in
    let places = (contents_of p sound).places in
    let bindings = (contents_of p sound).bindings in
    omega arith
rule_byte_is p sound (suc i) few =
    let at = rule_byte_is p sound i (omega arith) in
    let one = some_at p.texts i (omega arith) in
    let t = one.0 in
    let short = text_short p sound i t one.1 in
    let len : field 2 (rule_byte (encoded p) i) (encoded p) ≡ length t = ap (λ (k : ℕ). field 2 k (encoded p)) at ∙ length_is p i t one.1 (omega arith) in
    omega (arith, length_before p i, length_before p (suc i), before_next p.texts i t one.1)

-- The text of rule i.
text_at_is : (p : Plan) → Sound p → (i : ℕ) (t : List ℕ) → slice_get p.texts i ≡ Some t → text_at (encoded p) i ≡ t
text_at_is p sound i t here =
    let below = nth_below p.texts i t here in
    let at = rule_byte_is p sound i (omega arith) in
    let short = text_short p sound i t here in
    let len : field 2 (rule_byte (encoded p) i) (encoded p) ≡ length t = ap (λ (k : ℕ). field 2 k (encoded p)) at ∙ length_is p i t here (omega arith) in
    ap (λ (k : ℕ). take k (drop (rule_byte (encoded p) i + 2) (encoded p))) len
    ∙ (ap (λ (k : ℕ). take (length t) (drop (k + 2) (encoded p))) at ∙ text_is p i t here)

-- The rules end where the file ends.
rules_end : (p : Plan) → Sound p → rule_byte (encoded p) (length p.texts) ≡ length (encoded p)
rules_end p sound =
    let all : flat text_bytes (take (length p.texts) p.texts) ≡ texts_of p = ap (flat text_bytes) (take-length p.texts) in
    rule_byte_is p sound (length p.texts) (omega arith)
    ∙ (length_before p (length p.texts) ∙ omega (arith, ap length all, length_encoded p))

-- The file of a plan has no fault of its shape.
pub encoded_shaped : (p : Plan) → Sound p → Shaped (length (encoded p)) (encoded p)
encoded_shaped p sound =
    let fields = contents_of p sound in
    let file = encoded p in
    let places = fields.places in
    let bindings = fields.bindings in
    let rules = fields.rules in
    let few_places = sound.few_places in
    let few_bindings = sound.few_bindings in
    let few_rules = sound.few_rules in
    let long = length_encoded p in
    record {
      long = omega arith;
      few_places = omega arith;
      few_bindings = omega arith;
      few_rules = omega arith;
      first_kind = fields.first_kind;
      first_start = fields.first_start;
      second_kind = fields.second_kind;
      second_start = fields.second_start ∙ ap bindings_start (sym places);
      third_kind = fields.third_kind;
      third_start = fields.third_start ∙ (ap (λ (k : ℕ). rules_start k (length p.records)) (sym places) ∙ ap (rules_start (place_count file)) (sym bindings));
      lengths = λ i below.
          let one = some_at p.texts i (omega arith) in
          let t = one.0 in
          let short = text_short p sound i t one.1 in
          let at = rule_byte_is p sound i (omega arith) in
          let next = rule_byte_is p sound (suc i) (omega arith) in
          let len : field 2 (rule_byte file i) file ≡ length t = ap (λ (k : ℕ). field 2 k file) at ∙ length_is p i t one.1 (omega arith) in
          let up = rule_bytes_up file (suc i) (length p.texts - suc i) in
          let last : (length p.texts - suc i) + suc i ≡ length p.texts = omega arith in
          let end = ap (rule_byte file) last ∙ rules_end p sound in
          let step = before_next p.texts i t one.1 in
          record { inside = omega (arith, length_before p i, length_before p (suc i)); short = omega arith };
      ended = ap (rule_byte file) rules ∙ rules_end p sound;
      ends = λ i below.
          let one = some_at p.records i (omega arith) in
          let fits = sound.bindings_fit i one.0 one.1 in
          let from_in = fits.from_in in
          let to_in = fits.to_in in
          let is = binding_is p sound i one.0 one.1 in
          let from = ap (λ (x : Binding Word). x.from) is in
          let to = ap (λ (x : Binding Word). x.to) is in
          record { from_in = omega arith; to_in = omega arith };
    }

-- The fields of a plan's file hold the plan.
pub encoded_plan : (p : Plan) → Sound p → plan_of (encoded p) ≡ p
encoded_plan p sound =
    let fields = contents_of p sound in
    let file = encoded p in
    let marks : listed (place_count file) (mark_at file) ≡ p.marks =
    ap (λ (k : ℕ). listed k (mark_at file)) fields.places ∙ listed_is p.marks (mark_at file) (mark_is p sound) in
    let records : listed (binding_count file) (binding_at file) ≡ p.records =
    ap (λ (k : ℕ). listed k (binding_at file)) fields.bindings ∙ listed_is p.records (binding_at file) (binding_is p sound) in
    let texts : listed (rule_count file) (text_at file) ≡ p.texts =
    ap (λ (k : ℕ). listed k (text_at file)) fields.rules ∙ listed_is p.texts (text_at file) (text_at_is p sound) in
    ap (λ (ms : List ℕ). record { marks = ms; records = listed (binding_count file) (binding_at file); texts = listed (rule_count file) (text_at file) }) marks
    ∙ (ap (λ (bs : List (Binding Word)). record { marks = p.marks; records = bs; texts = listed (rule_count file) (text_at file) }) records
    ∙ ap (λ (ts : List (List ℕ)). record { marks = p.marks; records = p.records; texts = ts }) texts)

-- The texts in a plan's file are rules.
pub encoded_reads : (p : Plan) → Sound p → TextsRead (encoded p)
encoded_reads p sound i below =
    let rules = (contents_of p sound).rules in
    let one = some_at p.texts i (omega arith) in
    let rule = sound.rules i one.0 one.1 in
    (rule.0, subst (λ (t : List ℕ). Reading 6 t (Ok rule.0)) (sym (text_at_is p sound i one.0 one.1)) rule.1)
