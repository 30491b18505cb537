-- A file that passes every test is the file of the plan that its fields hold.
use Rattle.std.proofs.Common.{◌≡◌, ℕ, zero, suc, ◌+◌, ◌-◌, ◌*◌, ◌/◌, ◌%◌, ◌^◌, ◌<◌, ◌≤◌, List, [], ◌∷◌, ◌++◌, length, get_or, take, drop, sym, refl, ap, ◌∙◌, subst, pow-suc, arith, lit<, lit≤, length-drop, length-take, drop-drop, take-add, w8, Fits}
use native.Mathlib.Nat.{one-le-pow}
use lib.Seq.{take-length}
use Rattle.std.specs.List.{between}
use Rattle.plan.specs.Numbers.{bytes_of, number_of, field}
use Rattle.plan.specs.Format.{first_body, bindings_start, rules_start, binding_bytes, text_bytes, contents, entry, flat, encoded}
use Rattle.plan.specs.Contents.{place_count, binding_count, rule_count, listed, mark_at, binding_at, binding_byte, rule_byte, text_at, plan_of}
use Rattle.plan.specs.Fitting.{length_listed}
use Rattle.plan.specs.Reading.{Each, Sound, BindingFits, IsRuleText, TextsRead}
use Rattle.plan.proofs.Elements.{each_cons, each_none}
use Rattle.plan.proofs.Listed.{listed_at}
use Rattle.plan.proofs.Shaped.{Shaped, rule_bytes_rise, text_inside}

-- Every element of the list is a byte.
abbrev pub Bytes : List ℕ → Type 0
Bytes [] = Unit {0}
Bytes (b ∷ bs) = (b < 256) × Bytes bs

pub known_bytes : (file : List ℕ) → ((i : ℕ) → Fits w8 (get_or file i 0)) → Bytes file
known_bytes [] fits = tt
known_bytes (b ∷ bs) fits = let here = fits 0 in (omega arith, known_bytes bs (λ i. fits (suc i)))

pub bytes_take : (n : ℕ) (bs : List ℕ) → Bytes bs → Bytes (take n bs)
bytes_take zero bs all = tt
bytes_take (suc n) [] all = tt
bytes_take (suc n) (b ∷ bs) all = (all.0, bytes_take n bs all.1)

pub bytes_drop : (n : ℕ) (bs : List ℕ) → Bytes bs → Bytes (drop n bs)
bytes_drop zero bs all = all
bytes_drop (suc n) [] all = tt
bytes_drop (suc n) (b ∷ bs) all = bytes_drop n bs all.1

pub each_byte : (bs : List ℕ) → Bytes bs → Each (λ b. b < 2 ^ 8) bs
each_byte [] all = each_none (λ b. b < 2 ^ 8)
each_byte (b ∷ bs) all = each_cons (λ b. b < 2 ^ 8) b bs all.0 (each_byte bs all.1)

-- The bytes of the number that bytes write are those bytes.
pub bytes_of_number : (bs : List ℕ) → Bytes bs → bytes_of (length bs) (number_of bs) ≡ bs
unfolding bytes_of number_of
bytes_of_number [] all = refl
bytes_of_number (b ∷ bs) all =
    let small = all.0 in
    let low : (b + 256 * number_of bs) % 256 ≡ b = omega arith in
    let high : (b + 256 * number_of bs) / 256 ≡ number_of bs = omega arith in
    ap (λ (n : ℕ). n ∷ bytes_of (length bs) ((b + 256 * number_of bs) / 256)) low
    ∙ ap (λ (rest : List ℕ). b ∷ rest) (ap (bytes_of (length bs)) high ∙ bytes_of_number bs all.1)

-- Bytes write a number below 256 to the power of their count.
pub number_below : (w : ℕ) (bs : List ℕ) → Bytes bs → number_of (take w bs) < 256 ^ w
unfolding number_of
number_below zero bs all = lit< tt
number_below (suc w) [] all = one-le-pow (suc w) 256 (lit≤ tt)
number_below (suc w) (b ∷ bs) all =
    let small = all.0 in
    let rest = number_below w bs all.1 in
    let power = pow-suc 256 w in
    omega arith

pub field_below : (w i : ℕ) (file : List ℕ) → Bytes file → field w i file < 256 ^ w
field_below w i file all = number_below w (drop i file) (bytes_drop i file all)

-- The bytes of a field stand in the file.
pub field_bytes : (w i : ℕ) (file : List ℕ) → Bytes file → i + w ≤ length file → bytes_of w (field w i file) ≡ between i (i + w) file
field_bytes w i file all inside =
    let width : w ≡ length (take w (drop i file)) = omega (arith, length-take w (drop i file), length-drop i file) in
    let same : w ≡ i + w - i = omega arith in
    ap (λ (n : ℕ). bytes_of n (field w i file)) width
    ∙ (bytes_of_number (take w (drop i file)) (bytes_take w (drop i file) (bytes_drop i file all)) ∙ ap (λ (n : ℕ). take n (drop i file)) same)

-- One part of the file behind another.
pub parts_join : (i j k : ℕ) (file : List ℕ) → i ≤ j → j ≤ k → between i j file ++ between j k file ≡ between i k file
parts_join i j k file first second =
    let behind : i + (j - i) ≡ j = omega arith in
    let whole : (j - i) + (k - j) ≡ k - i = omega arith in
    ap (λ (n : ℕ). between i j file ++ take (k - j) (drop n file)) (sym behind)
    ∙ (ap (λ (rest : List ℕ). between i j file ++ take (k - j) rest) (sym (drop-drop (j - i) i file))
    ∙ (sym (take-add (j - i) (k - j) (drop i file)) ∙ ap (λ (n : ℕ). take n (drop i file)) whole))

-- Elements whose bytes are parts of the file, each behind the one before: together they are one part.
pub flat_parts : {A : Type 0} (file : List ℕ) (f : A → List ℕ) (g : ℕ → A) (pos : ℕ → ℕ) (n : ℕ)
    → ((k : ℕ) → k < n → (pos k ≤ pos (suc k)) × (f (g k) ≡ between (pos k) (pos (suc k)) file))
    → (pos 0 ≤ pos n) × (flat f (listed n g) ≡ between (pos 0) (pos n) file)
unfolding flat listed
flat_parts file f g pos zero each = let none : pos 0 - pos 0 ≡ 0 = omega arith in (omega arith, sym (ap (λ (n : ℕ). take n (drop (pos 0) file)) none))
flat_parts file f g pos (suc n) each =
    let here = each 0 (omega arith) in
    let rest = flat_parts file f (λ k. g (suc k)) (λ k. pos (suc k)) n (λ k below. each (suc k) (omega arith)) in
    let first = here.0 in
    let second = rest.0 in (
      omega arith,
      ap (λ (xs : List ℕ). xs ++ flat f (listed n (λ k. g (suc k)))) here.1
          ∙ (ap (λ (xs : List ℕ). between (pos 0) (pos 1) file ++ xs) rest.1 ∙ parts_join (pos 0) (pos 1) (pos (suc n)) file first second),
    )

-- A field that is known, by its bytes.
known_field : (w i v : ℕ) (file : List ℕ) → Bytes file → i + w ≤ length file → field w i file ≡ v → bytes_of w v ≡ between i (i + w) file
known_field w i v file all inside is = ap (bytes_of w) (sym is) ∙ field_bytes w i file all inside

-- A contents entry stands in the file.
entry_part : (i kind count start : ℕ) (file : List ℕ) → Bytes file → i + 8 ≤ length file
    → field 2 i file ≡ kind → field 2 (i + 2) file ≡ count → field 4 (i + 4) file ≡ start → entry kind count start ≡ between i (i + 8) file
entry_part i kind count start file all inside is_kind is_count is_start =
    let a = known_field 2 i kind file all (omega arith) is_kind in
    let b = known_field 2 (i + 2) count file all (omega arith) is_count in
    let d = known_field 4 (i + 4) start file all (omega arith) is_start in
    let e2 : i + 2 + 2 ≡ i + 4 = omega arith in
    let e4 : i + 4 + 4 ≡ i + 8 = omega arith in
    let b' : bytes_of 2 count ≡ between (i + 2) (i + 4) file = b ∙ ap (λ (n : ℕ). between (i + 2) n file) e2 in
    let d' : bytes_of 4 start ≡ between (i + 4) (i + 8) file = d ∙ ap (λ (n : ℕ). between (i + 4) n file) e4 in
    ap (λ (xs : List ℕ). xs ++ (bytes_of 2 count ++ bytes_of 4 start)) a
    ∙ (ap (λ (xs : List ℕ). between i (i + 2) file ++ (xs ++ bytes_of 4 start)) b'
    ∙ (ap (λ (xs : List ℕ). between i (i + 2) file ++ (between (i + 2) (i + 4) file ++ xs)) d'
    ∙ (ap (λ (xs : List ℕ). between i (i + 2) file ++ xs) (parts_join (i + 2) (i + 4) (i + 8) file (omega arith) (omega arith))
    ∙ parts_join i (i + 2) (i + 8) file (omega arith) (omega arith))))

-- The contents stand in the file.
contents_part : (file : List ℕ) → Bytes file → Shaped (length file) file
    → contents (place_count file) (binding_count file) (rule_count file) ≡ between 0 24 file
contents_part file all s =
    let long = s.long in
    let a = entry_part 0 1 (place_count file) first_body file all (omega arith) s.first_kind refl s.first_start in
    let b = entry_part 8 2 (binding_count file) (bindings_start (place_count file)) file all (omega arith) s.second_kind refl s.second_start in
    let d = entry_part 16 3 (rule_count file) (rules_start (place_count file) (binding_count file)) file all (omega arith) s.third_kind refl s.third_start in
    ap (λ (xs : List ℕ). xs ++ (entry 2 (binding_count file) (bindings_start (place_count file)) ++ entry 3 (rule_count file) (rules_start (place_count file) (binding_count file)))) a
    ∙ (ap (λ (xs : List ℕ). between 0 8 file ++ (xs ++ entry 3 (rule_count file) (rules_start (place_count file) (binding_count file)))) b
    ∙ (ap (λ (xs : List ℕ). between 0 8 file ++ (between 8 16 file ++ xs)) d
    ∙ (ap (λ (xs : List ℕ). between 0 8 file ++ xs) (parts_join 8 16 24 file (lit≤ tt) (lit≤ tt)) ∙ parts_join 0 8 24 file (lit≤ tt) (lit≤ tt))))

-- The places, the bindings and the rules stand in the file.
marks_part : (file : List ℕ) → Bytes file → bindings_start (place_count file) ≤ length file
    → flat (bytes_of 4) (listed (place_count file) (mark_at file)) ≡ between 24 (bindings_start (place_count file)) file
marks_part file all inside =
    (flat_parts file (bytes_of 4) (mark_at file) (λ k. 24 + 4 * k) (place_count file)
    (λ k below.
    let next : 24 + 4 * k + 4 ≡ 24 + 4 * suc k = omega arith in
    (omega arith, field_bytes 4 (24 + 4 * k) file all (omega arith) ∙ ap (λ (n : ℕ). between (24 + 4 * k) n file) next))
    ).1

binding_part : (file : List ℕ) (i : ℕ) → Bytes file → i + 12 ≤ length file
    → bytes_of 2 (field 2 i file) ++ (bytes_of 2 (field 2 (i + 2) file) ++ bytes_of 8 (field 8 (i + 4) file)) ≡ between i (i + 12) file
binding_part file i all inside =
    let a = field_bytes 2 i file all (omega arith) in
    let e2 : i + 2 + 2 ≡ i + 4 = omega arith in
    let e4 : i + 4 + 8 ≡ i + 12 = omega arith in
    let b : bytes_of 2 (field 2 (i + 2) file) ≡ between (i + 2) (i + 4) file = field_bytes 2 (i + 2) file all (omega arith) ∙ ap (λ (n : ℕ). between (i + 2) n file) e2 in
    let d : bytes_of 8 (field 8 (i + 4) file) ≡ between (i + 4) (i + 12) file = field_bytes 8 (i + 4) file all (omega arith) ∙ ap (λ (n : ℕ). between (i + 4) n file) e4 in
    ap (λ (xs : List ℕ). xs ++ (bytes_of 2 (field 2 (i + 2) file) ++ bytes_of 8 (field 8 (i + 4) file))) a
    ∙ (ap (λ (xs : List ℕ). between i (i + 2) file ++ (xs ++ bytes_of 8 (field 8 (i + 4) file))) b
    ∙ (ap (λ (xs : List ℕ). between i (i + 2) file ++ (between (i + 2) (i + 4) file ++ xs)) d
    ∙ (ap (λ (xs : List ℕ). between i (i + 2) file ++ xs) (parts_join (i + 2) (i + 4) (i + 12) file (omega arith) (omega arith))
    ∙ parts_join i (i + 2) (i + 12) file (omega arith) (omega arith))))

records_part : (file : List ℕ) → Bytes file → rules_start (place_count file) (binding_count file) ≤ length file
    → flat binding_bytes (listed (binding_count file) (binding_at file))
    ≡ between (bindings_start (place_count file)) (rules_start (place_count file) (binding_count file)) file
records_part file all inside =
    let first : binding_byte file 0 ≡ bindings_start (place_count file) = omega arith in
    (flat_parts file binding_bytes (binding_at file) (binding_byte file) (binding_count file)
    (λ k below.
    let next : binding_byte file k + 12 ≡ binding_byte file (suc k) = omega arith in
    (omega arith, binding_part file (binding_byte file k) all (omega arith) ∙ ap (λ (n : ℕ). between (binding_byte file k) n file) next))
    ).1
    ∙ ap (λ (n : ℕ). between n (rules_start (place_count file) (binding_count file)) file) first

text_part : (file : List ℕ) (i : ℕ) → Bytes file → i + 2 + field 2 i file ≤ length file
    → text_bytes (take (field 2 i file) (drop (i + 2) file)) ≡ between i (i + 2 + field 2 i file) file
text_part file i all inside =
    let len : length (take (field 2 i file) (drop (i + 2) file)) ≡ field 2 i file = omega (arith, length-take (field 2 i file) (drop (i + 2) file), length-drop (i + 2) file) in
    let same : field 2 i file ≡ i + 2 + field 2 i file - (i + 2) = omega arith in
    ap (λ (n : ℕ). bytes_of 2 n ++ take (field 2 i file) (drop (i + 2) file)) len
    ∙ (ap (λ (xs : List ℕ). xs ++ take (field 2 i file) (drop (i + 2) file)) (field_bytes 2 i file all (omega arith))
    ∙ (ap (λ (n : ℕ). between i (i + 2) file ++ take n (drop (i + 2) file)) same
    ∙ parts_join i (i + 2) (i + 2 + field 2 i file) file (omega arith) (omega arith)))

texts_part : (file : List ℕ) → Bytes file → Shaped (length file) file
    → flat text_bytes (listed (rule_count file) (text_at file)) ≡ between (rules_start (place_count file) (binding_count file)) (length file) file
unfolding rule_byte
texts_part file all s =
    (flat_parts file text_bytes (text_at file) (rule_byte file) (rule_count file)
    (λ k below.
    let inside = text_inside (length file) file s k below in
    (omega arith, text_part file (rule_byte file k) all inside))
    ).1
    ∙ ap (λ (n : ℕ). between (rule_byte file 0) n file) s.ended

-- The parts make the file.
file_encoded : (file : List ℕ) → Bytes file → Shaped (length file) file → encoded (plan_of file) ≡ file
unfolding encoded
file_encoded file all s =
    let rise = rule_bytes_rise file (rule_count file) in
    let ended = s.ended in
    let long = s.long in
    let n = place_count file in
    let b = binding_count file in
    let marks = listed n (mark_at file) in
    let records = listed b (binding_at file) in
    let texts = listed (rule_count file) (text_at file) in
    let head : contents (length marks) (length records) (length texts) ≡ between 0 24 file =
    ap (λ (k : ℕ). contents k (length records) (length texts)) (length_listed n (mark_at file))
    ∙ (ap (λ (k : ℕ). contents n k (length texts)) (length_listed b (binding_at file))
    ∙ (ap (contents n b) (length_listed (rule_count file) (text_at file)) ∙ contents_part file all s)) in
    let all_of : length file - 0 ≡ length file = omega arith in
    ap (λ (xs : List ℕ). xs ++ (flat (bytes_of 4) marks ++ (flat binding_bytes records ++ flat text_bytes texts))) head
    ∙ (ap (λ (xs : List ℕ). between 0 24 file ++ (xs ++ (flat binding_bytes records ++ flat text_bytes texts))) (marks_part file all (omega arith))
    ∙ (ap (λ (xs : List ℕ). between 0 24 file ++ (between 24 (bindings_start n) file ++ (xs ++ flat text_bytes texts))) (records_part file all (omega arith))
    ∙ (ap (λ (xs : List ℕ). between 0 24 file ++ (between 24 (bindings_start n) file ++ (between (bindings_start n) (rules_start n b) file ++ xs))) (texts_part file all s)
    ∙ (ap (λ (xs : List ℕ). between 0 24 file ++ (between 24 (bindings_start n) file ++ xs)) (parts_join (bindings_start n) (rules_start n b) (length file) file (omega arith) (omega arith))
    ∙ (ap (λ (xs : List ℕ). between 0 24 file ++ xs) (parts_join 24 (bindings_start n) (length file) file (omega arith) (omega arith))
    ∙ (parts_join 0 24 (length file) file (omega arith) (omega arith) ∙ (ap (λ (k : ℕ). take k file) all_of ∙ take-length file)))))))

-- What holds at each number holds of each element.
each_listed : {A : Type 0} (P : A → Type 0) (n : ℕ) (f : ℕ → A) → ((k : ℕ) → k < n → P (f k)) → Each P (listed n f)
each_listed P n f all i x here = let at = listed_at n f i x here in subst P at.1 (all i at.0)

-- The plan that the fields hold keeps to the limits.
plan_sound : (file : List ℕ) → Bytes file → Shaped (length file) file → TextsRead file → Sound (plan_of file)
plan_sound file all s reads =
    let places = length_listed (place_count file) (mark_at file) in
    let bindings = length_listed (binding_count file) (binding_at file) in
    let rules = length_listed (rule_count file) (text_at file) in
    let few_places = s.few_places in
    let few_bindings = s.few_bindings in
    let few_rules = s.few_rules in
    record {
      few_places = omega arith;
      few_bindings = omega arith;
      few_rules = omega arith;
      marks_fit = each_listed (λ m. m < 2 ^ 32) (place_count file) (mark_at file) (λ k below. field_below 4 (first_body + 4 * k) file all);
      bindings_fit = each_listed (BindingFits (length (listed (place_count file) (mark_at file)))) (binding_count file) (binding_at file)
          (λ k below.
          let fit = s.ends k below in
          let from = fit.from_in in
          let to = fit.to_in in
          record { from_in = omega arith; to_in = omega arith; set_fits = field_below 8 (binding_byte file k + 4) file all });
      texts_fit = each_listed (Each (λ b. b < 2 ^ 8)) (rule_count file) (text_at file)
          (λ k below. each_byte (text_at file k) (bytes_take (field 2 (rule_byte file k) file) (drop (rule_byte file k + 2) file) (bytes_drop (rule_byte file k + 2) file all)));
      rules = each_listed IsRuleText (rule_count file) (text_at file) reads;
    }

-- So it is where every element is a byte.
pub bytes_are_plan : (file : List ℕ) → Bytes file → Shaped (length file) file → TextsRead file → Sound (plan_of file) × (encoded (plan_of file) ≡ file)
bytes_are_plan file all s reads = (plan_sound file all s reads, file_encoded file all s)

-- The elements of a lent file are bytes.
pub file_is_plan : (file : List ℕ) → ((i : ℕ) → Fits w8 (get_or file i 0)) → Shaped (length file) file → TextsRead file
    → Sound (plan_of file) × (encoded (plan_of file) ≡ file)
file_is_plan file fits s reads = bytes_are_plan file (known_bytes file fits) s reads
