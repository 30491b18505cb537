-- A file that is longer than any plan has the fault that its front tells.
use Rattle.std.proofs.Common.{◌≡◌, ℕ, zero, suc, ◌+◌, ◌*◌, ◌^◌, ◌<◌, ◌≤◌, Bool, true, false, not, ltb, List, [], ◌∷◌, ◌++◌, length, take, drop, is_some, Some, None, Option, sym, refl, ap, ◌∙◌, subst, inl, inr, ⊎_elim, true≢false, arith, lit≤, length-append, length-drop, MatchOption}
use lib.Seq.{take-append-le, drop-append-le}
use Rattle.std.specs.Option.{option_or}
use Rattle.std.proofs.lemmas.Bool.{ne_eqb}
use Rattle.plan.specs.declared.fault.FileFault.{FileFault}
use Rattle.plan.specs.declared.fault.FileFaultKind.TheVariants.{OverLimit, WrongLength}
use Rattle.plan.specs.Numbers.{field, number_of}
use Rattle.plan.specs.Format.{rules_start, longest}
use Rattle.plan.specs.Contents.{place_count, binding_count, rule_count, rule_byte}
use Rattle.plan.specs.declared.fault.PlanFault.TheVariants.{InFile}
use Rattle.plan.specs.Faults.{file_fault}
use Rattle.plan.specs.Reading.{LeftOpen, Refused}
use Rattle.plan.specs.Shape.{counts_fault, contents_fault, end_fault, ends_fault, faulty, first_fault, length_fault, lengths_fault, over, shape_fault, wrong_length}
use Rattle.plan.proofs.Firsts.{cases_none, or_nones, or_some}
use Rattle.plan.proofs.Shaped.{counts_pass, later, length_none, shape_whole}

-- A field of the front is that of the file.
pub field_front : (w i : ℕ) (front rest : List ℕ) → i + w ≤ length front → field w i (front ++ rest) ≡ field w i front
field_front w i front rest inside =
    let start : i ≤ length front = omega arith in
    let room : w ≤ length (drop i front) = omega (arith, length-drop i front) in
    ap (λ (xs : List ℕ). number_of (take w xs)) (drop-append-le i front rest start) ∙ ap number_of (take-append-le w (drop i front) rest room)

module _ (front rest : List ℕ) (long : longest ≤ length front) where
  same : (w i : ℕ) → i + w ≤ longest → field w i (front ++ rest) ≡ field w i front
  same w i inside = field_front w i front rest (omega arith)

  counts_same : counts_fault (front ++ rest) ≡ counts_fault front
  counts_same = cc (same 2 2 (lit≤ tt), same 2 10 (lit≤ tt), same 2 18 (lit≤ tt))

  contents_same : contents_fault (front ++ rest) ≡ contents_fault front
  contents_same =
      cc (
        same 2 0 (lit≤ tt),
        same 4 4 (lit≤ tt),
        same 2 8 (lit≤ tt),
        same 4 12 (lit≤ tt),
        same 2 16 (lit≤ tt),
        same 4 20 (lit≤ tt),
        same 2 2 (lit≤ tt),
        same 2 10 (lit≤ tt),
      )

  -- The rules begin at the same byte, which lies in the front.
  record Begins (i : ℕ) : Type 0 where
    pub at : rule_byte (front ++ rest) i ≡ rule_byte front i
    pub below : rule_byte front i ≤ rules_start 256 4096 + 202 * i

  begins_first : place_count front ≤ 256 → binding_count front ≤ 4096 → Begins 0
  unfolding rule_byte
  begins_first places bindings = record {
    at = cc (same 2 2 (lit≤ tt), same 2 10 (lit≤ tt));
    below = omega arith;
  }

  begins_next : (i : ℕ) → i < 8 → Begins i → field 2 (rule_byte front i) front ≤ 200 → Begins (suc i)
  unfolding rule_byte
  begins_next i few b short =
      let below = b.below in
      let len : field 2 (rule_byte (front ++ rest) i) (front ++ rest) ≡ field 2 (rule_byte front i) front =
      ap (λ (n : ℕ). field 2 n (front ++ rest)) b.at ∙ same 2 (rule_byte front i) (omega arith) in
      let at = b.at in
      record { at = omega arith; below = omega arith }

  length_same : (total i : ℕ) → i < 8 → Begins i → length_fault total (front ++ rest) i ≡ length_fault total front i
  length_same total i few b =
      let below = b.below in
      let len : field 2 (rule_byte front i) (front ++ rest) ≡ field 2 (rule_byte front i) front = same 2 (rule_byte front i) (omega arith) in
      ap (λ (n : ℕ). first_fault (wrong_length (ltb total (n + 2)) total ∷ over 200 2 n (front ++ rest) ∷ [])) b.at
      ∙ ap (λ (v : ℕ). first_fault (wrong_length (ltb total (rule_byte front i + 2)) total ∷ faulty (ltb 200 v) OverLimit (rule_byte front i) ∷ [])) len

  -- The lengths of n rules from rule i on: a fault in both, or none, and then the next rule begins in the front too.
  lengths_same : (total i n : ℕ) → i + n ≤ 8 → Begins i
      → (lengths_fault total (front ++ rest) i n ≡ lengths_fault total front i n) × (lengths_fault total front i n ≡ None → Begins (i + n))
  unfolding lengths_fault
  lengths_same total i zero few b = let e : i ≡ i + 0 = omega arith in (refl, λ _. subst Begins e b)
  lengths_same total i (suc n) few b =
      let here = length_same total i (omega arith) b in
      let mine = length_fault total front i in
      let later_file = option_or (lengths_fault total (front ++ rest) (suc i) n) None in
      let later_front = option_or (lengths_fault total front (suc i) n) None in
      elim (cases_none mine) [
        | inl none ↦
            let next = begins_next i (omega arith) b (length_none total front i none).short in
            let others = lengths_same total (suc i) n (omega arith) next in
            let e : suc i + n ≡ i + suc n = omega arith in (
              ap (λ (o : Option FileFault). option_or o later_file) here ∙ ap (λ (o : Option FileFault). option_or mine (option_or o None)) others.0,
              λ nones. subst Begins e (others.1 (or_nones (lengths_fault total front (suc i) n) None (or_nones mine later_front nones).1).0),
            )
        | inr some ↦ (
          ap (λ (o : Option FileFault). option_or o later_file) here ∙ (or_some mine later_file some ∙ sym (or_some mine later_front some)),
          λ nones.
              let none = (or_nones mine later_front nones).0 in
              let z : true ≡ false = sym some ∙ ap is_some none in
              absurd (true≢false z),
        )
      ]

  -- Where the last rule ends before `total`, that is the fault.
  ends_early : (total : ℕ) (f : List ℕ) → rule_byte f (rule_count f) < total → end_fault total f ≡ Some (file_fault WrongLength total)
  ends_early total f less =
      ap (λ (t : Bool). faulty (not t) WrongLength total) (ne_eqb (rule_byte f (rule_count f)) total (λ e. omega arith))

  -- The lengths and the end: no file that is longer than any plan passes them, and the front tells the fault.
  rules_same : (total : ℕ) → longest < total → Begins 0 → rule_count front ≤ 8
      → (option_or (lengths_fault total (front ++ rest) 0 (rule_count (front ++ rest))) (option_or (end_fault total (front ++ rest)) None)
      ≡ option_or (lengths_fault total front 0 (rule_count front)) (option_or (end_fault total front) None))
      × (is_some (option_or (lengths_fault total front 0 (rule_count front)) (option_or (end_fault total front) None)) ≡ true)
  rules_same total over_long b few =
      let mine = lengths_fault total front 0 (rule_count front) in
      let count = same 2 18 (lit≤ tt) in
      let ls = lengths_same total 0 (rule_count front) (omega arith) b in
      let first : lengths_fault total (front ++ rest) 0 (rule_count (front ++ rest)) ≡ mine = ap (lengths_fault total (front ++ rest) 0) count ∙ ls.0 in
      let end_file = option_or (end_fault total (front ++ rest)) None in
      let end_front = option_or (end_fault total front) None in
      elim (cases_none mine) [
        | inl none ↦
            let e : 0 + rule_count front ≡ rule_count front = omega arith in
            let last : Begins (rule_count front) = subst Begins e (ls.1 none) in
            let below = last.below in
            let at = last.at in
            let file_at : rule_byte (front ++ rest) (rule_count (front ++ rest)) ≡ rule_byte front (rule_count front) =
            ap (rule_byte (front ++ rest)) count ∙ at in
            let mine_ends = ends_early total front (omega arith) in
            let file_ends = ends_early total (front ++ rest) (omega arith) in
            let both : end_file ≡ end_front = ap (λ (o : Option FileFault). option_or o None) (file_ends ∙ sym mine_ends) in (
              ap (λ (o : Option FileFault). option_or o end_file) first ∙ ap (option_or mine) both,
              ap (λ (o : Option FileFault). is_some (option_or o end_front)) none ∙ ap (λ (o : Option FileFault). is_some (option_or o None)) mine_ends,
            )
        | inr some ↦ (
          ap (λ (o : Option FileFault). option_or o end_file) first ∙ (or_some mine end_file some ∙ sym (or_some mine end_front some)),
          ap is_some (or_some mine end_front some) ∙ some,
        )
      ]

  -- The front tells the fault of the file, and there is one.
  pub oversized : (total : ℕ) → longest < total
      → (shape_fault total (front ++ rest) ≡ shape_fault total front) × (is_some (shape_fault total front) ≡ true)
  oversized total over_long =
      let head = option_or (counts_fault front) (contents_fault front) in
      let heads : option_or (counts_fault (front ++ rest)) (contents_fault (front ++ rest)) ≡ head =
      ap (λ (o : Option FileFault). option_or o (contents_fault (front ++ rest))) counts_same ∙ ap (option_or (counts_fault front)) contents_same in
      let whole_file = shape_whole total (front ++ rest) (omega arith) in
      let whole_front = shape_whole total front (omega arith) in
      let rules_file = option_or (lengths_fault total (front ++ rest) 0 (rule_count (front ++ rest))) (option_or (end_fault total (front ++ rest)) None) in
      let rules_front = option_or (lengths_fault total front 0 (rule_count front)) (option_or (end_fault total front) None) in
      let ends_file = ends_fault (front ++ rest) 0 (binding_count (front ++ rest)) in
      let ends_front = ends_fault front 0 (binding_count front) in
      elim (cases_none head) [
        | inl none ↦
            let counts = counts_pass front (or_nones (counts_fault front) (contents_fault front) none).0 in
            let rs = rules_same total over_long (begins_first counts.0 counts.1) counts.2 in
            let of_file : later total (front ++ rest) ≡ rules_front =
            ap (λ (o : Option FileFault). option_or o (option_or rules_file ends_file)) (heads ∙ none)
            ∙ (ap (λ (o : Option FileFault). option_or o ends_file) rs.0 ∙ or_some rules_front ends_file rs.1) in
            let of_front : later total front ≡ rules_front =
            ap (λ (o : Option FileFault). option_or o (option_or rules_front ends_front)) none ∙ or_some rules_front ends_front rs.1 in
            (whole_file ∙ (of_file ∙ (sym of_front ∙ sym whole_front)), ap is_some (whole_front ∙ of_front) ∙ rs.1)
        | inr some ↦
            let of_file : later total (front ++ rest) ≡ head =
            ap (λ (o : Option FileFault). option_or o (option_or rules_file ends_file)) heads ∙ or_some head (option_or rules_file ends_file) some in
            let of_front : later total front ≡ head = or_some head (option_or rules_front ends_front) some in
            (whole_file ∙ (of_file ∙ (sym of_front ∙ sym whole_front)), ap is_some (whole_front ∙ of_front) ∙ some)
      ]

-- What the call answers, where the front is long enough.
pub front_tells : (front : List ℕ) (behind total : ℕ) (r : Option FileFault) → longest ≤ length front → 0 < behind → longest < total → total < 2 ^ 64
    → total ≡ length front + behind → r ≡ shape_fault total front
    → MatchOption r (LeftOpen (length front) behind)
    (λ f. (¬ (LeftOpen (length front) behind)) × ((rest : List ℕ) → length rest ≡ behind → Refused (front ++ rest) (InFile f)))
front_tells front behind total (Some f) long some over_long fits sum is =
    let closed : ¬ (LeftOpen (length front) behind) = ⊎_elim (λ none. omega arith) (⊎_elim (λ short. omega arith) (λ large. omega arith)) in (
      closed,
      λ rest len.
          let all : length (front ++ rest) ≡ total = length-append front rest ∙ omega arith in
          ap (λ (n : ℕ). shape_fault n (front ++ rest)) all ∙ ((oversized front rest long total over_long).0 ∙ sym is),
    )
front_tells front behind total None long some over_long fits sum is =
    absurd (true≢false (sym (oversized front [] long total over_long).1 ∙ ap is_some (sym is)))
