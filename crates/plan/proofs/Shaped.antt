-- A file with no fault of its shape: what each test says.
use Rattle.std.proofs.Common.{◌≡◌, ℕ, zero, suc, ◌+◌, ◌-◌, ◌<◌, ◌≤◌, Bool, not, eqb, ltb, List, Some, None, Option, sym, refl, ap, ◌∙◌, subst, arith}
use Rattle.std.specs.Option.{option_or}
use Rattle.std.proofs.lemmas.Bool.{eq-eqb, eqb-true, le-ltb, ltb-false, not-false}
use Rattle.plan.specs.declared.fault.FileFault.{FileFault}
use Rattle.plan.specs.declared.fault.FileFaultKind.TheVariants.{WrongLength}
use Rattle.plan.specs.Numbers.{field}
use Rattle.plan.specs.Format.{first_body, bindings_start, rules_start}
use Rattle.plan.specs.Contents.{place_count, binding_count, rule_count, binding_byte, rule_byte}
use Rattle.plan.specs.Shape.{counts_fault, contents_fault, differs, end_fault, ends_fault, faulty, length_fault, lengths_fault, no_place, over, shape_fault, wrong_length}
use Rattle.plan.proofs.Firsts.{differs_none, faulty_none, none_differs, none_faulty, none_or, none_over, none_place, or_end, or_nones, over_none, place_none}

-- The length of rule i is in the file and at most 200.
pub record LengthFits (total : ℕ) (file : List ℕ) (i : ℕ) : Type 0 where
  pub inside : rule_byte file i + 2 ≤ total
  pub short : field 2 (rule_byte file i) file ≤ 200

-- Both ends of binding i are places.
pub record EndsFit (file : List ℕ) (i : ℕ) : Type 0 where
  pub from_in : field 2 (binding_byte file i) file < place_count file
  pub to_in : field 2 (binding_byte file i + 2) file < place_count file

pub record Shaped (total : ℕ) (file : List ℕ) : Type 0 where
  pub long : 24 ≤ total
  pub few_places : place_count file ≤ 256
  pub few_bindings : binding_count file ≤ 4096
  pub few_rules : rule_count file ≤ 8
  pub first_kind : field 2 0 file ≡ 1
  pub first_start : field 4 4 file ≡ first_body
  pub second_kind : field 2 8 file ≡ 2
  pub second_start : field 4 12 file ≡ bindings_start (place_count file)
  pub third_kind : field 2 16 file ≡ 3
  pub third_start : field 4 20 file ≡ rules_start (place_count file) (binding_count file)
  pub lengths : (i : ℕ) → i < rule_count file → LengthFits total file i
  pub ended : rule_byte file (rule_count file) ≡ total
  pub ends : (i : ℕ) → i < binding_count file → EndsFit file i

-- The length of one rule.
pub length_none : (total : ℕ) (file : List ℕ) (i : ℕ) → length_fault total file i ≡ None → LengthFits total file i
length_none total file i e =
    let in_file = or_nones (wrong_length (ltb total (rule_byte file i + 2)) total) (option_or (over 200 2 (rule_byte file i) file) None) e in
    let limit = or_nones (over 200 2 (rule_byte file i) file) None in_file.1 in
    record {
      inside = ltb-false total (rule_byte file i + 2) (faulty_none (ltb total (rule_byte file i + 2)) WrongLength total in_file.0);
      short = over_none 200 2 (rule_byte file i) file limit.0;
    }

pub none_length : (total : ℕ) (file : List ℕ) (i : ℕ) → LengthFits total file i → length_fault total file i ≡ None
none_length total file i fits =
    none_or (wrong_length (ltb total (rule_byte file i + 2)) total) (option_or (over 200 2 (rule_byte file i) file) None)
    (none_faulty (ltb total (rule_byte file i + 2)) WrongLength total (le-ltb total (rule_byte file i + 2) fits.inside))
    (none_or (over 200 2 (rule_byte file i) file) None (none_over 200 2 (rule_byte file i) file fits.short) refl)

-- The lengths of n rules from rule i on.
pub lengths_pass : (total : ℕ) (file : List ℕ) (i n : ℕ) → lengths_fault total file i n ≡ None → (k : ℕ) → k < n → LengthFits total file (i + k)
unfolding lengths_fault
lengths_pass total file i zero e k below = absurd (omega arith)
lengths_pass total file i (suc n) e zero below =
    let here = or_nones (length_fault total file i) (option_or (lengths_fault total file (suc i) n) None) e in
    let same : i ≡ i + 0 = omega arith in
    subst (LengthFits total file) same (length_none total file i here.0)
lengths_pass total file i (suc n) e (suc k) below =
    let here = or_nones (length_fault total file i) (option_or (lengths_fault total file (suc i) n) None) e in
    let rest = or_nones (lengths_fault total file (suc i) n) None here.1 in
    let same : suc i + k ≡ i + suc k = omega arith in
    subst (LengthFits total file) same (lengths_pass total file (suc i) n rest.0 k (omega arith))

pub pass_lengths : (total : ℕ) (file : List ℕ) (i n : ℕ) → ((k : ℕ) → k < n → LengthFits total file (i + k)) → lengths_fault total file i n ≡ None
unfolding lengths_fault
pass_lengths total file i zero all = refl
pass_lengths total file i (suc n) all =
    let same : i + 0 ≡ i = omega arith in
    none_or (length_fault total file i) (option_or (lengths_fault total file (suc i) n) None)
    (none_length total file i (subst (LengthFits total file) same (all 0 (omega arith))))
    (none_or (lengths_fault total file (suc i) n) None
    (pass_lengths total file (suc i) n
    (λ k below. let next : i + suc k ≡ suc i + k = omega arith in subst (LengthFits total file) next (all (suc k) (omega arith)))) refl)

-- The ends of n bindings from binding i on.
pub ends_pass : (file : List ℕ) (i n : ℕ) → ends_fault file i n ≡ None → (k : ℕ) → k < n → EndsFit file (i + k)
unfolding ends_fault
ends_pass file i zero e k below = absurd (omega arith)
ends_pass file i (suc n) e zero below =
    let from = or_nones (no_place (binding_byte file i) file) (option_or (no_place (binding_byte file i + 2) file) (option_or (ends_fault file (suc i) n) None)) e in
    let to = or_nones (no_place (binding_byte file i + 2) file) (option_or (ends_fault file (suc i) n) None) from.1 in
    let same : i ≡ i + 0 = omega arith in
    subst (EndsFit file) same (record { from_in = place_none (binding_byte file i) file from.0; to_in = place_none (binding_byte file i + 2) file to.0 })
ends_pass file i (suc n) e (suc k) below =
    let from = or_nones (no_place (binding_byte file i) file) (option_or (no_place (binding_byte file i + 2) file) (option_or (ends_fault file (suc i) n) None)) e in
    let to = or_nones (no_place (binding_byte file i + 2) file) (option_or (ends_fault file (suc i) n) None) from.1 in
    let rest = or_nones (ends_fault file (suc i) n) None to.1 in
    let same : suc i + k ≡ i + suc k = omega arith in
    subst (EndsFit file) same (ends_pass file (suc i) n rest.0 k (omega arith))

pub pass_ends : (file : List ℕ) (i n : ℕ) → ((k : ℕ) → k < n → EndsFit file (i + k)) → ends_fault file i n ≡ None
unfolding ends_fault
pass_ends file i zero all = refl
pass_ends file i (suc n) all =
    let same : i + 0 ≡ i = omega arith in
    let here = subst (EndsFit file) same (all 0 (omega arith)) in
    none_or (no_place (binding_byte file i) file) (option_or (no_place (binding_byte file i + 2) file) (option_or (ends_fault file (suc i) n) None))
    (none_place (binding_byte file i) file here.from_in)
    (none_or (no_place (binding_byte file i + 2) file) (option_or (ends_fault file (suc i) n) None) (none_place (binding_byte file i + 2) file here.to_in)
    (none_or (ends_fault file (suc i) n) None
    (pass_ends file (suc i) n
    (λ k below. let next : i + suc k ≡ suc i + k = omega arith in subst (EndsFit file) next (all (suc k) (omega arith)))) refl))

-- The counts keep to their limits.
pub counts_pass : (file : List ℕ) → counts_fault file ≡ None → (place_count file ≤ 256) × (binding_count file ≤ 4096) × (rule_count file ≤ 8)
counts_pass file e =
    let a = or_nones (over 256 2 2 file) (option_or (over 4096 2 10 file) (option_or (over 8 2 18 file) None)) e in
    let b = or_nones (over 4096 2 10 file) (option_or (over 8 2 18 file) None) a.1 in
    let d = or_nones (over 8 2 18 file) None b.1 in
    (over_none 256 2 2 file a.0, over_none 4096 2 10 file b.0, over_none 8 2 18 file d.0)

-- A file with no fault of its shape.
pub shape_passes : (total : ℕ) (file : List ℕ) → shape_fault total file ≡ None → Shaped total file
unfolding shape_fault
shape_passes total file e =
    let t1 = wrong_length (ltb total first_body) total in
    let t4 = lengths_fault total file 0 (rule_count file) in
    let t6 = ends_fault file 0 (binding_count file) in
    let a = or_nones t1 (option_or (counts_fault file) (option_or (contents_fault file) (option_or t4 (option_or (end_fault total file) (option_or t6 None))))) e in
    let b = or_nones (counts_fault file) (option_or (contents_fault file) (option_or t4 (option_or (end_fault total file) (option_or t6 None)))) a.1 in
    let d = or_nones (contents_fault file) (option_or t4 (option_or (end_fault total file) (option_or t6 None))) b.1 in
    let f = or_nones t4 (option_or (end_fault total file) (option_or t6 None)) d.1 in
    let g = or_nones (end_fault total file) (option_or t6 None) f.1 in
    let h = or_nones t6 None g.1 in
    let counts = counts_pass file b.0 in
    let k1 = differs 1 2 0 file in
    let s1 = differs first_body 4 4 file in
    let k2 = differs 2 2 8 file in
    let s2 = differs (bindings_start (place_count file)) 4 12 file in
    let k3 = differs 3 2 16 file in
    let s3 = differs (rules_start (place_count file) (binding_count file)) 4 20 file in
    let c1 = or_nones k1 (option_or s1 (option_or k2 (option_or s2 (option_or k3 (option_or s3 None))))) d.0 in
    let c2 = or_nones s1 (option_or k2 (option_or s2 (option_or k3 (option_or s3 None)))) c1.1 in
    let c3 = or_nones k2 (option_or s2 (option_or k3 (option_or s3 None))) c2.1 in
    let c4 = or_nones s2 (option_or k3 (option_or s3 None)) c3.1 in
    let c5 = or_nones k3 (option_or s3 None) c4.1 in
    let c6 = or_nones s3 None c5.1 in
    record {
      long = ltb-false total first_body (faulty_none (ltb total first_body) WrongLength total a.0);
      few_places = counts.0;
      few_bindings = counts.1;
      few_rules = counts.2;
      first_kind = differs_none 1 2 0 file c1.0;
      first_start = differs_none first_body 4 4 file c2.0;
      second_kind = differs_none 2 2 8 file c3.0;
      second_start = differs_none (bindings_start (place_count file)) 4 12 file c4.0;
      third_kind = differs_none 3 2 16 file c5.0;
      third_start = differs_none (rules_start (place_count file) (binding_count file)) 4 20 file c6.0;
      lengths = λ i below. let same : 0 + i ≡ i = omega arith in subst (LengthFits total file) same (lengths_pass total file 0 (rule_count file) f.0 i below);
      ended =
          eqb-true (rule_byte file (rule_count file)) total
          (not-false _ (faulty_none (not (eqb (rule_byte file (rule_count file)) total)) WrongLength total g.0));
      ends = λ i below. let same : 0 + i ≡ i = omega arith in subst (EndsFit file) same (ends_pass file 0 (binding_count file) h.0 i below);
    }

pub passes_shape : (total : ℕ) (file : List ℕ) → Shaped total file → shape_fault total file ≡ None
unfolding shape_fault
passes_shape total file s =
    none_or (wrong_length (ltb total first_body) total) _
    (none_faulty (ltb total first_body) WrongLength total (le-ltb total first_body s.long))
    (none_or (counts_fault file) _
    (none_or (over 256 2 2 file) _ (none_over 256 2 2 file s.few_places)
    (none_or (over 4096 2 10 file) _ (none_over 4096 2 10 file s.few_bindings)
    (none_or (over 8 2 18 file) _ (none_over 8 2 18 file s.few_rules) refl)))
    (none_or (contents_fault file) _
    (none_or (differs 1 2 0 file) _ (none_differs 1 2 0 file s.first_kind)
    (none_or (differs first_body 4 4 file) _ (none_differs first_body 4 4 file s.first_start)
    (none_or (differs 2 2 8 file) _ (none_differs 2 2 8 file s.second_kind)
    (none_or (differs (bindings_start (place_count file)) 4 12 file) _ (none_differs (bindings_start (place_count file)) 4 12 file s.second_start)
    (none_or (differs 3 2 16 file) _ (none_differs 3 2 16 file s.third_kind)
    (none_or (differs (rules_start (place_count file) (binding_count file)) 4 20 file) _
    (none_differs (rules_start (place_count file) (binding_count file)) 4 20 file s.third_start) refl))))))
    (none_or (lengths_fault total file 0 (rule_count file)) _
    (pass_lengths total file 0 (rule_count file)
    (λ k below. let same : k ≡ 0 + k = omega arith in subst (LengthFits total file) same (s.lengths k below)))
    (none_or (end_fault total file) _
    (none_faulty (not (eqb (rule_byte file (rule_count file)) total)) WrongLength total (ap not (eq-eqb (rule_byte file (rule_count file)) total s.ended)))
    (none_or (ends_fault file 0 (binding_count file)) _
    (pass_ends file 0 (binding_count file)
    (λ k below. let same : k ≡ 0 + k = omega arith in subst (EndsFit file) same (s.ends k below))) refl)))))

-- The length at a byte passes its tests.
pub length_at_none : (total byte : ℕ) (file : List ℕ)
    → option_or (wrong_length (ltb total (byte + 2)) total) (option_or (over 200 2 byte file) None) ≡ None → (byte + 2 ≤ total) × (field 2 byte file ≤ 200)
length_at_none total byte file e =
    let in_file = or_nones (wrong_length (ltb total (byte + 2)) total) (option_or (over 200 2 byte file) None) e in
    let limit = or_nones (over 200 2 byte file) None in_file.1 in
    (ltb-false total (byte + 2) (faulty_none (ltb total (byte + 2)) WrongLength total in_file.0), over_none 200 2 byte file limit.0)

-- The next rule begins behind the length and the text.
pub rule_byte_next : (file : List ℕ) (i byte len : ℕ) → byte ≡ rule_byte file i → len ≡ field 2 byte file → byte + (2 + len) ≡ rule_byte file (i + 1)
unfolding rule_byte
rule_byte_next file i byte len at is =
    let next : i + 1 ≡ suc i = omega arith in
    let len' : len ≡ field 2 (rule_byte file i) file = is ∙ ap (λ (b : ℕ). field 2 b file) at in
    let sum : byte + (2 + len) ≡ rule_byte file i + 2 + field 2 (rule_byte file i) file = omega arith in
    sum ∙ ap (rule_byte file) (sym next)

regroup : {T : Type 0} (a b d e f g : Option T)
    → option_or a (option_or b (option_or d (option_or e (option_or f (option_or g None))))) ≡ option_or a (option_or (option_or b d) (option_or (option_or e (option_or f None)) g))
regroup (Some a) b d e f g = refl
regroup None (Some b) d e f g = refl
regroup None None (Some d) e f g = refl
regroup None None None (Some e) f g = refl
regroup None None None None (Some f) g = refl
regroup None None None None None g = or_end g

-- The tests behind the first as the code groups them: the counts with the contents, and the lengths with the end.
abbrev pub later : ℕ → List ℕ → Option FileFault
later total file =
    option_or (option_or (counts_fault file) (contents_fault file))
    (option_or (option_or (lengths_fault total file 0 (rule_count file)) (option_or (end_fault total file) None)) (ends_fault file 0 (binding_count file)))

pub shape_groups : (total : ℕ) (file : List ℕ) → shape_fault total file ≡ option_or (wrong_length (ltb total first_body) total) (later total file)
unfolding shape_fault
shape_groups total file =
    regroup (wrong_length (ltb total first_body) total) (counts_fault file) (contents_fault file) (lengths_fault total file 0 (rule_count file))
    (end_fault total file) (ends_fault file 0 (binding_count file))

-- In a file that is long enough for its contents the groups decide in turn.
pub shape_whole : (total : ℕ) (file : List ℕ) → first_body ≤ total
    → shape_fault total file ≡ later total file
shape_whole total file long =
    shape_groups total file ∙ ap (λ (t : Bool). option_or (faulty t WrongLength total) (later total file)) (le-ltb total first_body long)

-- Rules begin in order, behind the bindings.
pub rule_bytes_rise : (file : List ℕ) (i : ℕ) → rules_start (place_count file) (binding_count file) ≤ rule_byte file i
unfolding rule_byte
rule_bytes_rise file zero = omega arith
rule_bytes_rise file (suc i) = let before = rule_bytes_rise file i in omega arith

-- Where the lengths and the end pass, the file ends behind the last rule.
pub rules_pass : (total : ℕ) (file : List ℕ) → option_or (lengths_fault total file 0 (rule_count file)) (option_or (end_fault total file) None) ≡ None
    → rule_byte file (rule_count file) ≡ total
rules_pass total file e =
    let a = or_nones (lengths_fault total file 0 (rule_count file)) (option_or (end_fault total file) None) e in
    let b = or_nones (end_fault total file) None a.1 in
    eqb-true (rule_byte file (rule_count file)) total
    (not-false _ (faulty_none (not (eqb (rule_byte file (rule_count file)) total)) WrongLength total b.0))

-- A later rule begins no earlier.
pub rule_bytes_up : (file : List ℕ) (i k : ℕ) → rule_byte file i ≤ rule_byte file (k + i)
unfolding rule_byte
rule_bytes_up file i zero = let same : 0 + i ≡ i = omega arith in let e = ap (rule_byte file) same in omega arith
rule_bytes_up file i (suc k) =
    let before = rule_bytes_up file i k in
    let next : suc k + i ≡ suc (k + i) = omega arith in
    let e = ap (rule_byte file) next in
    omega arith

-- The text of each rule lies in the file.
pub text_inside : (total : ℕ) (file : List ℕ) → Shaped total file → (i : ℕ) → i < rule_count file
    → rule_byte file i + 2 + field 2 (rule_byte file i) file ≤ total
unfolding rule_byte
text_inside total file s i below =
    let up = rule_bytes_up file (suc i) (rule_count file - suc i) in
    let last : (rule_count file - suc i) + suc i ≡ rule_count file = omega arith in
    let e = ap (rule_byte file) last in
    let ended = s.ended in
    omega arith
