use Rattle.std.proofs.Common.{◌≡◌, ℕ, ◌^◌, ◌<◌, true, List, length, Option, sym, refl, ap, ◌∙◌, subst, arith, Bor}
use Rattle.conditions.specs.declared.word.Word.{Word}
use Rattle.conditions.specs.WordSets.{word_holds}
use Rattle.routing.specs.declared.binding.Binding.{Binding}
use Rattle.routing.specs.Bindings.{linked}
use Rattle.routing.specs.Refusals.{all_inside}
use Rattle.routing.specs.Sites.{site_records}
use Rattle.routing.specs.Fitting.{nth_link, link_inside}
use Rattle.plan.specs.declared.fault.FileFault.{FileFault}
use Rattle.plan.specs.Put.{Put}
use Rattle.plan.specs.Format.{Plan, encoded, rules_start}
use Rattle.plan.specs.Reading.{Each, BindingFits}
use Rattle.plan.specs.Writing.{lent, limits_fault, plan_with, site_plan, texts_fault}
use Rattle.plan.proofs.Encoded.{length_encoded}
use Rattle.plan.proofs.Limits.{few_from_none}
use Rattle.plan.proofs.write.write_plan.Goals as goal

-- Plans of the same marks and bindings.
same_plan : {m n : List ℕ} {r s : List (Binding Word)} (texts : List (Bor (List ℕ))) → m ≡ n → r ≡ s → plan_with m r texts ≡ plan_with n s texts
same_plan {n} {r} texts marks records = ap (λ ms. plan_with ms r texts) marks ∙ ap (λ rs. plan_with n rs texts) records

-- The first limit that is passed, where the lists are those of the site table.
limits_are : {m n : List ℕ} {r s : List (Binding Word)} (texts : List (Bor (List ℕ))) (start : ℕ) (fault : Option FileFault) → m ≡ n → r ≡ s
    → start ≡ rules_start (length m) (length r) → fault ≡ texts_fault start (lent texts) → limits_fault (plan_with n s texts) ≡ fault
limits_are texts start fault marks records at is =
    sym (is ∙ (ap (λ (b : ℕ). texts_fault b (lent texts)) at ∙ ap limits_fault (same_plan texts marks records)))

pub returns-then-out-length : goal.returns-then-out-length
returns-then-out-length c =
    let p : Plan = site_plan c.args.site.now c.args.texts.now in
    let none = limits_are c.args.texts.now c.binding_byte.result _ c.lent_marks-marks.ensures c.lent_records-records.ensures c.binding_byte.ensures c.in_ok-length.ensures.fault in (
      (none, c.in_ok-check_texts.ensures.0, omega (arith, c.in_ok-length.ensures.long, length_encoded p, ap length c.lent_marks-marks.ensures, ap length c.lent_records-records.ensures)),
      refl,
    )

pub write_file-requires : goal.write_file-requires
write_file-requires c =
    let p : Plan = plan_with c.lent_marks-marks.result.now c.lent_records-records.result.now c.args.texts.now in
    record {
      few_places = omega (arith, c.args.site.now.few_places, ap length c.lent_marks-marks.ensures);
      few_bindings = omega (arith, c.args.site.now.few_bindings, ap length c.lent_records-records.ensures);
      few_rules = few_from_none c.binding_byte.result p.texts (sym c.in_ok-length.ensures.fault);
      rules = c.in_ok-check_texts.ensures.0;
      fits = omega (arith, c.in_ok-length.ensures.long, length_encoded p);
    }

-- Bindings with their ends inside, and words that fit, fit their fields.
bindings_fit : (n : ℕ) (records : List (Binding Word)) → all_inside n records ≡ true → Each (λ b. b.set.0 < 2 ^ 64) records
    → Each (BindingFits n) records
bindings_fit n records inside sets i b here =
    let ends = link_inside word_holds n records inside i (linked word_holds b) (nth_link word_holds records i b here) in
    record { from_in = ends.0; to_in = ends.1; set_fits = sets i b here }

pub returns : goal.returns
returns c =
    let site = c.args.site.now in
    let put : Put c.args.out.now 0 (encoded (site_plan site c.args.texts.now)) c.write_file.new.out c.write_file.result
    = subst (λ (p : Plan). Put c.args.out.now 0 (encoded p) c.write_file.new.out c.write_file.result)
    (same_plan c.args.texts.now c.lent_marks-marks.ensures c.lent_records-records.ensures) c.write_file.ensures.put in
    record {
      sound =
          record {
            few_places = site.few_places;
            few_bindings = site.few_bindings;
            few_rules = few_from_none c.binding_byte.result (lent c.args.texts.now) (sym c.in_ok-length.ensures.fault);
            marks_fit = subst (Each (λ m. m < 2 ^ 32)) c.lent_marks-marks.ensures c.write_file.ensures.marks_fit;
            bindings_fit = bindings_fit _ (site_records site) site.ends (subst (Each (λ b. b.set.0 < 2 ^ 64)) c.lent_records-records.ensures c.write_file.ensures.sets_fit);
            texts_fit = c.in_ok-check_texts.ensures.1;
            rules = c.in_ok-check_texts.ensures.0;
          };
      long = omega (arith, put.ends);
      file = put.front;
      rest = put.rest;
    }
