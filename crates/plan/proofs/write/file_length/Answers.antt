use Rattle.std.proofs.Common.{◌≡◌, ℕ, ◌+◌, not, leb, ltb, List, length, drop, None, sym, refl, ap, ◌∙◌, arith, Bor}
use Rattle.std.proofs.lemmas.List.{take_all, drop_all}
use Rattle.plan.specs.declared.fault.FileFaultKind.TheVariants.{OverLimit}
use Rattle.plan.specs.Format.{flat, text_bytes}
use Rattle.plan.specs.Shape.{faulty}
use Rattle.plan.specs.Writing.{lent, long_fault}
use Rattle.plan.proofs.Firsts.{err_of}
use Rattle.plan.proofs.Lent.{lent_length, lent_past, drop_lent, length_lent_more}
use Rattle.plan.proofs.Limits.{few_texts, long_here, long_next, long_none, limit_test, not_long}
use Rattle.plan.proofs.write.file_length.Goals as goal

pub loop-text-init : goal.loop-text-init
unfolding flat
loop-text-init c = (omega arith, refl, omega arith)

-- What the test of the count says of the texts that are lent.
few : (texts : List (Bor (List ℕ))) → None ≡ faulty (not (leb (length texts) 8)) OverLimit 18 → None ≡ faulty (ltb 8 (length (lent texts))) OverLimit 18
few texts is = is ∙ (limit_test (length texts) 8 18 ∙ ap (λ (n : ℕ). faulty (ltb 8 n) OverLimit 18) (sym (lent_length texts)))

pub returns-in_err-check-2-clause-fault : goal.returns-in_err-check-2-clause-fault
returns-in_err-check-2-clause-fault c =
    let texts = c.args.texts.now in
    let here = ap (long_fault c.loop-text.byte) (sym (drop_lent texts c.loop-text.text-index _ c.loop-text-test.true)) in
    let long = long_here c.loop-text.byte _ (drop (c.loop-text.text-index + 1) (lent texts)) _ (c.in_err-check-2.ensures ∙ limit_test _ 200 c.loop-text.byte) in
    err_of c.from_residual-in_err-check-2.result _ _ c.from_residual-in_err-check-2.ensures.1
    (long ∙ (here ∙ (c.loop-text.invariant.1 ∙ few_texts c.args.start (lent texts) (few texts c.in_ok-check.ensures))))

-- The byte behind one text more.
behind : {byte after : ℕ} (start before more : ℕ) → byte ≡ start + before → after ≡ before + more → byte + more ≡ start + after
behind start before more here longer = omega arith

pub loop-text-preserved : goal.loop-text-preserved
loop-text-preserved c =
    let texts = c.args.texts.now in
    let fits = c.in_ok-check-2.ensures ∙ limit_test _ 200 c.loop-text.byte in
    let short = not_long c.loop-text.byte _ fits in (
      behind _ _ _ c.loop-text.invariant.0 (length_lent_more texts c.loop-text.text-index _ c.loop-text-test.true),
      long_next c.loop-text.byte _ (drop (c.loop-text.text-index + 1) (lent texts)) fits
          ∙ (ap (long_fault c.loop-text.byte) (sym (drop_lent texts c.loop-text.text-index _ c.loop-text-test.true))
          ∙ c.loop-text.invariant.1),
      omega (arith, c.loop-text.invariant.2),
    )

pub returns : goal.returns
returns c =
    let texts : List (List ℕ) = lent c.args.texts.now in
    let past = lent_past c.args.texts.now c.loop-text.text-index c.loop-text-test.false in
    record {
      fault =
          sym (long_none c.loop-text.byte)
          ∙ (ap (long_fault c.loop-text.byte) (sym (drop_all c.loop-text.text-index texts past))
          ∙ (c.loop-text.invariant.1 ∙ few_texts c.args.start texts (few c.args.texts.now c.in_ok-check.ensures)));
      long = c.loop-text.invariant.0 ∙ ap (λ (ts : List (List ℕ)). c.args.start + length (flat text_bytes ts)) (take_all c.loop-text.text-index texts past);
    }
