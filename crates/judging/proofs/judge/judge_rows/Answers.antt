use Rattle.std.proofs.Common.{◌≡◌, ℕ, ◌+◌, List, length, get_or, sym, refl, ap, ◌∙◌, subst, arith}
use Rattle.std.proofs.lemmas.Bool.{true≢false}
use Rattle.routing.specs.Net.{Net}
use Rattle.tables.specs.Tables.{row_fits, no_row}
use Rattle.tables.proofs.Fits.{accepted_row}
use Rattle.judging.specs.Judged.{RoundsBefore, WrittenBefore}
use Rattle.judging.proofs.RuleRows.{fits_first, fits_second}
use Rattle.judging.proofs.Sofar.{Sofar, sofar_more}
use Rattle.judging.proofs.judge.judge_rows.Goals as goal
use Rattle.judging.proofs.judge.judge_rows.Goals.{in-Some, in_default}

pub loop-number-init : goal.loop-number-init
loop-number-init g c = record { written = λ i l. absurd (omega arith); rest = refl; counted = refl; few = omega arith }

pub judge_row-rounds-requires-clause-first : goal.judge_row-rounds-requires-clause-first
judge_row-rounds-requires-clause-first g c =
    let K = c.conditions-conditions.result in
    let row = c.loop-number.number in
    fits_first K row c.in-Some.op (ap (row_fits K row) c.in-Some.ensures.1 ∙ c.in-Some.ensures.0)

pub judge_row-rounds-requires-clause-second : goal.judge_row-rounds-requires-clause-second
judge_row-rounds-requires-clause-second g c =
    let K = c.conditions-conditions.result in
    let row = c.loop-number.number in
    fits_second K row c.in-Some.op (ap (row_fits K row) c.in-Some.ensures.1 ∙ c.in-Some.ensures.0)

pub loop-number-preserved : goal.loop-number-preserved
loop-number-preserved g c =
    let holds = g.N.Set.ConditionSet.holds in
    let N : Net = g.N.Network.meaning c.args.net.now in
    let K = c.conditions-conditions.result in
    let over = g.met.N.Network.over c.args.net.now ∙ sym c.conditions-conditions.ensures in
    let rows = c.args.table.now in
    let start = c.args.main.now in
    let row = c.loop-number.number in
    elim c.match-read_row.branch [
      | in-Some w ↦
          let k = w.judge_row-rounds.result in
          let e = w.judge_row-rounds.ensures in
          subst (λ (xs : List g.row.N-Set.Denot). Sofar holds N rows start xs (row + 1) c.match-read_row.rounds) (sym w.main-is)
          (subst (λ (m : ℕ). Sofar holds N rows start w.judge_row-rounds.new.main (row + 1) m) (sym w.rounds-is)
          (sofar_more holds N K rows start c.loop-number.main w.judge_row-rounds.new.main row c.loop-number.rounds k w.in-Some.op c.loop-number-test.true
          w.in-Some.ensures.1 w.in-Some.ensures.0 c.loop-number.invariant e.before e.behind e.written e.counted e.few))
      | in_default w ↦
          let fits = accepted_row N.conditions rows c.requires.taken row c.loop-number-test.true in
          absurd (true≢false (sym fits ∙ ap (λ k. row_fits k row (get_or rows row no_row)) over ∙ w.in_default.ensures))
    ]

pub returns : goal.returns
returns g c =
    let N : Net = g.N.Network.meaning c.args.net.now in
    let rows = c.args.table.now in
    let main = c.loop-number.main in
    let sofar = c.loop-number.invariant in
    let all : c.loop-number.number ≡ length rows = omega arith in
    record {
      written = subst (λ (r : ℕ). WrittenBefore g.N.Set.ConditionSet.holds N rows r main) all sofar.written;
      rest = sofar.rest;
      counted = subst (λ (r : ℕ). RoundsBefore N rows r c.loop-number.rounds) all sofar.counted;
    }
