use Rattle.std.proofs.Common.{◌≡◌, ℕ, length, sym, refl, ◌∙◌, subst, inl, arith}
use Rattle.routing.specs.Net.{Net, Pos, places}
use Rattle.judging.specs.declared.breaking.BreakingForm.{BreakingForm}
use Rattle.judging.specs.declared.breaking.BreakingForm.TheVariants.{Either}
use Rattle.judging.specs.Breaking.{breaking_form, ShowsWhy}
use Rattle.judging.specs.Steps.{as_pos}
use Rattle.judging.proofs.Breakings.{first_in}
use Rattle.judging.proofs.Operands.{part_before}
use Rattle.judging.proofs.breaking.row_to_show.Goals as goal

pub holds_at-requires-clause-room : goal.holds_at-requires-clause-room
holds_at-requires-clause-room g c =
    let N : Net = g.N.Network.meaning c.args.net.now in
    let rows = c.args.table.now in
    let l = first_in N rows c.requires.taken c.in-Either.q c.in-Either.r (sym c.breaking_form.ensures ∙ c.in-Either.is) in
    let p = part_before c.in-Either.q (length rows) (places N) l in
    let room = c.requires.room in
    omega arith

pub returns-then-holds_at : goal.returns-then-holds_at
returns-then-holds_at g c =
    let N : Net = g.N.Network.meaning c.args.net.now in
    let rows = c.args.table.now in
    let x : Pos = as_pos c.args.at in
    let q : ℕ = c.in-Either.q in
    let form : breaking_form rows ≡ Either q c.in-Either.r = sym c.breaking_form.ensures ∙ c.in-Either.is in
    let l = first_in N rows c.requires.taken q c.in-Either.r form in
    subst (λ (f : BreakingForm). ShowsWhy N rows x f q) (sym form)
    (inl (refl, (c.requires.judged q l x c.requires.inside).0 (sym c.holds_at.ensures ∙ c.if-holds_at.true)))
