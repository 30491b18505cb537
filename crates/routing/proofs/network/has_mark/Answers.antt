use Rattle.std.proofs.Common.{◌&&◌, eqb, get_or, sym, ap, ◌∙◌}
use Rattle.std.specs.Option.{unwrap_or}
use Rattle.std.proofs.lemmas.Bool.{lt-ltb}
use Rattle.std.proofs.lemmas.Nat.Bits.{shr_and_one}
use Rattle.std.proofs.lemmas.Option.{unwrap_or-slice_get}
use Rattle.conditions.specs.Sets.{bit}
use Rattle.routing.proofs.network.has_mark.Goals as goal

pub returns-then-k-lt-MARKS : goal.returns-then-k-lt-MARKS
returns-then-k-lt-MARKS g c =
    let k = c.args.k in
    let marks = (g.N.Network.meaning c.args.net.now).marks in
    let read = c.unwrap_or.ensures ∙ ap (λ o. unwrap_or o 0) c.marks.ensures ∙ unwrap_or-slice_get marks c.args.place 0 in
    ap (λ d. eqb d 1) (shr_and_one c.unwrap_or.result k)
    ∙ ap (λ n. bit n k) read
    ∙ ap (λ t. t && bit (get_or marks c.args.place 0) k) (sym (lt-ltb k 32 c.if-k-lt-MARKS.true))
