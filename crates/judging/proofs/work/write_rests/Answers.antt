use Rattle.std.proofs.Common.{◌≡◌, ◌^◌, ◌<◌, true, not, length, Decides, ◌∙◌, arith}
use Rattle.std.proofs.lemmas.Bool.{lt-ltb}
use Rattle.std.proofs.lemmas.Bool.Decides.{Decides-at, Decides-like, Decides-not}
use Rattle.routing.specs.Net.{Net, Pos, Within, Step}
use Rattle.judging.specs.Judged.{covers}
use Rattle.judging.proofs.Rows.{guard_true, setting_below}
use Rattle.judging.proofs.work.write_rests.Goals as goal

pub returns : goal.returns
returns g c = λ x w.
    let holds = g.N.Set.ConditionSet.holds in
    let K = g.N.Set.ConditionSet.count in
    let N : Net = g.N.Network.meaning c.args.net.now in
    let everywhere = c.fill.new.sets in
    let into = covers holds c.steps_into.new.out x in
    let in_out : x.place < length c.steps_into.new.out = omega (arith, w.place_in) in
    let everything : (y : Pos) → Within N y → covers holds everywhere y ≡ true =
    λ y v. c.fill.ensures y (let l = v.place_in in omega arith) ∙ c.all.ensures y.setting ∙ lt-ltb y.setting (2 ^ K) (setting_below N K (g.met.N.Network.over c.args.net.now) y v) in
    let leaves : Decides into ((y : Pos) × Step N x y) =
    Decides-like into (λ s. (s.0, s.1)) (λ s. (s.0, s.1, everything s.0 s.1.within)) (c.steps_into.ensures x w) in
    Decides-at _ (not into) (c.complement_all.ensures x in_out ∙ guard_true _ (not into) (lt-ltb x.setting (2 ^ K) (setting_below N K (g.met.N.Network.over c.args.net.now) x w)))
    (Decides-like (not into) (λ n y s. n (y, s)) (λ r s. r s.0 s.1) (Decides-not into leaves))
