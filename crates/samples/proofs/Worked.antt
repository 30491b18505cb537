-- The worked cases, by the test that decides every rule.
use Rattle.std.proofs.Common.{◌≡◌, ℕ, ◌<◌, ◌≤◌, true, false, refl, subst, arith, lit<}
use native.Mathlib.Decide.{dec_le}
use Rattle.std.proofs.lemmas.Bool.{both_ways}
use Rattle.routing.specs.Net.{Pos, Within}
use Rattle.routing.specs.Rules.{Rule, truth, non, ex, eu, eg, ef, ax, ag, af, Means}
use Rattle.rounds.specs.Rounds.{Grown}
use Rattle.rounds.specs.Truth.{any_below, any_of, reached, leads, into, moves, grown, kept, true_at}
use Rattle.rounds.proofs.Decide.{true_at_decides}
use Rattle.rounds.proofs.Exact.{grown_up, route_grown, grown_route}
use Rattle.rounds.proofs.Truth.{grown_decides}
use Rattle.judging.specs.Chosen.{least_from, entering, next_by, next_in, index_of, walk_always, chosen}
use Rattle.samples.specs.Networks.{P, L, at}
use Rattle.samples.specs.Worked.{m0, m1, ReachesIn, WorkedCases}

in_p : (s a : ℕ) → s < 2 → a < 64 → Within P (at s a)
in_p s a h k = record { place_in = h; setting_in = k }

in_l : (s a : ℕ) → s < 3 → a < 64 → Within L (at s a)
in_l s a h k = record { place_in = h; setting_in = k }

p_told : (f : Rule) (a : ℕ) → a < 64 → true_at P f (at 0 a) ≡ true → Means P f (at 0 a)
p_told f a l t = (true_at_decides P f (at 0 a) (in_p 0 a (lit< tt) l)).0 t

l_told : (f : Rule) → true_at L f (at 0 0) ≡ true → Means L f (at 0 0)
l_told f t = (true_at_decides L f (at 0 0) (in_l 0 0 (lit< tt) (lit< tt))).0 t

-- The rounds of EF m1 on L.
T : ℕ → Pos → Type 0
T = Grown L (λ _. Unit {0}) (Means L m1)

t_decided : (i : ℕ) → grown L (true_at L truth) (true_at L m1) i (at 0 0) ≡ false → ¬ (T i (at 0 0))
unfolding T
t_decided i e h =
    both_ways (grown L (true_at L truth) (true_at L m1) i (at 0 0)) e
    ((grown_decides L (true_at L truth) (true_at L m1) (Means L truth) (Means L m1) (true_at_decides L truth) (true_at_decides L m1) i (at 0 0) (in_l 0 0 (lit< tt) (lit< tt))).1 h)

not_one : grown L (true_at L truth) (true_at L m1) 1 (at 0 0) ≡ false
unfolding true_at any_below any_of reached leads into moves grown kept
not_one = refl

in_two : grown L (true_at L truth) (true_at L m1) 2 (at 0 0) ≡ true
unfolding true_at any_below any_of reached leads into moves grown kept
in_two = refl

no_fewer : (n : ℕ) → ReachesIn L (at 0 0) n → 2 ≤ n
unfolding T
no_fewer n (r, u, e) = go (dec_le 2 n)
  where
    go : Dec (2 ≤ n) → 2 ≤ n
    go (yes l) = l
    go (no l) = absurd (t_decided 1 not_one (grown_up L (λ _. Unit {0}) (Means L m1) n 1 (at 0 0) (omega arith) (subst (λ (k : ℕ). Grown L (λ _. Unit {0}) (Means L m1) k (at 0 0)) e (route_grown L (λ _. Unit {0}) (Means L m1) (at 0 0) r u))))

two_hops : ReachesIn L (at 0 0) 2
two_hops =
    let g = (grown_decides L (true_at L truth) (true_at L m1) (Means L truth) (Means L m1) (true_at_decides L truth) (true_at_decides L m1) 2 (at 0 0) (in_l 0 0 (lit< tt) (lit< tt))).0 in_two in
    let w = grown_route L (true_at L truth) (true_at L m1) (Means L truth) (Means L m1) (true_at_decides L truth) (true_at_decides L m1) 2 (at 0 0) (in_l 0 0 (lit< tt) (lit< tt)) g in
    let least = no_fewer w.1.hops (w.0, w.1, refl) in
    (w.0, w.1, omega (arith, w.2))

pub worked : WorkedCases
unfolding true_at any_below any_of reached leads into moves grown kept least_from entering next_by next_in index_of walk_always chosen
worked = record {
  p_ax = p_told (ax m1) 0 (lit< tt) refl;
  p_eg = p_told (eg (non m1)) 0 (lit< tt) refl;
  p_ex = p_told (non (ex m1)) 0 (lit< tt) refl;
  p_ef = p_told (non (ef m1)) 0 (lit< tt) refl;
  p_af = p_told (non (af m1)) 0 (lit< tt) refl;
  p_ex_on = p_told (ex m1) 1 (lit< tt) refl;
  p_af_on = p_told (af m1) 1 (lit< tt) refl;
  l_two_hops = two_hops;
  l_no_fewer = no_fewer;
  l_ag_ef = l_told (ag (ef m1)) refl;
  l_af = l_told (non (af m1)) refl;
  l_eu = l_told (non (eu m0 m1)) refl;
  l_af_route = refl;
}
