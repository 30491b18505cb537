-- Every call is answered.
use Rattle.std.proofs.Common.{◌≡◌, ℕ, zero, suc, ◌+◌, ◌-◌, ◌≤◌, ◌<◌, ◌⊎◌, true, false, List, [], ◌∷◌, ◌++◌, length, get_or, Option, None, Some, refl, sym, subst, inl, inr, arith}
use Rattle.conditions.proofs.Picking.{picked_in}
use Rattle.routing.specs.declared.refusal.Refusal.{Refusal}
use Rattle.routing.specs.declared.refusal.Refusal.TheVariants.{BadTable, BindingsFull}
use Rattle.routing.specs.Net.{Net, Pos, Within, settings}
use Rattle.routing.specs.Rules.{Rule, truth, Means}
use Rattle.routing.specs.Bindings.{Fits}
use Rattle.rounds.proofs.Decide.{true_at_decides}
use Rattle.rounds.proofs.Tests.{told}
use Rattle.tables.specs.declared.row.Row.{Row}
use Rattle.tables.specs.Tables.{accepted, operand_tests, operation_rules, row_fits, rules_before, rule_at}
use Rattle.tables.proofs.Fits.{accepted_row}
use Rattle.judging.specs.declared.breaking.BreakingForm.{BreakingForm}
use Rattle.judging.specs.declared.breaking.BreakingForm.TheVariants.{One, Either, Other}
use Rattle.judging.specs.Breaking.{table_rule, breaking_form, row_of, ShowsWhy}
use Rattle.judging.specs.Chosen.{chosen}
use Rattle.judging.specs.Shown.{CanShow}
use Rattle.judging.proofs.Breakings.{why_shown}
use Rattle.judging.proofs.Counted.{rounds_some}
use Rattle.judging.proofs.Exhibiting.{exhibits}
use Rattle.judging.proofs.Right.{shown_right}
use Rattle.verdicts.specs.declared.verdict.Verdict.{Verdict}
use Rattle.verdicts.specs.declared.verdict.Verdict.TheVariants.{Holds, Breaks}
use Rattle.verdicts.specs.Verdicts.{Told}
use Rattle.verdicts.proofs.Once.{told_some}
use Rattle.paper.specs.declared.change.Change.{Change}
use Rattle.paper.specs.declared.numbers.Numbers.{Numbers}
use Rattle.paper.specs.declared.room.Room.{Room}
use Rattle.paper.specs.Calls.{Call, adopt, propose, revise, admit, withdraw, ask_open, Answer, refused, adopted, proposed, revised, stood, turned_down, withdrawn, open_count, Failure, Showing, no_route, a_route}
use Rattle.paper.specs.Paper.{Opening, Paper, opened, own_with}
use Rattle.paper.specs.Refused.{change_refusal, has_room, refusal}
use Rattle.paper.specs.Rules.{AllHold, HoldsAtEntries, BreaksFirstAt, ShownRightly, ShownAsChosen, RoundsOfAll}
use Rattle.paper.specs.Does.{Does, Done, Run, RulesBreak, standing_net, proposed_net, count_open}
use Rattle.paper.specs.Claims.{OpeningFits}
use Rattle.paper.proofs.Lines.{both_none, met}
use Rattle.paper.proofs.Fitting.{Owned, owned_fits, changed_owned}
use Rattle.paper.proofs.Once.{refused_or_done}

-- A row that fits, of operation 6, 7 or 8, has a rule that a route can show.
can_by : (K i a b : ℕ) (p q : Rule) (n : ℕ) → get_or (operand_tests K i a b) (suc (suc (suc (suc (suc (suc n)))))) false ≡ true
    → CanShow (get_or (operation_rules a p q) (suc (suc (suc (suc (suc (suc n)))))) truth)
can_by K i a b p q zero e = tt
can_by K i a b p q (suc zero) e = tt
can_by K i a b p q (suc (suc zero)) e = tt
can_by K i a b p q (suc (suc (suc n))) e = let z : ◌≡◌ {A = ℕ} 0 1 = cc in absurd (omega arith)

can_row : (K i a b : ℕ) (p q : Rule) (n : ℕ) → 6 ≤ n → get_or (operand_tests K i a b) n false ≡ true → CanShow (get_or (operation_rules a p q) n truth)
can_row K i a b p q n six e =
    let over : n ≡ suc (suc (suc (suc (suc (suc (n - 6)))))) = omega arith in
    subst (λ (m : ℕ). CanShow (get_or (operation_rules a p q) m truth)) (sym over)
    (can_by K i a b p q (n - 6) (subst (λ (m : ℕ). get_or (operand_tests K i a b) m false ≡ true) over e))

can_show_row : (K : ℕ) (rows : List Row) (r : ℕ) → row_fits K r (row_of rows r) ≡ true → 6 ≤ (row_of rows r).operation → CanShow (rule_at rows r)
unfolding rule_at
can_show_row K rows r fits six =
    can_row K r (row_of rows r).first (row_of rows r).second (get_or (rules_before rows r) (row_of rows r).first truth)
    (get_or (rules_before rows r) (row_of rows r).second truth) (row_of rows r).operation six fits

-- Each table is accepted.
abbrev AllAccepted : ℕ → List (List Row) → Type 0
AllAccepted K [] = Unit {0}
AllAccepted K (t ∷ ts) = (accepted K t ≡ true) × AllAccepted K ts

module _ (N : Net) (fits : Fits N) where
  -- What is shown of a rule that breaks at x.
  Shows : List Row → Pos → Type 0
  Shows rows x = (s : Showing) × ShownAsChosen N rows x s × ShownRightly N rows x s

  row_shows : (rows : List Row) → accepted N.conditions rows ≡ true → (x : Pos) → Within N x → ¬ (Means N (table_rule rows) x)
      → (r : ℕ) → ShowsWhy N rows x (breaking_form rows) r → Shows rows x
  unfolding Shows
  row_shows rows taken x w breaks r why =
      let can = why_shown N rows taken x w breaks (breaking_form rows) refl r why in
      let c = chosen N (rule_at rows r) x in
      let right = shown_right N fits (rule_at rows r) x w
      (can_show_row N.conditions rows r (accepted_row N.conditions rows taken r can.row_in) can.six) can.true_here in
      (a_route c.positions c.ending, (r, why, refl, refl), (r, why, exhibits N (rule_at rows r) x w c.positions c.ending right.0 right.1))

  some_shows : (rows : List Row) → accepted N.conditions rows ≡ true → (x : Pos) → Within N x → ¬ (Means N (table_rule rows) x) → Shows rows x
  unfolding Shows
  some_shows rows taken x w breaks = go (breaking_form rows) refl where
    by : (form : BreakingForm) → breaking_form rows ≡ form → (r : ℕ) → ShowsWhy N rows x form r → Shows rows x
    by form e r why = row_shows rows taken x w breaks r (subst (λ (f : BreakingForm). ShowsWhy N rows x f r) (sym e) why)

    go : (form : BreakingForm) → breaking_form rows ≡ form → Shows rows x
    go (One p) e = by (One p) e p refl
    go (Either p q) e = go_either (told _ (true_at_decides N (rule_at rows p) x w)) where
      go_either : Means N (rule_at rows p) x ⊎ (¬ (Means N (rule_at rows p) x)) → Shows rows x
      go_either (inl m) = by (Either p q) e p (inl (refl, m))
      go_either (inr n) = by (Either p q) e q (inr (refl, n))
    go Other e = (no_route, e, e)

  -- The rule of a table holds at the entries, or it breaks, and something is shown of it.
  Broken : List Row → Type 0
  Broken rows = (at : Pos) × (s : Showing) × BreaksFirstAt N rows at × ShownAsChosen N rows at s × ShownRightly N rows at s

  table_told : (rows : List Row) → accepted N.conditions rows ≡ true → HoldsAtEntries N rows ⊎ Broken rows
  unfolding Shows Broken
  table_told rows taken = go (told_some N (table_rule rows)).0 (told_some N (table_rule rows)).1 where
    go : (v : Verdict) → Told N (Means N (table_rule rows)) v → HoldsAtEntries N rows ⊎ Broken rows
    go Holds t = inl t
    go (Breaks s a) t =
        let at : Pos = record { place = s; setting = a } in
        let fails = picked_in (λ c. (c < settings N) × (¬ (Means N (table_rule rows) (record { place = s; setting = c })))) a t.picked in
        let shows = some_shows rows taken at (record { place_in = t.inside; setting_in = fails.0 }) fails.1 in
        inr (at, shows.0, t, shows.1, shows.2)

  -- All rules hold, or a first one breaks.
  rules_told : (rules : List (List Row)) → AllAccepted N.conditions rules → AllHold N rules ⊎ ((f : Failure) × RulesBreak N rules f)
  unfolding Broken
  rules_told [] all = inl tt
  rules_told (t ∷ ts) all = go (table_told t all.0) (rules_told ts all.1) where
    go : HoldsAtEntries N t ⊎ Broken t → AllHold N ts ⊎ ((f : Failure) × RulesBreak N ts f) → AllHold N (t ∷ ts) ⊎ ((f : Failure) × RulesBreak N (t ∷ ts) f)
    go (inr b) later = inr (
      record { rule = 0; at = b.0; shown = b.1 },
      record { table = t; first = record { listed = refl; earlier = tt; breaks = b.2 }; chosen = b.3; shown = b.4 },
    )
    go (inl h) (inl rest) = inl (h, rest)
    go (inl h) (inr (f, b)) = inr (
      record { rule = suc f.rule; at = f.at; shown = f.shown },
      record {
        table = b.table;
        first = record { listed = b.first.listed; earlier = (h, b.first.earlier); breaks = b.first.breaks };
        chosen = b.chosen;
        shown = b.shown;
      },
    )

all_rounds_some : (N : Net) (rules : List (List Row)) → (n : ℕ) × RoundsOfAll N rules n
all_rounds_some N [] = (0, refl)
all_rounds_some N (t ∷ ts) =
    let front = rounds_some N t (length t) in
    let rest = all_rounds_some N ts in
    (front.0 + rest.0, (front.0, rest.0, front.1, rest.1, refl))

accepted_more : (K : ℕ) (rules : List (List Row)) (rows : List Row) → AllAccepted K rules → accepted K rows ≡ true → AllAccepted K (rules ++ rows ∷ [])
accepted_more K [] rows all now = (now, tt)
accepted_more K (t ∷ ts) rows all now = (all.0, accepted_more K ts rows all.1 now)

-- What holds of a board that calls have made: its own bindings keep their limits, with the open change too, and its tables are accepted.
record Sound (o : Opening) (p : Paper) : Type 0 where
  own : Owned o p.own
  put : Owned o (own_with p.pending p.own)
  tables : AllAccepted o.far.conditions p.rules

opened_sound : (o : Opening) → Sound o opened
opened_sound o = record {
  own = record { few = omega arith; ends = tt };
  put = record { few = omega arith; ends = tt };
  tables = tt;
}

-- What is not refused passes the tests of its line.
adopt_accepted : (o : Opening) (p : Paper) (rows : List Row) (room : Room) → refusal o p (adopt rows room) ≡ None
    → accepted o.far.conditions rows ≡ true
adopt_accepted o p rows room free = met (accepted o.far.conditions rows) BadTable (both_none _ _ free).0

propose_owned : (o : Opening) (p : Paper) (change : Change) → refusal o p (propose change) ≡ None → Owned o p.own
    → Owned o (own_with (Some change) p.own)
propose_owned o p change free owned =
    let parts = both_none (change_refusal o (length p.own) change) _ free in
    let room = met (has_room (length p.own) change) BindingsFull (both_none _ _ (both_none _ _ parts.1).1).0 in
    changed_owned o p.own change parts.0 room owned

revise_owned : (o : Opening) (p : Paper) (t : Numbers) (change : Change) → refusal o p (revise t change) ≡ None → Owned o p.own
    → Owned o (own_with (Some change) p.own)
revise_owned o p t change free owned =
    let parts = both_none (change_refusal o (length p.own) change) _ free in
    let room = met (has_room (length p.own) change) BindingsFull (both_none _ _ parts.1).0 in
    changed_owned o p.own change parts.0 room owned

-- A call leaves such a board.
done_sound : (o : Opening) (p : Paper) (call : Call) (a : Answer) (q : Paper) → refusal o p call ≡ None → Done o p call a q → Sound o p → Sound o q
done_sound o p (adopt rows room) (adopted n) q free d s =
    subst (Sound o) (sym d.2)
    (record { own = s.own; put = s.put; tables = accepted_more o.far.conditions p.rules rows s.tables (adopt_accepted o p rows room free) })
done_sound o p (adopt rows room) (turned_down f) q free d s = subst (Sound o) (sym d.1) s
done_sound o p (propose change) (proposed t) q free d s =
    subst (Sound o) (sym d.1) (record { own = s.own; put = propose_owned o p change free s.own; tables = s.tables })
done_sound o p (revise t change) (revised u) q free d s =
    subst (Sound o) (sym d.1) (record { own = s.own; put = revise_owned o p t change free s.own; tables = s.tables })
done_sound o p (admit t room) (stood n) q free d s = subst (Sound o) (sym d.2) (record { own = s.put; put = s.put; tables = s.tables })
done_sound o p (admit t room) (turned_down f) q free d s = subst (Sound o) (sym d.1) (record { own = s.own; put = s.own; tables = s.tables })
done_sound o p (withdraw t) withdrawn q free d s = subst (Sound o) (sym d) (record { own = s.own; put = s.own; tables = s.tables })
done_sound o p ask_open (open_count n) q free d s = subst (Sound o) (sym d.1) s
done_sound o p call a q free d s = absurd d

sound_more : (o : Opening) (p : Paper) (call : Call) (a : Answer) (q : Paper) → Does o p call a q → Sound o p → Sound o q
sound_more o p call a q d s = go (refused_or_done o p call a q d) where
  go : ((r : Refusal) × (a ≡ refused r) × (refusal o p call ≡ Some r) × (q ≡ p)) ⊎ ((refusal o p call ≡ None) × Done o p call a q) → Sound o q
  go (inl t) = subst (Sound o) (sym t.3) s
  go (inr t) = done_sound o p call a q t.0 t.1 s

-- A call has an answer.
abbrev Answered : Opening → Paper → Call → Type 0
Answered o p call = (a : Answer) × (q : Paper) × Does o p call a q

module _ (o : Opening) (fits : OpeningFits o) where
  done_some : (p : Paper) → Sound o p → (call : Call) → refusal o p call ≡ None → Answered o p call
  unfolding Broken
  done_some p s (adopt rows room) free =
      go (table_told (standing_net o p) (owned_fits o fits p.own s.own) rows (adopt_accepted o p rows room free)) where
        go : HoldsAtEntries (standing_net o p) rows ⊎ Broken (standing_net o p) (owned_fits o fits p.own s.own) rows → Answered o p (adopt rows room)
        go (inl h) =
            let n = rounds_some (standing_net o p) rows (length rows) in
            (adopted n.0, record p { rules = p.rules ++ rows ∷ [] }, (free, (h, n.1, refl)))
        go (inr b) = (
          turned_down (record { rule = length p.rules; at = b.0; shown = b.1 }),
          p,
          (free, (record { number = refl; breaks = b.2; chosen = b.3; shown = b.4 }, refl)),
        )
  done_some p s (propose change) free = (
    proposed (record { board = o.number; serial = p.last + 1 }),
    record p { pending = Some change; last = p.last + 1 },
    (free, (refl, refl)),
  )
  done_some p s (revise t change) free = (revised t, record p { pending = Some change }, (free, (refl, refl)))
  done_some p s (admit t room) free =
      go (rules_told (proposed_net o p) (owned_fits o fits (own_with p.pending p.own) s.put) p.rules s.tables) where
        go : AllHold (proposed_net o p) p.rules ⊎ ((f : Failure) × RulesBreak (proposed_net o p) p.rules f) → Answered o p (admit t room)
        go (inl all) =
            let n = all_rounds_some (proposed_net o p) p.rules in
            (stood n.0, record p { own = own_with p.pending p.own; pending = None }, (free, (all, n.1, refl)))
        go (inr (f, b)) = (turned_down f, record p { pending = None }, (free, (b, refl)))
  done_some p s (withdraw t) free = (withdrawn, record p { pending = None }, (free, refl))
  done_some p s ask_open free = (open_count (count_open p), p, (free, (refl, refl)))

  does_some : (p : Paper) → Sound o p → (call : Call) → Answered o p call
  does_some p s call = go (refusal o p call) refl where
    go : (r : Option Refusal) → refusal o p call ≡ r → Answered o p call
    go None free = done_some p s call free
    go (Some r) e = (refused r, p, (e, refl))

  sound_run : (p : Paper) → Sound o p → (calls : List Call) → (answers : List Answer) × (q : Paper) × Run o p calls answers q
  sound_run p s [] = ([], p, refl)
  sound_run p s (c ∷ cs) =
      let first = does_some p s c in
      let rest = sound_run first.1 (sound_more o p c first.0 first.1 first.2 s) cs in
      (first.0 ∷ rest.0, rest.1, (first.1, first.2, rest.2))

  -- Every list of calls is answered.
  pub run_some : (calls : List Call) → (answers : List Answer) × (q : Paper) × Run o opened calls answers q
  run_some calls = sound_run opened (opened_sound o) calls
