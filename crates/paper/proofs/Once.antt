-- A call has one answer, and leaves one board.
use Rattle.std.proofs.Common.{◌≡◌, ℕ, zero, suc, ◌<◌, ◌⊎◌, List, [], ◌∷◌, take, length, Some, None, slice_get, refl, ap, sym, ◌∙◌, subst, inl, inr, arith}
use Rattle.routing.specs.declared.refusal.Refusal.{Refusal}
use Rattle.routing.specs.Net.{Net, Pos}
use Rattle.routing.specs.Rules.{Means}
use Rattle.tables.specs.declared.row.Row.{Row}
use Rattle.tables.specs.Tables.{rule_at}
use Rattle.judging.specs.declared.breaking.BreakingForm.{BreakingForm}
use Rattle.judging.specs.declared.breaking.BreakingForm.TheVariants.{One, Either, Other}
use Rattle.judging.specs.Breaking.{table_rule, breaking_form, ShowsWhy}
use Rattle.judging.specs.Chosen.{chosen}
use Rattle.verdicts.specs.declared.verdict.Verdict.TheVariants.{Holds, Breaks}
use Rattle.paper.specs.Calls.{Call, adopt, propose, revise, admit, withdraw, ask_open, Answer, refused, adopted, proposed, revised, stood, turned_down, withdrawn, open_count, Failure, Showing, no_route, a_route}
use Rattle.paper.specs.Paper.{Opening, Paper}
use Rattle.paper.specs.Refused.{refusal}
use Rattle.paper.specs.Rules.{AllHold, HoldsAtEntries, BreaksFirstAt, FirstBroken, ShownAsChosen, RoundsOfAll}
use Rattle.paper.specs.Does.{Does, Done, Run, TableBreaks, RulesBreak, standing_net, proposed_net}
use Rattle.judging.proofs.Counted.{same_from, rounds_once}
use Rattle.verdicts.proofs.Once.{told_once}
use Rattle.paper.proofs.Lines.{not_both}

-- A rule that holds at the entries does not break there.
holds_or_breaks : {X : Type 0} (N : Net) (rows : List Row) (at : Pos) → HoldsAtEntries N rows → BreaksFirstAt N rows at → X
holds_or_breaks N rows at holds breaks =
    let same : Holds ≡ Breaks at.place at.setting = told_once N (Means N (table_rule rows)) Holds (Breaks at.place at.setting) holds breaks in
    let z : ◌≡◌ {A = ℕ} 0 1 = cc in
    absurd (omega arith)

-- It breaks first at one position.
breaks_once : (N : Net) (rows : List Row) (x y : Pos) → BreaksFirstAt N rows x → BreaksFirstAt N rows y → x ≡ y
breaks_once N rows x y b c =
    let same : Breaks x.place x.setting ≡ Breaks y.place y.setting =
    told_once N (Means N (table_rule rows)) (Breaks x.place x.setting) (Breaks y.place y.setting) b c in
    let place : x.place ≡ y.place = cc in
    let setting : x.setting ≡ y.setting = cc in
    pos_same place setting where
      pos_same : {s t a b : ℕ} → s ≡ t → a ≡ b → ◌≡◌ {A = Pos} (record { place = s; setting = a }) (record { place = t; setting = b })
      pos_same e f = cc

-- One row shows why, and one thing is shown of the rule.
row_once : (N : Net) (rows : List Row) (x : Pos) (form : BreakingForm) (r s : ℕ) → ShowsWhy N rows x form r → ShowsWhy N rows x form s → r ≡ s
row_once N rows x (One p) r s a b = a ∙ sym b
row_once N rows x (Either p q) r s (inl a) (inl b) = a.0 ∙ sym b.0
row_once N rows x (Either p q) r s (inl a) (inr b) = absurd (b.1 a.1)
row_once N rows x (Either p q) r s (inr a) (inl b) = absurd (a.1 b.1)
row_once N rows x (Either p q) r s (inr a) (inr b) = a.0 ∙ sym b.0
row_once N rows x Other r s a b = absurd a

showing_once : (N : Net) (rows : List Row) (x : Pos) (s t : Showing) → ShownAsChosen N rows x s → ShownAsChosen N rows x t → s ≡ t
showing_once N rows x no_route no_route a b = refl
showing_once N rows x no_route (a_route ps e) a b = absurd (subst (λ (f : BreakingForm). ShowsWhy N rows x f b.0) a b.1)
showing_once N rows x (a_route ps e) no_route a b = absurd (subst (λ (f : BreakingForm). ShowsWhy N rows x f a.0) b a.1)
showing_once N rows x (a_route ps e) (a_route qs g) a b =
    let row : a.0 ≡ b.0 = row_once N rows x (breaking_form rows) a.0 b.0 a.1 b.1 in
    let positions : ps ≡ qs = a.2 ∙ (ap (λ (r : ℕ). (chosen N (rule_at rows r) x).positions) row ∙ sym b.2) in
    let ending : e ≡ g = a.3 ∙ (ap (λ (r : ℕ). (chosen N (rule_at rows r) x).ending) row ∙ sym b.3) in
    cc

-- A failure is its parts.
failure_same : (f g : Failure) → f.rule ≡ g.rule → f.at ≡ g.at → f.shown ≡ g.shown → f ≡ g
failure_same f g k at shown = made k at shown where
  made : {k j : ℕ} {x y : Pos} {s t : Showing} → k ≡ j → x ≡ y → s ≡ t
      → ◌≡◌ {A = Failure} (record { rule = k; at = x; shown = s }) (record { rule = j; at = y; shown = t })
  made a b c = cc

table_breaks_once : (N : Net) (rules : List (List Row)) (rows : List Row) (f g : Failure) → TableBreaks N rules rows f → TableBreaks N rules rows g → f ≡ g
table_breaks_once N rules rows f g a b =
    let at : g.at ≡ f.at = breaks_once N rows g.at f.at b.breaks a.breaks in
    failure_same f g (a.number ∙ sym b.number) (sym at)
    (showing_once N rows f.at f.shown g.shown a.chosen (subst (λ (x : Pos). ShownAsChosen N rows x g.shown) at b.chosen))

-- Where all rules hold each does.
all_at : (N : Net) (rules : List (List Row)) (k : ℕ) (rows : List Row) → AllHold N rules → slice_get rules k ≡ Some rows → HoldsAtEntries N rows
all_at N [] k rows all e = let z : ◌≡◌ {A = ℕ} 0 1 = cc in absurd (omega arith)
all_at N (t ∷ ts) zero rows all e = let same : t ≡ rows = cc in subst (HoldsAtEntries N) same all.0
all_at N (t ∷ ts) (suc k) rows all e = all_at N ts k rows all.1 e

all_before : (N : Net) (rules : List (List Row)) (n k : ℕ) (rows : List Row) → AllHold N (take n rules) → k < n → slice_get rules k ≡ Some rows
    → HoldsAtEntries N rows
all_before N rules zero k rows all lt e = absurd (omega arith)
all_before N [] (suc n) k rows all lt e = let z : ◌≡◌ {A = ℕ} 0 1 = cc in absurd (omega arith)
all_before N (t ∷ ts) (suc n) zero rows all lt e = let same : t ≡ rows = cc in subst (HoldsAtEntries N) same all.0
all_before N (t ∷ ts) (suc n) (suc k) rows all lt e = all_before N ts n k rows all.1 (omega arith) e

-- One rule is the first that breaks.
not_sooner : (N : Net) (rules : List (List Row)) (k j : ℕ) (x y : Pos) (t u : List Row) → FirstBroken N rules k x t → FirstBroken N rules j y u
    → ¬ (k < j)
not_sooner N rules k j x y t u a b lt = holds_or_breaks N t x (all_before N rules j k t b.earlier lt a.listed) a.breaks

rules_break_once : (N : Net) (rules : List (List Row)) (f g : Failure) → RulesBreak N rules f → RulesBreak N rules g → f ≡ g
rules_break_once N rules f g a b =
    let number : f.rule ≡ g.rule = same_from f.rule g.rule
    (not_sooner N rules f.rule g.rule f.at g.at a.table b.table a.first b.first)
    (not_sooner N rules g.rule f.rule g.at f.at b.table a.table b.first a.first) in
    let listed : Some b.table ≡ Some a.table = sym b.first.listed ∙ (ap (slice_get rules) (sym number) ∙ a.first.listed) in
    let table : b.table ≡ a.table = cc listed in
    let breaks : BreaksFirstAt N a.table g.at = subst (λ (t : List Row). BreaksFirstAt N t g.at) table b.first.breaks in
    let at : g.at ≡ f.at = breaks_once N a.table g.at f.at breaks a.first.breaks in
    let chosen_there : ShownAsChosen N a.table g.at g.shown = subst (λ (t : List Row). ShownAsChosen N t g.at g.shown) table b.chosen in
    failure_same f g number (sym at)
    (showing_once N a.table f.at f.shown g.shown a.chosen (subst (λ (x : Pos). ShownAsChosen N a.table x g.shown) at chosen_there))

-- Rules that all hold are not rules of which one breaks.
pub never_both : (N : Net) (rules : List (List Row)) (k : ℕ) (at : Pos) (rows : List Row) → AllHold N rules → ¬ (FirstBroken N rules k at rows)
never_both N rules k at rows all first = holds_or_breaks N rows at (all_at N rules k rows all first.listed) first.breaks

all_or_break : {X : Type 0} (N : Net) (rules : List (List Row)) (f : Failure) → AllHold N rules → RulesBreak N rules f → X
all_or_break N rules f all b = absurd (never_both N rules f.rule f.at b.table all b.first)

all_rounds_once : (N : Net) (rules : List (List Row)) (m n : ℕ) → RoundsOfAll N rules m → RoundsOfAll N rules n → m ≡ n
all_rounds_once N [] m n a b = a ∙ sym b
all_rounds_once N (t ∷ ts) m n a b =
    let front = rounds_once N t (length t) a.0 b.0 a.2 b.2 in
    let rest = all_rounds_once N ts a.1 b.1 a.3 b.3 in
    omega arith

-- What a call does that is not refused.
done_once : (o : Opening) (p : Paper) (call : Call) (a b : Answer) (q r : Paper) → Done o p call a q → Done o p call b r → (a ≡ b) × (q ≡ r)
done_once o p (adopt rows room) (adopted n) (adopted m) q r d e =
    (ap adopted (rounds_once (standing_net o p) rows (length rows) n m d.1 e.1), d.2 ∙ sym e.2)
done_once o p (adopt rows room) (adopted n) (turned_down f) q r d e = holds_or_breaks (standing_net o p) rows f.at d.0 e.0.breaks
done_once o p (adopt rows room) (adopted n) b q r d e = absurd e
done_once o p (adopt rows room) (turned_down f) (adopted m) q r d e = holds_or_breaks (standing_net o p) rows f.at e.0 d.0.breaks
done_once o p (adopt rows room) (turned_down f) (turned_down g) q r d e =
    (ap turned_down (table_breaks_once (standing_net o p) p.rules rows f g d.0 e.0), d.1 ∙ sym e.1)
done_once o p (adopt rows room) (turned_down f) b q r d e = absurd e
done_once o p (propose change) (proposed t) (proposed u) q r d e = (ap proposed (d.0 ∙ sym e.0), d.1 ∙ sym e.1)
done_once o p (propose change) (proposed t) b q r d e = absurd e
done_once o p (revise t change) (revised u) (revised v) q r d e = (ap revised (d.0 ∙ sym e.0), d.1 ∙ sym e.1)
done_once o p (revise t change) (revised u) b q r d e = absurd e
done_once o p (admit t room) (stood n) (stood m) q r d e = (ap stood (all_rounds_once (proposed_net o p) p.rules n m d.1 e.1), d.2 ∙ sym e.2)
done_once o p (admit t room) (stood n) (turned_down f) q r d e = all_or_break (proposed_net o p) p.rules f d.0 e.0
done_once o p (admit t room) (stood n) b q r d e = absurd e
done_once o p (admit t room) (turned_down f) (stood m) q r d e = all_or_break (proposed_net o p) p.rules f e.0 d.0
done_once o p (admit t room) (turned_down f) (turned_down g) q r d e =
    (ap turned_down (rules_break_once (proposed_net o p) p.rules f g d.0 e.0), d.1 ∙ sym e.1)
done_once o p (admit t room) (turned_down f) b q r d e = absurd e
done_once o p (withdraw t) withdrawn withdrawn q r d e = (refl, d ∙ sym e)
done_once o p (withdraw t) withdrawn b q r d e = absurd e
done_once o p ask_open (open_count n) (open_count m) q r d e = (ap open_count (d.0 ∙ sym e.0), d.1 ∙ sym e.1)
done_once o p ask_open (open_count n) b q r d e = absurd e
done_once o p call a b q r d e = absurd d

-- A call is refused, or it is done.
pub refused_or_done : (o : Opening) (p : Paper) (call : Call) (a : Answer) (q : Paper) → Does o p call a q
    → ((r : Refusal) × (a ≡ refused r) × (refusal o p call ≡ Some r) × (q ≡ p)) ⊎ ((refusal o p call ≡ None) × Done o p call a q)
refused_or_done o p call (refused r) q d = inl (r, refl, d.0, d.1)
refused_or_done o p call (adopted n) q d = inr d
refused_or_done o p call (proposed t) q d = inr d
refused_or_done o p call (revised t) q d = inr d
refused_or_done o p call (stood n) q d = inr d
refused_or_done o p call (turned_down f) q d = inr d
refused_or_done o p call withdrawn q d = inr d
refused_or_done o p call (open_count n) q d = inr d

-- A call has one answer, and leaves one board.
pub does_once : (o : Opening) (p : Paper) (call : Call) (a b : Answer) (q r : Paper) → Does o p call a q → Does o p call b r → (a ≡ b) × (q ≡ r)
does_once o p call a b q r d e = go (refused_or_done o p call a q d) (refused_or_done o p call b r e) where
  Refuses : Answer → Paper → Type 0
  Refuses c s = (x : Refusal) × (c ≡ refused x) × (refusal o p call ≡ Some x) × (s ≡ p)

  go : Refuses a q ⊎ ((refusal o p call ≡ None) × Done o p call a q) → Refuses b r ⊎ ((refusal o p call ≡ None) × Done o p call b r) → (a ≡ b) × (q ≡ r)
  go (inl s) (inl t) =
      let some : Some s.0 ≡ Some t.0 = sym s.2 ∙ t.2 in
      let same : s.0 ≡ t.0 = cc some in
      (s.1 ∙ (ap refused same ∙ sym t.1), s.3 ∙ sym t.3)
  go (inl s) (inr t) = not_both _ s.0 t.0 s.2
  go (inr s) (inl t) = not_both _ t.0 s.0 t.2
  go (inr s) (inr t) = done_once o p call a b q r s.1 t.1

-- So do the calls of a run.
pub run_once : (o : Opening) (p : Paper) (calls : List Call) (one other : List Answer) (q r : Paper) → Run o p calls one q → Run o p calls other r
    → (one ≡ other) × (q ≡ r)
run_once o p [] [] [] q r d e = (refl, sym d ∙ e)
run_once o p [] [] (b ∷ bs) q r d e = absurd e
run_once o p [] (a ∷ more) other q r d e = absurd d
run_once o p (c ∷ cs) [] other q r d e = absurd d
run_once o p (c ∷ cs) (a ∷ more) [] q r d e = absurd e
run_once o p (c ∷ cs) (a ∷ more) (b ∷ bs) q r d e =
    let first = does_once o p c a b d.0 e.0 d.1 e.1 in
    let rest = run_once o d.0 cs more bs q r d.2 (subst (λ (m : Paper). Run o m cs bs r) (sym first.1) e.2) in
    (ap (λ (x : Answer). x ∷ more) first.0 ∙ ap (λ (xs : List Answer). b ∷ xs) rest.0, rest.1)
