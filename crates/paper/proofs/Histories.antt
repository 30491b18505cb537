-- What the answers of a run tell: the board that it leaves, and the law.
use Rattle.std.proofs.Common.{◌≡◌, ℕ, zero, suc, ◌+◌, Bool, true, false, cond, not, ◌&&◌, ◌==◌, ◌↔◌, List, [], ◌∷◌, ◌++◌, take, length, Option, Some, None, is_some, slice_get, refl, ap, sym, ◌∙◌, subst, inl, inr, arith}
use Rattle.std.proofs.Math.Seq.{take-append_seam}
use Rattle.routing.specs.declared.refusal.Refusal.{Refusal}
use Rattle.routing.specs.Net.{Net, Pos}
use Rattle.tables.specs.declared.row.Row.{Row}
use Rattle.paper.specs.declared.change.Change.{Change}
use Rattle.paper.specs.declared.numbers.Numbers.{Numbers}
use Rattle.routing.specs.declared.refusal.Refusal.TheVariants.{ProposalOpen, TooShort, WrongTicket}
use Rattle.paper.specs.declared.room.Room.{Room}
use Rattle.paper.specs.Calls.{Call, adopt, propose, revise, admit, withdraw, ask_open, Answer, refused, adopted, proposed, revised, stood, turned_down, withdrawn, open_count, Failure}
use Rattle.paper.specs.Paper.{Opening, Paper, opened, standing, own_with}
use Rattle.paper.specs.Refused.{unless, change_refusal, is_open, closed, fits_ticket, enough, most_rows, refusal}
use Rattle.paper.specs.Rules.{AllHold, HoldsAtEntries, BreaksFirstAt, FirstBroken}
use Rattle.paper.specs.Does.{Does, Run, RulesBreak}
use Rattle.paper.specs.History.{History, history, rules_of, change_put, open_now, own_of, times_opened, times_stood, times_turned_down, times_withdrawn, times_open, told_by}
use Rattle.paper.proofs.Lines.{both_none, met, not_both}
use Rattle.paper.specs.Law.{net_told, RulesHold, RightAnswer, EachCall, AnsweredRightly, RefusedRightly, Law}

-- An open proposal has its change.
abbrev Held : History → Type 0
Held h = open_now h ≡ true → is_some (change_put h) ≡ true

-- Each proposal stood, was turned down, was withdrawn, or is open.
abbrev Counted : History → Type 0
Counted h = times_opened h ≡ times_stood h + times_turned_down h + times_withdrawn h + times_open h

-- A call is refused exactly when its line says so.
-- What is known after each number of calls.
record Kept (o : Opening) (h : History) : Type 0 where
  held : Held h
  law : Law o h

-- A ticket fits only while a proposal is open.
fits_open : (o : Opening) (h : History) (t : Numbers) → fits_ticket o (told_by h) t ≡ true → open_now h ≡ true
fits_open o h t e = parts (t.board == o.number) (t.serial == times_opened h) (open_now h) (change_put h) e where
  parts : (a b c : Bool) (put : Option Change) → (a && (b && is_some (cond c put None))) ≡ true → c ≡ true
  parts true true true put e = refl
  parts true true false put e = cc
  parts true false c put e = cc
  parts false b c put e = cc

-- The board has an open proposal where the history has one.
open_told : (h : History) → Held h → is_open (told_by h) ≡ open_now h
open_told h held = go (open_now h) held where
  go : (b : Bool) → (b ≡ true → is_some (change_put h) ≡ true) → is_some (cond b (change_put h) None) ≡ b
  go true some = some refl
  go false some = refl

closed_told : (h : History) → Held h → closed (told_by h) ≡ true → open_now h ≡ false
closed_told h held shut = sym (open_told h held) ∙ go (is_open (told_by h)) shut where
  go : (b : Bool) → not b ≡ true → b ≡ false
  go true e = cc
  go false e = refl

-- What is not refused passes each test of its line.
propose_closed : (o : Opening) (h : History) (change : Change) → Held h → refusal o (told_by h) (propose change) ≡ None → open_now h ≡ false
propose_closed o h change held free =
    closed_told h held (met (closed (told_by h)) ProposalOpen
    (both_none _ _ (both_none (change_refusal o (length (own_of h)) change) _ free).1).0)

revise_open : (o : Opening) (h : History) (t : Numbers) (change : Change) → refusal o (told_by h) (revise t change) ≡ None → open_now h ≡ true
revise_open o h t change free =
    fits_open o h t (met (fits_ticket o (told_by h) t) WrongTicket
    (both_none _ _ (both_none (change_refusal o (length (own_of h)) change) _ free).1).1)

admit_open : (o : Opening) (h : History) (t : Numbers) (room : Room) → refusal o (told_by h) (admit t room) ≡ None → open_now h ≡ true
admit_open o h t room free =
    fits_open o h t (met (fits_ticket o (told_by h) t) WrongTicket (both_none (unless (enough o (most_rows (rules_of h)) room) TooShort) _ free).1)

withdraw_open : (o : Opening) (h : History) (t : Numbers) → refusal o (told_by h) (withdraw t) ≡ None → open_now h ≡ true
withdraw_open o h t free = fits_open o h t (met (fits_ticket o (told_by h) t) WrongTicket free)

-- The open change is the one that was put last.
pending_put : (h : History) → open_now h ≡ true → cond (open_now h) (change_put h) None ≡ change_put h
pending_put h e = rw e refl

-- A call leaves the board that the history with it and its answer tells of.
told_more : (o : Opening) (h : History) (call : Call) (answer : Answer) (q : Paper) → Does o (told_by h) call answer q → q ≡ told_by ((call, answer) ∷ h)
told_more o h (adopt rows room) (refused r) q d = d.1
told_more o h (propose change) (refused r) q d = d.1
told_more o h (revise t change) (refused r) q d = d.1
told_more o h (admit t room) (refused r) q d = d.1
told_more o h (withdraw t) (refused r) q d = d.1
told_more o h ask_open (refused r) q d = d.1
told_more o h (adopt rows room) (adopted n) q d = d.1.2
told_more o h (adopt rows room) (turned_down f) q d = d.1.1
told_more o h (propose change) (proposed t) q d = d.1.1
told_more o h (revise t change) (revised u) q d = d.1.1 ∙ rw (revise_open o h t change d.0) refl
told_more o h (admit t room) (stood n) q d = d.1.2 ∙ rw (pending_put h (admit_open o h t room d.0)) refl
told_more o h (admit t room) (turned_down f) q d = d.1.1
told_more o h (withdraw t) withdrawn q d = d.1
told_more o h ask_open (open_count n) q d = d.1.1
told_more o h call answer q d = absurd d.1

-- An open proposal still has its change.
held_more : (o : Opening) (h : History) (call : Call) (answer : Answer) (q : Paper) → Does o (told_by h) call answer q → Held h → Held ((call, answer) ∷ h)
held_more o h (adopt rows room) (refused r) q d held = held
held_more o h (propose change) (refused r) q d held = held
held_more o h (revise t change) (refused r) q d held = held
held_more o h (admit t room) (refused r) q d held = held
held_more o h (withdraw t) (refused r) q d held = held
held_more o h ask_open (refused r) q d held = held
held_more o h (adopt rows room) (adopted n) q d held = held
held_more o h (adopt rows room) (turned_down f) q d held = held
held_more o h (propose change) (proposed t) q d held = λ e. refl
held_more o h (revise t change) (revised u) q d held = λ e. refl
held_more o h (admit t room) (stood n) q d held = λ e. cc
held_more o h (admit t room) (turned_down f) q d held = λ e. cc
held_more o h (withdraw t) withdrawn q d held = λ e. cc
held_more o h ask_open (open_count n) q d held = held
held_more o h call answer q d held = absurd d.1

-- The count, where it is known whether a proposal is open.
count_at : (h : History) (b : Bool) → open_now h ≡ b → Counted h
    → times_opened h ≡ times_stood h + times_turned_down h + times_withdrawn h + cond b 1 0
count_at h b e c = c ∙ ap (λ (b : Bool). times_stood h + times_turned_down h + times_withdrawn h + cond b 1 0) e

counted_more : (o : Opening) (h : History) (call : Call) (answer : Answer) (q : Paper) → Does o (told_by h) call answer q
    → Held h → Counted h → Counted ((call, answer) ∷ h)
counted_more o h (adopt rows room) (refused r) q d held c = c
counted_more o h (propose change) (refused r) q d held c = c
counted_more o h (revise t change) (refused r) q d held c = c
counted_more o h (admit t room) (refused r) q d held c = c
counted_more o h (withdraw t) (refused r) q d held c = c
counted_more o h ask_open (refused r) q d held c = c
counted_more o h (adopt rows room) (adopted n) q d held c = c
counted_more o h (adopt rows room) (turned_down f) q d held c = c
counted_more o h (propose change) (proposed t) q d held c = let none = count_at h false (propose_closed o h change held d.0) c in omega (arith, none)
counted_more o h (revise t change) (revised u) q d held c = c
counted_more o h (admit t room) (stood n) q d held c = let one = count_at h true (admit_open o h t room d.0) c in omega (arith, one)
counted_more o h (admit t room) (turned_down f) q d held c = let one = count_at h true (admit_open o h t room d.0) c in omega (arith, one)
counted_more o h (withdraw t) withdrawn q d held c = let one = count_at h true (withdraw_open o h t d.0) c in omega (arith, one)
counted_more o h ask_open (open_count n) q d held c = c
counted_more o h call answer q d held c = absurd d.1

-- One more table whose rule holds.
all_more : (N : Net) (rules : List (List Row)) (rows : List Row) → AllHold N rules → HoldsAtEntries N rows → AllHold N (rules ++ rows ∷ [])
all_more N [] rows all now = (now, tt)
all_more N (t ∷ ts) rows all now = (all.0, all_more N ts rows all.1 now)

-- One more table, whose rule breaks.
first_more : (N : Net) (rules : List (List Row)) (rows : List Row) (k : ℕ) (at : Pos) → AllHold N rules → k ≡ length rules → BreaksFirstAt N rows at
    → FirstBroken N (rules ++ rows ∷ []) k at rows
first_more N rules rows k at all e breaks = record {
  listed = rw e (at_end rules);
  earlier = rw (e, take-append_seam rules (rows ∷ [])) all;
  breaks = breaks;
} where
  at_end : (ts : List (List Row)) → slice_get (ts ++ rows ∷ []) (length ts) ≡ Some rows
  at_end [] = refl
  at_end (t ∷ ts) = at_end ts

-- With the open change standing, each rule holds; or the first that breaks is the one that the failure names.
stood_hold : (o : Opening) (h : History) (rules : List (List Row)) → open_now h ≡ true
    → AllHold (standing o (own_with (told_by h).pending (own_of h))) rules → AllHold (standing o (own_with (change_put h) (own_of h))) rules
stood_hold o h rules e all = subst (λ (c : Option Change). AllHold (standing o (own_with c (own_of h))) rules) (pending_put h e) all

fell_break : (o : Opening) (h : History) (rules : List (List Row)) (f : Failure) → open_now h ≡ true
    → RulesBreak (standing o (own_with (told_by h).pending (own_of h))) rules f → RulesBreak (standing o (own_with (change_put h) (own_of h))) rules f
fell_break o h rules f e breaks = subst (λ (c : Option Change). RulesBreak (standing o (own_with c (own_of h))) rules f) (pending_put h e) breaks

-- The adopted rules still hold.
rules_more : (o : Opening) (h : History) (call : Call) (answer : Answer) (q : Paper) → Does o (told_by h) call answer q
    → RulesHold o h → RulesHold o ((call, answer) ∷ h)
rules_more o h (adopt rows room) (refused r) q d all = all
rules_more o h (propose change) (refused r) q d all = all
rules_more o h (revise t change) (refused r) q d all = all
rules_more o h (admit t room) (refused r) q d all = all
rules_more o h (withdraw t) (refused r) q d all = all
rules_more o h ask_open (refused r) q d all = all
rules_more o h (adopt rows room) (adopted n) q d all = all_more (net_told o h) (rules_of h) rows all d.1.0
rules_more o h (adopt rows room) (turned_down f) q d all = all
rules_more o h (propose change) (proposed t) q d all = all
rules_more o h (revise t change) (revised u) q d all = all
rules_more o h (admit t room) (stood n) q d all = stood_hold o h (rules_of h) (admit_open o h t room d.0) d.1.0
rules_more o h (admit t room) (turned_down f) q d all = all
rules_more o h (withdraw t) withdrawn q d all = all
rules_more o h ask_open (open_count n) q d all = all
rules_more o h call answer q d all = absurd d.1

-- A call that is not refused is answered rightly.
right : (o : Opening) (h : History) (call : Call) (answer : Answer) (q : Paper) → Does o (told_by h) call answer q → Kept o h → AnsweredRightly o h call answer
right o h (adopt rows room) (refused r) q d kept = λ free. not_both (refusal o (told_by h) (adopt rows room)) r free d.0
right o h (adopt rows room) (adopted n) q d kept = λ free. inl (n, all_more (net_told o h) (rules_of h) rows kept.law.rules d.1.0, refl)
right o h (adopt rows room) (turned_down f) q d kept = λ free.
    inr (
      f,
      record {
        table = rows;
        first = first_more (net_told o h) (rules_of h) rows f.rule f.at kept.law.rules d.1.0.number d.1.0.breaks;
        shown = d.1.0.shown;
      },
      refl,
    )
right o h (admit t room) (refused r) q d kept = λ free. not_both (refusal o (told_by h) (admit t room)) r free d.0
right o h (admit t room) (stood n) q d kept = λ free. inl (n, stood_hold o h (rules_of h) (admit_open o h t room d.0) d.1.0, refl)
right o h (admit t room) (turned_down f) q d kept = λ free.
    let b = fell_break o h (rules_of h) f (admit_open o h t room d.0) d.1.0 in
    inr (f, record { table = b.table; first = b.first; shown = b.shown }, refl)
right o h (propose change) (refused r) q d kept = λ free. not_both (refusal o (told_by h) (propose change)) r free d.0
right o h (propose change) (proposed t) q d kept = λ free. ap proposed d.1.0
right o h (revise t change) (refused r) q d kept = λ free. not_both (refusal o (told_by h) (revise t change)) r free d.0
right o h (revise t change) (revised u) q d kept = λ free. ap revised d.1.0
right o h (withdraw t) (refused r) q d kept = λ free. not_both (refusal o (told_by h) (withdraw t)) r free d.0
right o h (withdraw t) withdrawn q d kept = λ free. refl
right o h ask_open (refused r) q d kept = λ free. not_both (refusal o (told_by h) ask_open) r free d.0
right o h ask_open (open_count n) q d kept = λ free. ap open_count (d.1.0 ∙ ap (λ (b : Bool). cond b 1 0) (open_told h kept.held))
right o h call answer q d kept = absurd d.1

-- A call is refused exactly when its line says so.
refused_rightly : (o : Opening) (h : History) (call : Call) (answer : Answer) (q : Paper) → Does o (told_by h) call answer q → RefusedRightly o h call answer
refused_rightly o h call (refused s) q d = λ r. (λ e. d.0 ∙ ap Some (cc e), λ e. cc (d.0))
refused_rightly o h call (adopted n) q d = λ r. (λ e. cc, λ e. not_both _ r d.0 e)
refused_rightly o h call (proposed t) q d = λ r. (λ e. cc, λ e. not_both _ r d.0 e)
refused_rightly o h call (revised t) q d = λ r. (λ e. cc, λ e. not_both _ r d.0 e)
refused_rightly o h call (stood n) q d = λ r. (λ e. cc, λ e. not_both _ r d.0 e)
refused_rightly o h call (turned_down f) q d = λ r. (λ e. cc, λ e. not_both _ r d.0 e)
refused_rightly o h call withdrawn q d = λ r. (λ e. cc, λ e. not_both _ r d.0 e)
refused_rightly o h call (open_count n) q d = λ r. (λ e. cc, λ e. not_both _ r d.0 e)

-- A split at the newest call, or further back.
each_more : (P : History → Call → Answer → Type 0) (h : History) (call : Call) (answer : Answer) → P h call answer → EachCall h P
    → EachCall ((call, answer) ∷ h) P
each_more P h call answer now old [] before c a e =
    let first : ◌≡◌ {A = Call × Answer} (call, answer) (c, a) = cc e in
    let rest : h ≡ before = cc e in
    subst (λ (x : Call × Answer). P before x.0 x.1) first (subst (λ (b : History). P b call answer) rest now)
each_more P h call answer now old (l ∷ later) before c a e = let rest : h ≡ later ++ (c, a) ∷ before = cc e in old later before c a rest

-- No call is in the empty history.
each_none : (P : History → Call → Answer → Type 0) → EachCall [] P
each_none P [] before call answer e = let z : ◌≡◌ {A = ℕ} 0 1 = cc in absurd (omega arith)
each_none P (l ∷ later) before call answer e = let z : ◌≡◌ {A = ℕ} 0 1 = cc in absurd (omega arith)

kept_more : (o : Opening) (h : History) (call : Call) (answer : Answer) (q : Paper) → Does o (told_by h) call answer q → Kept o h
    → Kept o ((call, answer) ∷ h)
kept_more o h call answer q d kept = record {
  held = held_more o h call answer q d kept.held;
  law = record {
    rules = rules_more o h call answer q d kept.law.rules;
    judged = each_more (AnsweredRightly o) h call answer (right o h call answer q d kept) kept.law.judged;
    counted = counted_more o h call answer q d kept.held kept.law.counted;
    refusals = each_more (RefusedRightly o) h call answer (refused_rightly o h call answer q d) kept.law.refusals;
  };
}

-- A board as it is opened.
kept_opened : (o : Opening) → Kept o []
kept_opened o = record {
  held = λ e. cc;
  law = record { rules = tt; judged = each_none (AnsweredRightly o); counted = refl; refusals = each_none (RefusedRightly o) };
}

-- The run from the board that a history tells of, as it goes on after the first call.
rest_of : (o : Opening) (h : History) (call : Call) (answer : Answer) (m : Paper) (calls : List Call) (answers : List Answer) (q : Paper)
    → Does o (told_by h) call answer m → Run o m calls answers q → Run o (told_by ((call, answer) ∷ h)) calls answers q
rest_of o h call answer m calls answers q d run = subst (λ (p : Paper). Run o p calls answers q) (told_more o h call answer m d) run

-- The whole run, and as much of it as one likes.
whole : (o : Opening) (h : History) (calls : List Call) (answers : List Answer) (q : Paper) → Run o (told_by h) calls answers q
    → q ≡ told_by (history h calls answers)
whole o h [] [] q run = sym run
whole o h [] (a ∷ more) q run = absurd run
whole o h (c ∷ cs) [] q run = absurd run
whole o h (c ∷ cs) (a ∷ more) q run = whole o ((c, a) ∷ h) cs more q (rest_of o h c a run.0 cs more q run.1 run.2)

part : (o : Opening) (h : History) (calls : List Call) (answers : List Answer) (q : Paper) → Run o (told_by h) calls answers q → Kept o h
    → (i : ℕ) → Law o (history h (take i calls) (take i answers))
part o h calls answers q run kept zero = kept.law
part o h [] [] q run kept (suc i) = kept.law
part o h [] (a ∷ more) q run kept (suc i) = absurd run
part o h (c ∷ cs) [] q run kept (suc i) = absurd run
part o h (c ∷ cs) (a ∷ more) q run kept (suc i) =
    part o ((c, a) ∷ h) cs more q (rest_of o h c a run.0 cs more q run.1 run.2) (kept_more o h c a run.0 run.1 kept) i

-- Every run from the opening keeps the law after each number of calls.
pub run_law : (o : Opening) (calls : List Call) (answers : List Answer) (q : Paper) → Run o opened calls answers q
    → (i : ℕ) → Law o (history [] (take i calls) (take i answers))
run_law o calls answers q run = part o [] calls answers q run (kept_opened o)

-- It leaves the board that its history tells of.
pub run_told : (o : Opening) (calls : List Call) (answers : List Answer) (q : Paper) → Run o opened calls answers q
    → q ≡ told_by (history [] calls answers)
run_told o calls answers q run = whole o [] calls answers q run

-- A run and one call more.
pub run_more : (o : Opening) (p : Paper) (calls : List Call) (answers : List Answer) (q : Paper) (call : Call) (answer : Answer) (r : Paper)
    → Run o p calls answers q → Does o q call answer r → Run o p (calls ++ call ∷ []) (answers ++ answer ∷ []) r
run_more o p [] [] q call answer r run d = (r, subst (λ (m : Paper). Does o m call answer r) (sym run) d, refl)
run_more o p [] (a ∷ more) q call answer r run d = absurd run
run_more o p (c ∷ cs) [] q call answer r run d = absurd run
run_more o p (c ∷ cs) (a ∷ more) q call answer r run d = (run.0, run.1, run_more o run.0 cs more q call answer r run.2 d)
