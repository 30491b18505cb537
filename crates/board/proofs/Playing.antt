-- Playing calls one after another.
use Rattle.std.proofs.Common.{◌≡◌, ℕ, ◌+◌, ◌<◌, ◌≤◌, List, [], ◌∷◌, ◌++◌, length, map, take, get_or, None, refl, ap, ◌∙◌, subst, arith, leb, ◌&&◌, Bool, true, false, cond, Some}
use Rattle.std.proofs.lemmas.List.{take_more, take_all}
use Rattle.std.proofs.lemmas.Bool.{and_parts, leb-true}
use Rattle.routing.specs.Bindings.{Fits}
use Rattle.judging.specs.declared.shown.RouteStep.{RouteStep}
use Rattle.paper.specs.declared.room.Room.{Room}
use Rattle.paper.specs.Calls.{Call, Answer}
use Rattle.paper.specs.Claims.{OpeningFits}
use Rattle.paper.specs.Does.{Does, Run}
use Rattle.paper.specs.Paper.{Opening, Paper, opened, all_places}
use Rattle.paper.specs.Refused.{opening_refusal}
use Rattle.paper.proofs.Histories.{run_more}
use Rattle.paper.proofs.Some.{run_some}
use Rattle.board.specs.declared.call.Call.{Call as PlayedCall}
use Rattle.board.specs.declared.call.Answer.{Answer as PlayedAnswer}
use Rattle.board.specs.Answers.{room_of}
use Rattle.board.specs.Played.{call_of, calls_of, answer_of, answers_of}

map_more : {X Y : Type 0} (f : X → Y) (xs : List X) (x : X) → map f (xs ++ x ∷ []) ≡ map f xs ++ f x ∷ []
map_more f [] x = refl
map_more f (y ∷ ys) x = ap (λ rest. f y ∷ rest) (map_more f ys x)

-- Lists of the same lengths are the same room.
pub same_room : {S : Type 0} (m m' s s' : List S) (t t' : List RouteStep) → length m ≡ length m' → length s ≡ length s' → length t ≡ length t'
    → room_of m s t ≡ room_of m' s' t'
same_room m m' s s' t t' e f g = rw (e, f, g) refl

-- One call more.
pub run_next : (o : Opening) (p : Paper) (room : Room) (calls : List PlayedCall) (i : ℕ) (d : PlayedCall) (answers all : List PlayedAnswer) (answer : PlayedAnswer) (q r : Paper)
    → i < length calls → Run o p (calls_of room (take i calls)) (answers_of answers) q → all ≡ answers ++ answer ∷ []
    → Does o q (call_of room (get_or calls i d)) (answer_of answer) r → Run o p (calls_of room (take (i + 1) calls)) (answers_of all) r
run_next o p room calls i d answers all answer q r lt run pushed does =
    let more : calls_of room (take (i + 1) calls) ≡ calls_of room (take i calls) ++ call_of room (get_or calls i d) ∷ [] =
    ap (calls_of room) (take_more calls i d lt) ∙ map_more (call_of room) (take i calls) (get_or calls i d) in
    let told : answers_of all ≡ answers_of answers ++ answer_of answer ∷ [] = ap answers_of pushed ∙ map_more answer_of answers answer in
    rw (more, told) (run_more o p (calls_of room (take i calls)) (answers_of answers) q (call_of room (get_or calls i d)) (answer_of answer) r run does)

-- A loop over the calls that has come to their end has played them all.
pub run_all : (o : Opening) (p : Paper) (room : Room) (calls : List PlayedCall) (i : ℕ) (answers : List PlayedAnswer) (q : Paper)
    → length calls ≤ i → Run o p (calls_of room (take i calls)) (answers_of answers) q → Run o p (calls_of room calls) (answers_of answers) q
run_all o p room calls i answers q past = subst (λ (cs : List PlayedCall). Run o p (calls_of room cs) (answers_of answers) q) (take_all i calls past)

-- An opening that is not refused leaves room.
pub opening_fits : (o : Opening) → Fits o.far → opening_refusal o ≡ None → OpeningFits o
opening_fits o far none =
    let met : (leb (length o.marks) 64 && (leb (all_places o) 256 && leb (length o.far.bindings) 3968)) ≡ true = tests _ _ none in
    let own = and_parts (leb (length o.marks) 64) _ met in
    let both = and_parts (leb (all_places o) 256) (leb (length o.far.bindings) 3968) own.1 in
    record { far = far; few_places = leb-true _ _ both.0; few_bindings = leb-true _ _ both.1 }
  where
    tests : {E : Type 0} (b : Bool) (e : E) → cond b None (Some e) ≡ None → b ≡ true
    tests true e h = refl
    tests false e h = let z : ◌≡◌ {A = ℕ} 0 1 = cc in absurd (omega arith)

-- Every list of calls is answered.
pub answered : (o : Opening) → Fits o.far → (calls : List Call) → opening_refusal o ≡ None → (answers : List Answer) × (q : Paper) × Run o opened calls answers q
answered o far calls none = run_some o (opening_fits o far none) calls

-- A run from a board as it is opened.
pub from_opened : (o b : Opening) (p q : Paper) (calls : List Call) (answers : List Answer) → b ≡ o → p ≡ opened → Run b p calls answers q → Run o opened calls answers q
from_opened o b p q calls answers same new run =
    subst (λ (x : Opening). Run x opened calls answers q) same (subst (λ (m : Paper). Run b m calls answers q) new run)
