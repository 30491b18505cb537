-- The rules of the rows of a table.
use Rattle.std.proofs.Common.{◌≡◌, ℕ, zero, suc, ◌+◌, ◌-◌, ◌<◌, ◌≤◌, List, [], ◌∷◌, ◌++◌, length, get_or, take, sym, refl, ap, ◌∙◌, arith}
use Rattle.std.proofs.lemmas.List.{append_assoc, length_push, get_or_push, get_or_append_left, get_or-append-add, take_more, take_all}
use Rattle.routing.specs.Rules.{Rule, truth, mark, condition, non, both, either, ex, eu, eg, ef, ax, au, ag, af}
use Rattle.tables.specs.declared.row.Row.{Row}
use Rattle.tables.specs.declared.row.Operation.TheVariants.{Yes, Mark, Condition, Not, And, Or, Next, Until, Always}
use Rattle.tables.specs.Tables.{coded, row_rule, no_row, rules_before, rule_at}
use Rattle.rule_text.specs.Rows.{root, rows_of, until_rows}
use Rattle.rule_text.proofs.Alike.{core}
use Rattle.rule_text.proofs.Emitted.{root_len}

-- The rules of rows, behind those of earlier rows.
abbrev grow : List Rule → List Row → List Rule
grow E [] = E
grow E (w ∷ ws) = grow (E ++ (row_rule E w ∷ [])) ws

grow_append : (E : List Rule) (us ws : List Row) → grow E (us ++ ws) ≡ grow (grow E us) ws
grow_append E [] ws = refl
grow_append E (u ∷ us) ws = grow_append (E ++ (row_rule E u ∷ [])) us ws

before_grown : (rows : List Row) (r : ℕ) → r ≤ length rows → rules_before rows r ≡ grow [] (take r rows)
unfolding rules_before
before_grown rows zero h = refl
before_grown rows (suc r) h =
    let less : r < length rows = h in
    let e = before_grown rows r (omega arith) in
    let count : suc r ≡ r + 1 = omega arith in
    let more : take (suc r) rows ≡ take r rows ++ (get_or rows r no_row ∷ []) = ap (λ k. take k rows) count ∙ take_more rows r no_row less in
    ap (λ E. E ++ (row_rule E (get_or rows r no_row) ∷ [])) e ∙ sym (ap (grow []) more ∙ grow_append [] (take r rows) (get_or rows r no_row ∷ []))

length_grow : (E : List Rule) (ws : List Row) → length (grow E ws) ≡ length E + length ws
length_grow E [] = omega arith
length_grow E (w ∷ ws) = omega (arith, length_grow (E ++ (row_rule E w ∷ [])) ws, length_push E (row_rule E w))

grow_keeps : (E : List Rule) (ws : List Row) (i : ℕ) → i < length E → get_or (grow E ws) i truth ≡ get_or E i truth
grow_keeps E [] i h = refl
grow_keeps E (w ∷ ws) i h =
    grow_keeps (E ++ (row_rule E w ∷ [])) ws i (omega (arith, length_push E (row_rule E w))) ∙ get_or_append_left E (row_rule E w ∷ []) truth i h

-- One more row, behind rules F and the new ones.
more : (F ms : List Rule) (w : Row) (b : Rule) (ws : List Row) → row_rule (F ++ ms) w ≡ b → grow (F ++ ms) (w ∷ ws) ≡ grow (F ++ (ms ++ (b ∷ []))) ws
more F ms w b ws e = ap (λ q. grow ((F ++ ms) ++ (q ∷ [])) ws) e ∙ ap (λ l. grow l ws) (append_assoc F ms (b ∷ []))

first : (F : List Rule) (w : Row) (b : Rule) (ws : List Row) → row_rule F w ≡ b → grow F (w ∷ ws) ≡ grow (F ++ (b ∷ [])) ws
first F w b ws e = ap (λ q. grow (F ++ (q ∷ [])) ws) e

new : (F ms : List Rule) (n j k : ℕ) → length F ≡ n → k ≡ n + j → get_or (F ++ ms) k truth ≡ get_or ms j truth
new F ms n j k e h = let place : k ≡ length F + j = omega arith in ap (λ i. get_or (F ++ ms) i truth) place ∙ get_or-append-add F ms j truth

old : (F ms : List Rule) (i : ℕ) → i < length F → get_or (F ++ ms) i truth ≡ get_or F i truth
old F ms i h = get_or_append_left F ms truth i h

-- A form with one row behind its part.
one_row : (F : List Rule) (w : Row) (b : Rule) (k : ℕ) → length F ≡ k → row_rule F w ≡ b → get_or (grow F (w ∷ [])) k truth ≡ b
one_row F w b k e h = get_or_push F (row_rule F w) truth k e ∙ h

-- A form with three, the first and the last of which are nots.
three_rows : (F : List Rule) (r k : ℕ) (w : Row) (p b : Rule) → length F ≡ r + 1 → k ≡ r + 3 → get_or F r truth ≡ p
    → row_rule (F ++ (non p ∷ [])) w ≡ b → get_or (grow F (coded (Not r) ∷ w ∷ coded (Not (r + 2)) ∷ [])) k truth ≡ non b
three_rows F r k w p b l h e second =
    ap (λ E. get_or E k truth)
    (first F (coded (Not r)) (non p) (w ∷ coded (Not (r + 2)) ∷ []) (ap non e)
    ∙ more F (non p ∷ []) w b (coded (Not (r + 2)) ∷ []) second
    ∙ more F (non p ∷ b ∷ []) (coded (Not (r + 2))) (non b) [] (ap non (new F (non p ∷ b ∷ []) (r + 1) 1 (r + 2) l (omega arith))))
    ∙ new F (non p ∷ b ∷ non b ∷ []) (r + 1) 2 k l (omega arith)

-- The seven rows of A[p U q].
seven_rows : (F : List Rule) (i j n k : ℕ) (p q : Rule) → length F ≡ n → k ≡ n + 6 → i < n → j < n → get_or F i truth ≡ p → get_or F j truth ≡ q
    → get_or (grow F (until_rows i j n)) k truth ≡ non (either (eu (non q) (both (non p) (non q))) (eg (non q)))
seven_rows F i j n k p q l h li lj e g =
    let a1 = non p in let a2 = non q in let a3 = both a1 a2 in let a4 = eu a2 a3 in let a5 = eg a2 in let a6 = either a4 a5 in let a7 = non a6 in
    let ws2 : List Row = coded (Not j) ∷ coded (And n (n + 1)) ∷ coded (Until (n + 1) (n + 2)) ∷ coded (Always (n + 1)) ∷ coded (Or (n + 3) (n + 4)) ∷ coded (Not (n + 5)) ∷ [] in
    let ws3 : List Row = coded (And n (n + 1)) ∷ coded (Until (n + 1) (n + 2)) ∷ coded (Always (n + 1)) ∷ coded (Or (n + 3) (n + 4)) ∷ coded (Not (n + 5)) ∷ [] in
    let ws4 : List Row = coded (Until (n + 1) (n + 2)) ∷ coded (Always (n + 1)) ∷ coded (Or (n + 3) (n + 4)) ∷ coded (Not (n + 5)) ∷ [] in
    let ws5 : List Row = coded (Always (n + 1)) ∷ coded (Or (n + 3) (n + 4)) ∷ coded (Not (n + 5)) ∷ [] in
    let ws6 : List Row = coded (Or (n + 3) (n + 4)) ∷ coded (Not (n + 5)) ∷ [] in
    let ws7 : List Row = coded (Not (n + 5)) ∷ [] in
    let l2 = a1 ∷ [] in let l3 = a1 ∷ a2 ∷ [] in let l4 = a1 ∷ a2 ∷ a3 ∷ [] in let l5 = a1 ∷ a2 ∷ a3 ∷ a4 ∷ [] in
    let l6 = a1 ∷ a2 ∷ a3 ∷ a4 ∷ a5 ∷ [] in let l7 = a1 ∷ a2 ∷ a3 ∷ a4 ∷ a5 ∷ a6 ∷ [] in
    ap (λ E. get_or E k truth)
    (first F (coded (Not i)) a1 ws2 (ap non e)
    ∙ more F l2 (coded (Not j)) a2 ws3 (ap non (old F l2 j (omega arith) ∙ g))
    ∙ more F l3 (coded (And n (n + 1))) a3 ws4 (ap (λ x. both x (get_or (F ++ l3) (n + 1) truth)) (new F l3 n 0 n l (omega arith)) ∙ ap (both a1) (new F l3 n 1 (n + 1) l refl))
    ∙ more F l4 (coded (Until (n + 1) (n + 2))) a4 ws5 (ap (λ x. eu x (get_or (F ++ l4) (n + 2) truth)) (new F l4 n 1 (n + 1) l refl) ∙ ap (eu a2) (new F l4 n 2 (n + 2) l refl))
    ∙ more F l5 (coded (Always (n + 1))) a5 ws6 (ap eg (new F l5 n 1 (n + 1) l refl))
    ∙ more F l6 (coded (Or (n + 3) (n + 4))) a6 ws7 (ap (λ x. either x (get_or (F ++ l6) (n + 4) truth)) (new F l6 n 3 (n + 3) l refl) ∙ ap (either a4) (new F l6 n 4 (n + 4) l refl))
    ∙ more F l7 (coded (Not (n + 5))) a7 [] (ap non (new F l7 n 5 (n + 5) l refl)))
    ∙ new F (a1 ∷ a2 ∷ a3 ∷ a4 ∷ a5 ∷ a6 ∷ a7 ∷ []) n 6 k l h

length_part : (E : List Rule) (n : ℕ) (p : Rule) → length E ≡ n → length (grow E (rows_of n p)) ≡ root n p + 1
length_part E n p e = omega (arith, length_grow E (rows_of n p), root_len n p)

-- The rules behind two parts.
abbrev two : List Rule → ℕ → Rule → Rule → List Rule
two E n p q = grow (grow E (rows_of n p)) (rows_of (root n p + 1) q)

grow_two : (E : List Rule) (n : ℕ) (p q : Rule) (ws : List Row) → grow E (rows_of n p ++ (rows_of (root n p + 1) q ++ ws)) ≡ grow (two E n p q) ws
grow_two E n p q ws = grow_append E (rows_of n p) (rows_of (root n p + 1) q ++ ws) ∙ grow_append (grow E (rows_of n p)) (rows_of (root n p + 1) q) ws

length_two : (E : List Rule) (n : ℕ) (p q : Rule) → length E ≡ n → length (two E n p q) ≡ root (root n p + 1) q + 1
length_two E n p q l = length_part (grow E (rows_of n p)) (root n p + 1) q (length_part E n p l)

first_of : (E : List Rule) (n : ℕ) (p q : Rule) → length E ≡ n → get_or (grow E (rows_of n p)) (root n p) truth ≡ core p → get_or (two E n p q) (root n p) truth ≡ core p
first_of E n p q l e = grow_keeps (grow E (rows_of n p)) (rows_of (root n p + 1) q) (root n p) (omega (arith, length_part E n p l)) ∙ e

pub root_from : (n : ℕ) (f : Rule) → n ≤ root n f
root_from n truth = omega arith
root_from n (mark k) = omega arith
root_from n (condition k) = omega arith
root_from n (non p) = omega (arith, root_from n p)
root_from n (both p q) = omega (arith, root_from n p, root_from (root n p + 1) q)
root_from n (either p q) = omega (arith, root_from n p, root_from (root n p + 1) q)
root_from n (ex p) = omega (arith, root_from n p)
root_from n (eu p q) = omega (arith, root_from n p, root_from (root n p + 1) q)
root_from n (eg p) = omega (arith, root_from n p)
root_from n (ef p) = omega (arith, root_from (n + 1) p)
root_from n (ax p) = omega (arith, root_from n p)
root_from n (au p q) = omega (arith, root_from n p, root_from (root n p + 1) q)
root_from n (ag p) = omega (arith, root_from (n + 1) p)
root_from n (af p) = omega (arith, root_from n p)

-- The last row of a rule has its rule.
last_rule : (f : Rule) (E : List Rule) (n : ℕ) → length E ≡ n → get_or (grow E (rows_of n f)) (root n f) truth ≡ core f
unfolding rows_of
last_rule truth E n l = one_row E (coded Yes) truth n l refl
last_rule (mark k) E n l = one_row E (coded (Mark k)) (mark k) n l refl
last_rule (condition k) E n l = one_row E (coded (Condition k)) (condition k) n l refl
last_rule (non p) E n l =
    ap (λ F. get_or F (root n p + 1) truth) (grow_append E (rows_of n p) (coded (Not (root n p)) ∷ []))
    ∙ one_row (grow E (rows_of n p)) (coded (Not (root n p))) (non (core p)) (root n p + 1) (length_part E n p l) (ap non (last_rule p E n l))
last_rule (both p q) E n l =
    ap (λ F. get_or F (root (root n p + 1) q + 1) truth) (grow_two E n p q (coded (And (root n p) (root (root n p + 1) q)) ∷ []))
    ∙ one_row (two E n p q) (coded (And (root n p) (root (root n p + 1) q))) (both (core p) (core q)) (root (root n p + 1) q + 1) (length_two E n p q l)
    (ap (λ x. both x (get_or (two E n p q) (root (root n p + 1) q) truth)) (first_of E n p q l (last_rule p E n l))
    ∙ ap (both (core p)) (last_rule q (grow E (rows_of n p)) (root n p + 1) (length_part E n p l)))
last_rule (either p q) E n l =
    ap (λ F. get_or F (root (root n p + 1) q + 1) truth) (grow_two E n p q (coded (Or (root n p) (root (root n p + 1) q)) ∷ []))
    ∙ one_row (two E n p q) (coded (Or (root n p) (root (root n p + 1) q))) (either (core p) (core q)) (root (root n p + 1) q + 1) (length_two E n p q l)
    (ap (λ x. either x (get_or (two E n p q) (root (root n p + 1) q) truth)) (first_of E n p q l (last_rule p E n l))
    ∙ ap (either (core p)) (last_rule q (grow E (rows_of n p)) (root n p + 1) (length_part E n p l)))
last_rule (ex p) E n l =
    ap (λ F. get_or F (root n p + 1) truth) (grow_append E (rows_of n p) (coded (Next (root n p)) ∷ []))
    ∙ one_row (grow E (rows_of n p)) (coded (Next (root n p))) (ex (core p)) (root n p + 1) (length_part E n p l) (ap ex (last_rule p E n l))
last_rule (eu p q) E n l =
    ap (λ F. get_or F (root (root n p + 1) q + 1) truth) (grow_two E n p q (coded (Until (root n p) (root (root n p + 1) q)) ∷ []))
    ∙ one_row (two E n p q) (coded (Until (root n p) (root (root n p + 1) q))) (eu (core p) (core q)) (root (root n p + 1) q + 1) (length_two E n p q l)
    (ap (λ x. eu x (get_or (two E n p q) (root (root n p + 1) q) truth)) (first_of E n p q l (last_rule p E n l))
    ∙ ap (eu (core p)) (last_rule q (grow E (rows_of n p)) (root n p + 1) (length_part E n p l)))
last_rule (eg p) E n l =
    ap (λ F. get_or F (root n p + 1) truth) (grow_append E (rows_of n p) (coded (Always (root n p)) ∷ []))
    ∙ one_row (grow E (rows_of n p)) (coded (Always (root n p))) (eg (core p)) (root n p + 1) (length_part E n p l) (ap eg (last_rule p E n l))
last_rule (ef p) E n l =
    let D = E ++ (truth ∷ []) in
    let long : length D ≡ n + 1 = omega (arith, length_push E truth) in
    let low = root_from (n + 1) p in
    ap (λ F. get_or F (root (n + 1) p + 1) truth) (grow_append D (rows_of (n + 1) p) (coded (Until n (root (n + 1) p)) ∷ []))
    ∙ one_row (grow D (rows_of (n + 1) p)) (coded (Until n (root (n + 1) p))) (eu truth (core p)) (root (n + 1) p + 1) (length_part D (n + 1) p long)
    (ap (λ x. eu x (get_or (grow D (rows_of (n + 1) p)) (root (n + 1) p) truth)) (grow_keeps D (rows_of (n + 1) p) n (omega arith) ∙ get_or_push E truth truth n l)
    ∙ ap (eu truth) (last_rule p D (n + 1) long))
last_rule (ax p) E n l =
    let F = grow E (rows_of n p) in
    let len = length_part E n p l in
    ap (λ G. get_or G (root n p + 3) truth) (grow_append E (rows_of n p) (coded (Not (root n p)) ∷ coded (Next (root n p + 1)) ∷ coded (Not (root n p + 2)) ∷ []))
    ∙ three_rows F (root n p) (root n p + 3) (coded (Next (root n p + 1))) (core p) (ex (non (core p))) len refl (last_rule p E n l)
    (ap ex (new F (non (core p) ∷ []) (root n p + 1) 0 (root n p + 1) len (omega arith)))
last_rule (au p q) E n l =
    let low : root n p < root (root n p + 1) q + 1 = omega (arith, root_from (root n p + 1) q) in
    ap (λ F. get_or F (root (root n p + 1) q + 7) truth) (grow_two E n p q (until_rows (root n p) (root (root n p + 1) q) (root (root n p + 1) q + 1)))
    ∙ seven_rows (two E n p q) (root n p) (root (root n p + 1) q) (root (root n p + 1) q + 1) (root (root n p + 1) q + 7) (core p) (core q) (length_two E n p q l)
    (omega arith) low (omega arith) (first_of E n p q l (last_rule p E n l)) (last_rule q (grow E (rows_of n p)) (root n p + 1) (length_part E n p l))
last_rule (ag p) E n l =
    let D = E ++ (truth ∷ []) in
    let long : length D ≡ n + 1 = omega (arith, length_push E truth) in
    let low = root_from (n + 1) p in
    let F = grow D (rows_of (n + 1) p) in
    let len = length_part D (n + 1) p long in
    ap (λ G. get_or G (root (n + 1) p + 3) truth)
    (grow_append D (rows_of (n + 1) p) (coded (Not (root (n + 1) p)) ∷ coded (Until n (root (n + 1) p + 1)) ∷ coded (Not (root (n + 1) p + 2)) ∷ []))
    ∙ three_rows F (root (n + 1) p) (root (n + 1) p + 3) (coded (Until n (root (n + 1) p + 1))) (core p) (eu truth (non (core p))) len refl (last_rule p D (n + 1) long)
    (ap (λ x. eu x (get_or (F ++ (non (core p) ∷ [])) (root (n + 1) p + 1) truth))
    (old F (non (core p) ∷ []) n (omega arith) ∙ grow_keeps D (rows_of (n + 1) p) n (omega arith) ∙ get_or_push E truth truth n l)
    ∙ ap (eu truth) (new F (non (core p) ∷ []) (root (n + 1) p + 1) 0 (root (n + 1) p + 1) len (omega arith)))
last_rule (af p) E n l =
    let F = grow E (rows_of n p) in
    let len = length_part E n p l in
    ap (λ G. get_or G (root n p + 3) truth) (grow_append E (rows_of n p) (coded (Not (root n p)) ∷ coded (Always (root n p + 1)) ∷ coded (Not (root n p + 2)) ∷ []))
    ∙ three_rows F (root n p) (root n p + 3) (coded (Always (root n p + 1))) (core p) (eg (non (core p))) len refl (last_rule p E n l)
    (ap eg (new F (non (core p) ∷ []) (root n p + 1) 0 (root n p + 1) len (omega arith)))

length_before : (rows : List Row) (r : ℕ) → length (rules_before rows r) ≡ r
unfolding rules_before
length_before rows zero = refl
length_before rows (suc r) = omega (arith, length_push (rules_before rows r) (row_rule (rules_before rows r) (get_or rows r no_row)), length_before rows r)

at_before : (rows : List Row) (r : ℕ) → rule_at rows r ≡ get_or (rules_before rows (suc r)) r truth
unfolding rule_at rules_before
at_before rows r = sym (get_or_push (rules_before rows r) (row_rule (rules_before rows r) (get_or rows r no_row)) truth r (length_before rows r))

-- The rule of the last row of a table.
pub table_rule : (f : Rule) → rule_at (rows_of 0 f) (length (rows_of 0 f) - 1) ≡ core f
table_rule f =
    let long : length (rows_of 0 f) ≡ suc (root 0 f) = omega (arith, root_len 0 f) in
    let place : length (rows_of 0 f) - 1 ≡ root 0 f = omega arith in
    ap (rule_at (rows_of 0 f)) place
    ∙ at_before (rows_of 0 f) (root 0 f)
    ∙ ap (λ E. get_or E (root 0 f) truth)
    (before_grown (rows_of 0 f) (suc (root 0 f)) (omega arith) ∙ ap (grow []) (take_all (suc (root 0 f)) (rows_of 0 f) (omega arith)))
    ∙ last_rule f [] 0 refl
