-- How a text parts into words.
use Rattle.std.proofs.Common.{◌≡◌, ℕ, zero, suc, ◌+◌, ◌-◌, ◌<◌, ◌≤◌, true, false, ◌&&◌, eqb, ◌⊎◌, List, [], ◌∷◌, ◌++◌, map, length, get_or, take, drop, Result, sym, refl, ap, ◌∙◌, inl, inr, arith, length-drop, get_or-drop, get_or-take}
use Rattle.std.specs.List.{between}
use Rattle.std.proofs.lemmas.List.{drop_more, drop_all, drop-drop, take-append-drop, length-take-le}
use Rattle.std.proofs.lemmas.Bool.{cond-true, cond-false, eq-eqb, ne_eqb, and_from, and_left, and_right, cases_lt}
use Rattle.std.proofs.lemmas.Bool.Decides.{nat_tests}
use Rattle.rule_text.specs.declared.fault.FaultKind.{FaultKind}
use Rattle.rule_text.specs.declared.word.Word.{Word}
use Rattle.rule_text.specs.Descent.{item, item_of, items}
use Rattle.std.specs.Char.{is_ascii_alphanumeric}
use Rattle.rule_text.specs.Words.{tested, word_of}
use Rattle.rule_text.specs.Texts.{placed, begins_run, lengthened, words_from}

pub words_none : (i : ℕ) → words_from i [] ≡ []
unfolding words_from
words_none i = refl

-- A space is passed over.
space_first : (i b : ℕ) (bs : List ℕ) → b ≡ 32 → words_from i (b ∷ bs) ≡ words_from (i + 1) bs
unfolding words_from
space_first i b bs e = cond-true (eqb b 32) _ _ (eq-eqb b 32 e) ∙ ap (λ k. words_from k bs) (omega arith)

pub space_more : (text : List ℕ) (i : ℕ) → i < length text → get_or text i 0 ≡ 32 → words_from i (drop i text) ≡ words_from (i + 1) (drop (i + 1) text)
space_more text i h e = ap (words_from i) (drop_more text i 0 h) ∙ space_first i (get_or text i 0) (drop (i + 1) text) e

-- A byte that is no letter or digit, or has none behind it, is a word.
one_first : (i b : ℕ) (bs : List ℕ) → (b ≡ 32 → ⊥) → (is_ascii_alphanumeric b && begins_run bs) ≡ false → words_from i (b ∷ bs) ≡ placed i (b ∷ []) ∷ words_from (i + 1) bs
unfolding words_from
one_first i b bs n e =
    cond-false (eqb b 32) _ _ (ne_eqb b 32 n) ∙ cond-false (is_ascii_alphanumeric b && begins_run bs) _ _ e
    ∙ ap (λ k. placed i (b ∷ []) ∷ words_from k bs) (omega arith)

-- Any other joins the word behind it.
joins : (i b : ℕ) (bs : List ℕ) → is_ascii_alphanumeric b ≡ true → begins_run bs ≡ true → words_from i (b ∷ bs) ≡ lengthened i b (words_from (i + 1) bs)
unfolding words_from
joins i b bs l e =
    cond-false (eqb b 32) _ _ (grind (arith, nat_tests))
    ∙ cond-true (is_ascii_alphanumeric b && begins_run bs) _ _ (and_from (is_ascii_alphanumeric b) (begins_run bs) l e)
    ∙ ap (λ k. lengthened i b (words_from k bs)) (omega arith)

run_first : (u : List ℕ) (i b : ℕ) (rest : List ℕ) → is_ascii_alphanumeric b ≡ true → ((k : ℕ) → k < length u → is_ascii_alphanumeric (get_or u k 0) ≡ true)
    → begins_run rest ≡ false → words_from i (b ∷ (u ++ rest)) ≡ placed i (b ∷ u) ∷ words_from (i + 1 + length u) rest
run_first [] i b rest l all e =
    one_first i b rest (λ x. grind (arith, nat_tests)) (and_right (is_ascii_alphanumeric b) (begins_run rest) e)
    ∙ ap (λ k. placed i (b ∷ []) ∷ words_from k rest) (omega arith)
run_first (a ∷ u) i b rest l all e =
    joins i b (a ∷ (u ++ rest)) l (all 0 (omega arith))
    ∙ ap (lengthened i b) (run_first u (i + 1) a rest (all 0 (omega arith)) (λ k h. all (suc k) (omega arith)) e)
    ∙ ap (λ k. placed i (b ∷ a ∷ u) ∷ words_from k rest) (omega arith)

begins_at : (text : List ℕ) (j : ℕ) → (j < length text → is_ascii_alphanumeric (get_or text j 0) ≡ false) → begins_run (drop j text) ≡ false
begins_at text j h = go (cases_lt j (length text))
  where
    go : (j < length text) ⊎ (length text ≤ j) → begins_run (drop j text) ≡ false
    go (inl l) = ap begins_run (drop_more text j 0 l) ∙ h l
    go (inr g) = ap begins_run (drop_all j text g)

-- The word at byte i ends at byte j.
pub run_word : (text : List ℕ) (i j : ℕ) → i < j → j ≤ length text → is_ascii_alphanumeric (get_or text i 0) ≡ true
    → ((k : ℕ) → i + 1 + k < j → is_ascii_alphanumeric (get_or text (i + 1 + k) 0) ≡ true)
    → (j < length text → is_ascii_alphanumeric (get_or text j 0) ≡ false)
    → words_from i (drop i text) ≡ placed i (between i j text) ∷ words_from j (drop j text)
run_word text i j l h letter all e =
    let b = get_or text i 0 in
    let n = j - (i + 1) in
    let u = take n (drop (i + 1) text) in
    let split : drop i text ≡ b ∷ (u ++ drop j text) =
    drop_more text i 0 (omega arith)
    ∙ ap (λ s. b ∷ s) (sym (take-append-drop n (drop (i + 1) text)) ∙ ap (λ s. u ++ s) (drop-drop n (i + 1) text ∙ ap (λ k. drop k text) (omega arith))) in
    let long : length u ≡ n = length-take-le n (drop (i + 1) text) (simp length-drop (omega arith)) in
    let count : j - i ≡ suc n = omega arith in
    let part : between i j text ≡ b ∷ u = ap (take (j - i)) (drop_more text i 0 (omega arith)) ∙ ap (λ k. take k (b ∷ drop (i + 1) text)) count in
    let letters : (k : ℕ) → k < length u → is_ascii_alphanumeric (get_or u k 0) ≡ true =
    λ k q. let small : k < n = omega arith in
    ap is_ascii_alphanumeric (get_or-take n (drop (i + 1) text) k 0 small ∙ get_or-drop (i + 1) text k 0) ∙ all k (omega arith) in
    ap (words_from i) split
    ∙ run_first u i b (drop j text) letter letters (begins_at text j e)
    ∙ ap (λ s. placed i s ∷ words_from (i + 1 + length u) (drop j text)) (sym part)
    ∙ ap (λ k. placed i (between i j text) ∷ words_from k (drop j text)) (omega arith)

-- A byte that is no letter or digit is a word.
pub sign_word : (text : List ℕ) (i : ℕ) → i < length text → (get_or text i 0 ≡ 32 → ⊥) → is_ascii_alphanumeric (get_or text i 0) ≡ false
    → words_from i (drop i text) ≡ placed i (between i (i + 1) text) ∷ words_from (i + 1) (drop (i + 1) text)
sign_word text i l n e =
    let count : i + 1 - i ≡ 1 = omega arith in
    let part : between i (i + 1) text ≡ get_or text i 0 ∷ [] =
    ap (take (i + 1 - i)) (drop_more text i 0 l) ∙ ap (λ k. take k (get_or text i 0 ∷ drop (i + 1) text)) count in
    ap (words_from i) (drop_more text i 0 l)
    ∙ one_first i (get_or text i 0) (drop (i + 1) text) n (and_left (is_ascii_alphanumeric (get_or text i 0)) (begins_run (drop (i + 1) text)) e)
    ∙ ap (λ s. placed i s ∷ words_from (i + 1) (drop (i + 1) text)) (sym part)

-- The items left where the text ends.
pub items_end : (K : ℕ) (text : List ℕ) (i j : ℕ) → words_from i (drop i text) ≡ words_from j (drop j text) → j ≡ length text → [] ≡ items K text i
items_end K text i j e h = sym (ap (map (item K)) (e ∙ ap (words_from j) (drop_all j text (omega arith)) ∙ words_none j))

-- The items left at a word.
pub items_word : (K : ℕ) (text : List ℕ) (i j k : ℕ) (r : Result Word FaultKind)
    → words_from i (drop i text) ≡ words_from j (drop j text)
    → words_from j (drop j text) ≡ placed j (between j k text) ∷ words_from k (drop k text)
    → r ≡ tested K (word_of (between j k text))
    → items K text i ≡ item_of j r ∷ items K text k
items_word K text i j k r e f g = ap (map (item K)) (e ∙ f) ∙ ap (λ t. item_of j t ∷ items K text k) (sym g)

-- Spaces are passed over.
pub spaces_more : (text : List ℕ) (i j n : ℕ) → i + n ≡ j → j ≤ length text → ((k : ℕ) → i + k < j → get_or text (i + k) 0 ≡ 32)
    → words_from i (drop i text) ≡ words_from j (drop j text)
spaces_more text i j zero e h s = let same : i ≡ j = omega arith in ap (λ k. words_from k (drop k text)) same
spaces_more text i j (suc n) e h s =
    space_more text i (omega arith) (ap (λ k. get_or text k 0) (omega arith) ∙ s 0 (omega arith))
    ∙ spaces_more text (i + 1) j n (omega arith) h (λ k l. ap (λ m. get_or text m 0) (omega arith) ∙ s (k + 1) (omega arith))
