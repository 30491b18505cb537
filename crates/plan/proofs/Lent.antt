-- Lent texts, as a loop reads them.
use Rattle.std.proofs.Common.{◌≡◌, ℕ, ◌+◌, ◌<◌, ◌≤◌, List, [], ◌∷◌, length, get_or, take, drop, Some, Ok, sym, ap, ◌∙◌, subst, arith, Bor}
use Rattle.std.specs.List.{slice_get}
use Rattle.std.proofs.lemmas.List.{get_or-map, length-map, drop_more, length-append}
use Rattle.std.proofs.lemmas.Option.{slice_get-get_or}
use Rattle.routing.specs.Rules.{Rule}
use Rattle.rule_text.specs.Reading.{Reading, read}
use Rattle.plan.specs.Put.{Put}
use Rattle.plan.specs.Format.{flat, text_bytes}
use Rattle.plan.specs.Reading.{Each, IsRuleText}
use Rattle.plan.specs.Writing.{lent}
use Rattle.plan.proofs.Elements.{each_more, each_all}
use Rattle.plan.proofs.Flat.{flat_more}
use Rattle.plan.proofs.Writes.{put_same, put_more, room_next, length_text}

-- A rule's text has at most 200 bytes.
pub rule_short : (t : List ℕ) (f : Rule) → Reading 6 t (Ok f) → length t ≤ 200
rule_short t f (read text r short taking) = short

module _ (texts : List (Bor (List ℕ))) where
  pub lent_length : length (lent texts) ≡ length texts
  lent_length = length-map texts (λ t. t.now)

  pub lent_in : (i : ℕ) → i < length texts → i < length (lent texts)
  lent_in i in_List = omega (arith, lent_length)

  pub lent_past : (i : ℕ) → length texts ≤ i → length (lent texts) ≤ i
  lent_past i past = omega (arith, lent_length)

  -- The text at i is the one that is lent there.
  pub lent_at : (i : ℕ) (d : Bor (List ℕ)) → i < length texts → get_or (lent texts) i [] ≡ (get_or texts i d).now
  lent_at i d in_List = get_or-map (λ t. t.now) texts i d [] in_List

  pub lent_nth : (i : ℕ) (d : Bor (List ℕ)) → i < length texts → slice_get (lent texts) i ≡ Some (get_or texts i d).now
  lent_nth i d in_List = slice_get-get_or (lent texts) i [] (lent_in i in_List) ∙ ap Some (lent_at i d in_List)

  pub drop_lent : (i : ℕ) (d : Bor (List ℕ)) → i < length texts → drop i (lent texts) ≡ (get_or texts i d).now ∷ drop (i + 1) (lent texts)
  drop_lent i d in_List =
      drop_more (lent texts) i [] (lent_in i in_List) ∙ ap (λ (t : List ℕ). t ∷ drop (i + 1) (lent texts)) (lent_at i d in_List)

  -- The bytes of one text more.
  pub length_lent_more : (i : ℕ) (d : Bor (List ℕ)) → i < length texts
      → length (flat text_bytes (take (i + 1) (lent texts))) ≡ length (flat text_bytes (take i (lent texts))) + (2 + length (get_or texts i d).now)
  length_lent_more i d in_List =
      ap length (flat_more text_bytes (lent texts) i [] (lent_in i in_List))
      ∙ (length-append (flat text_bytes (take i (lent texts))) (text_bytes (get_or (lent texts) i []))
      ∙ ap (λ (n : ℕ). length (flat text_bytes (take i (lent texts))) + n)
      (length_text (get_or (lent texts) i []) ∙ ap (λ (t : List ℕ). 2 + length t) (lent_at i d in_List)))

  -- What holds of each: one text more, and all of them.
  pub each_lent_more : (P : List ℕ → Type 0) (i : ℕ) (d : Bor (List ℕ)) → i < length texts → Each P (take i (lent texts)) → P (get_or texts i d).now
      → Each P (take (i + 1) (lent texts))
  each_lent_more P i d in_List before here = each_more P (lent texts) i [] (lent_in i in_List) before (subst P (sym (lent_at i d in_List)) here)

  pub each_lent_all : (P : List ℕ → Type 0) (i : ℕ) → length texts ≤ i → Each P (take i (lent texts)) → Each P (lent texts)
  each_lent_all P i past all = each_all P (lent texts) i (lent_past i past) all

  -- Writing: the room for one text more, and the text.
  pub room_lent : (i : ℕ) (d : Bor (List ℕ)) {a b : List ℕ} {at next room : ℕ} → i < length texts
      → Put a at (flat text_bytes (take i (lent texts))) b next → at + length (flat text_bytes (lent texts)) ≤ room
      → next + length (text_bytes (get_or texts i d).now) ≤ room
  room_lent i d {a} {b} {at} {next} {room} in_List put all =
      subst (λ (t : List ℕ). next + length (text_bytes t) ≤ room) (lent_at i d in_List)
      (room_next text_bytes (lent texts) i [] (lent_in i in_List) put all)

  pub put_lent : (i : ℕ) (d : Bor (List ℕ)) {a b c : List ℕ} {at next behind : ℕ} → i < length texts
      → Put a at (flat text_bytes (take i (lent texts))) b next → Put b next (text_bytes (get_or texts i d).now) c behind
      → Put a at (flat text_bytes (take (i + 1) (lent texts))) c behind
  put_lent i d in_List before here =
      put_more text_bytes (lent texts) i [] (lent_in i in_List) before (put_same (ap text_bytes (sym (lent_at i d in_List))) here)

  -- A rule's text among them has at most 200 bytes.
  pub short_lent : (i : ℕ) (d : Bor (List ℕ)) → i < length texts → Each IsRuleText (lent texts) → length (get_or texts i d).now ≤ 200
  short_lent i d in_List rules = let rule = rules i (get_or texts i d).now (lent_nth i d in_List) in rule_short (get_or texts i d).now rule.0 rule.1
