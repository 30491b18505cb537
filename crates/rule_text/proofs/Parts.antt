-- What choice, both and one do, put together from their steps.
use Rattle.std.proofs.Common.{◌≡◌, ℕ, ◌+◌, ◌-◌, ◌<◌, ◌≤◌, List, [], ◌∷◌, length, Some, None, Ok, Err, Option, Result, sym, refl, ap, ◌∙◌, arith}
use Rattle.std.specs.Result.{IsErrAnd}
use Rattle.routing.specs.Rules.{Rule, truth, mark, condition, both}
use Rattle.tables.specs.declared.row.Operation.{Operation}
use Rattle.tables.specs.declared.row.Operation.TheVariants.{Yes as YesRow, Mark as MarkRow, Condition as ConditionRow, And as AndRow, Or as OrRow}
use Rattle.tables.specs.Tables.{coded}
use Rattle.rule_text.specs.declared.fault.Fault.{Fault}
use Rattle.rule_text.specs.declared.parse.Parser.{Parser}
use Rattle.rule_text.specs.declared.reader.Reader.{Reader}
use Rattle.rule_text.specs.declared.word.Start.{Start}
use Rattle.rule_text.specs.declared.word.Start.TheVariants.{Atom}
use Rattle.rule_text.specs.declared.word.Word.{Word}
use Rattle.rule_text.specs.declared.table.Table.{Table}
use Rattle.rule_text.specs.declared.word.Prefix.{Prefix}
use Rattle.rule_text.specs.declared.word.Quantifier.{Quantifier}
use Rattle.rule_text.specs.declared.word.Word.TheVariants.{Yes, Mark, Condition, Before, Routes, Until, And, Or, Open, Close, OpenSquare, CloseSquare}
use Rattle.rule_text.specs.Grammar.{prefix_rule, until_rule}
use Rattle.rule_text.specs.Descent.{unread, end_of, Onward, Stepped, Fails, Took, Missed, Enters, Around, inside, bracket, until_first, until_second, State, before_part, before_square, behind_part, part_done, or_with, next_state, depth, outcome, Added, OneRead, BothRead, ChoiceRead, OneFails, BothFails, ChoiceFails, Joining, Choosing, LastIs, push_row, rows_kept}
use Rattle.rule_text.proofs.Emitted.{added_yes, added_mark, added_condition, added_and, added_or}
use Rattle.rule_text.proofs.Steps.{Begins, yes, of_mark, of_condition, begun_level, begun_leads, parser, ahead_of, leads_bad, ends_same, entered, entered_not, left_with, only_closer, only_square, passed, passed_not}

-- A word alone.
pub one_word : (n : ℕ) (a b : Reader) (t u : Option Table) (r : ℕ) (w : Word) (f : Rule) → a.word ≡ Some w → (0 < n) × Stepped a b → Added t u f r
    → ((xs : List Prefix) (o l : Option Rule) (K : Around) → next_state (before_part xs o l K) w ≡ Some (part_done xs o l K f))
    → OneRead n (parser a t) (parser b u) (Ok r)
one_word n a b t u r w f e st ad m =
    (f, ad, ahead_of a b w e st.1, λ xs o l K d. entered (end_of a) a b w n xs o l K (part_done xs o l K f) e st d (m xs o l K))

-- A word that is a part of its own, with its row.
pub one_atom : (n : ℕ) (a b : Reader) (t u : Option Table) (r : ℕ) (w : Word) (operation : Operation) → Begins w (Atom operation) → a.word ≡ Some w
    → (0 < n) × Stepped a b → rows_kept u ≡ push_row (rows_kept t) (coded operation) → LastIs (rows_kept u) r → OneRead n (parser a t) (parser b u) (Ok r)
one_atom n a b t u r _ _ yes e st rows last =
    one_word n a b t u r Yes truth e st (added_yes t u r rows last) (λ xs o l K. refl)
one_atom n a b t u r _ _ (of_mark k) e st rows last =
    one_word n a b t u r (Mark k) (mark k) e st (added_mark t u k r rows last) (λ xs o l K. refl)
one_atom n a b t u r _ _ (of_condition k) e st rows last =
    one_word n a b t u r (Condition k) (condition k) e st (added_condition t u k r rows last) (λ xs o l K. refl)

-- A part whose first word cannot be entered, at the exit of the `?`.
pub one_not_entered : (n : ℕ) (a d : Reader) (t : Option Table) (w : Word) (s : Start) (r : Result ℕ Fault) (f : Fault) → IsErrAnd r (λ y. y ≡ f)
    → Begins w s → a.word ≡ Some w → Enters n a d (Err f) → OneRead n (parser a t) (parser d t) r
one_not_entered n a d t w s r f left b e en = left_with (OneRead n (parser a t) (parser d t)) r f left fails
  where
    fails : OneFails n a f
    fails xs o l K q = let to = begun_leads w s xs o l K b in entered_not (end_of a) a d w n xs o l K to.0 f e (begun_level w s b) en q to.1

-- A prefix and its part.
pub one_prefix : (x : Prefix) (n : ℕ) (a a₁ b : Reader) (t t₁ u₁ u : Option Table) (part r : ℕ) → a.word ≡ Some (Before x) → Enters n a a₁ (Ok tt) → Onward a a₁
    → OneRead (n - 1) (parser a₁ t₁) (parser b u₁) (Ok part) → ((p : Rule) → Added t₁ u₁ p part → Added t u (prefix_rule x p) r)
    → OneRead n (parser a t) (parser b u) (Ok r)
one_prefix x n a a₁ b t t₁ u₁ u part r e en on (p, ad, lt, reads) made = (
  prefix_rule x p,
  made p ad,
  omega (arith, ahead_of a a₁ (Before x) e en.1),
  λ xs o l K d.
      entered (end_of a) a a₁ (Before x) n xs o l K (before_part (x ∷ xs) o l K) e en d refl
      ∙ ap (λ i. outcome i (unread a₁) (before_part (x ∷ xs) o l K)) (sym (ends_same a a₁ on))
      ∙ reads (x ∷ xs) o l K (omega (arith, en.0))
      ∙ ap (λ i. outcome i (unread b) (part_done (x ∷ xs) o l K p)) (ends_same a a₁ on),
)

pub one_prefix_not : (x : Prefix) (n : ℕ) (a a₁ : Reader) (f : Fault) → a.word ≡ Some (Before x) → Enters n a a₁ (Ok tt) → Onward a a₁
    → OneFails (n - 1) a₁ f → OneFails n a f
one_prefix_not x n a a₁ f e en on reads xs o l K d =
    entered (end_of a) a a₁ (Before x) n xs o l K (before_part (x ∷ xs) o l K) e en d refl
    ∙ ap (λ i. outcome i (unread a₁) (before_part (x ∷ xs) o l K)) (sym (ends_same a a₁ on))
    ∙ reads (x ∷ xs) o l K (omega (arith, en.0))

-- Into a bracket.
module _ (n : ℕ) (a a₁ : Reader) (e : a.word ≡ Some Open) (en : Enters n a a₁ (Ok tt)) (on : Onward a a₁) where
  into_bracket : (xs : List Prefix) (o l : Option Rule) (K : Around) → length xs + depth K + n ≡ 32
      → outcome (end_of a) (unread a) (before_part xs o l K) ≡ outcome (end_of a₁) (unread a₁) (before_part [] None None (inside bracket xs o l K))
  into_bracket xs o l K d =
      entered (end_of a) a a₁ Open n xs o l K (before_part [] None None (inside bracket xs o l K)) e en d refl
      ∙ ap (λ i. outcome i (unread a₁) (before_part [] None None (inside bracket xs o l K))) (sym (ends_same a a₁ on))

  pub one_bracket_not : (f : Fault) → ChoiceFails (n - 1) a₁ f → OneFails n a f
  one_bracket_not f reads xs o l K q = into_bracket xs o l K q ∙ reads (inside bracket xs o l K) (omega (arith, en.0))

  pub one_bracket : (b d : Reader) (t u : Option Table) (r : ℕ) → ChoiceRead (n - 1) (parser a₁ t) (parser b u) (Ok r) → Onward a₁ b → Took Close b d → OneRead n (parser a t) (parser d u) (Ok r)
  one_bracket b d t u r (p, f, ad, lt, no_and, no_or, reads) on₁ tk = (
    or_with p f,
    ad,
    omega (arith, ahead_of a a₁ Open e en.1, ahead_of b d Close tk.was tk.step),
    λ xs o l K q.
        into_bracket xs o l K q ∙ reads (inside bracket xs o l K) (omega (arith, en.0))
        ∙ passed (end_of a₁) b d Close (behind_part p f (inside bracket xs o l K)) (part_done xs o l K (or_with p f)) refl tk refl
        ∙ ap (λ i. outcome i (unread d) (part_done xs o l K (or_with p f))) (ends_same a a₁ on),
  )

  pub one_bracket_open : (b : Reader) (t u : Option Table) (r : ℕ) (g : Fault) → ChoiceRead (n - 1) (parser a₁ t) (parser b u) (Ok r) → Onward a₁ b → Missed Close b g
      → OneFails n a g
  one_bracket_open b t u r g (p, f, ad, lt, no_and, no_or, reads) on₁ ms xs o l K q =
      into_bracket xs o l K q ∙ reads (inside bracket xs o l K) (omega (arith, en.0))
      ∙ ap (λ i. outcome i (unread b) (behind_part p f (inside bracket xs o l K))) (sym (ends_same a₁ b on₁))
      ∙ passed_not b Close (behind_part p f (inside bracket xs o l K)) (part_done xs o l K (or_with p f)) g refl ms refl refl
      (λ v h ne. only_closer f p (inside bracket xs o l K) v (λ x. no_and (h ∙ ap Some x)) (λ x. no_or (h ∙ ap Some x)) (λ e. ne cc))

-- Into an until.
module _ (k : Quantifier) (n : ℕ) (a a₁ : Reader) (e : a.word ≡ Some (Routes k)) (en : Enters n a a₁ (Ok tt)) (on : Onward a a₁) where
  to_square : (xs : List Prefix) (o l : Option Rule) (K : Around) → length xs + depth K + n ≡ 32
      → outcome (end_of a) (unread a) (before_part xs o l K) ≡ outcome (end_of a₁) (unread a₁) (before_square k xs o l K)
  to_square xs o l K d =
      entered (end_of a) a a₁ (Routes k) n xs o l K (before_square k xs o l K) e en d refl
      ∙ ap (λ i. outcome i (unread a₁) (before_square k xs o l K)) (sym (ends_same a a₁ on))

  pub one_until_square : (g : Fault) → Missed OpenSquare a₁ g → OneFails n a g
  one_until_square g ms xs o l K q =
      to_square xs o l K q
      ∙ passed_not a₁ OpenSquare (before_square k xs o l K) (before_part [] None None (inside (until_first k) xs o l K)) g refl ms refl refl
      (λ v h ne. only_square k xs o l K v ne)

  module _ (a₂ : Reader) (sq : Took OpenSquare a₁ a₂) (on₁ : Onward a₁ a₂) where
    to_first : (xs : List Prefix) (o l : Option Rule) (K : Around) → length xs + depth K + n ≡ 32
        → outcome (end_of a) (unread a) (before_part xs o l K) ≡ outcome (end_of a₂) (unread a₂) (before_part [] None None (inside (until_first k) xs o l K))
    to_first xs o l K d =
        to_square xs o l K d
        ∙ passed (end_of a₁) a₁ a₂ OpenSquare (before_square k xs o l K) (before_part [] None None (inside (until_first k) xs o l K)) refl sq refl
        ∙ ap (λ i. outcome i (unread a₂) (before_part [] None None (inside (until_first k) xs o l K))) (sym (ends_same a₁ a₂ on₁))

    pub one_until_first_not : (g : Fault) → ChoiceFails (n - 1) a₂ g → OneFails n a g
    one_until_first_not g reads xs o l K q = to_first xs o l K q ∙ reads (inside (until_first k) xs o l K) (omega (arith, en.0))

    module _ (b : Reader) (t u : Option Table) (r : ℕ) (first : ChoiceRead (n - 1) (parser a₂ t) (parser b u) (Ok r)) (on₂ : Onward a₂ b) where
      to_until : (xs : List Prefix) (o l : Option Rule) (K : Around) → length xs + depth K + n ≡ 32
          → outcome (end_of a) (unread a) (before_part xs o l K) ≡ outcome (end_of b) (unread b) (behind_part first.0 first.1 (inside (until_first k) xs o l K))
      to_until xs o l K d =
          to_first xs o l K d ∙ first.6 (inside (until_first k) xs o l K) (omega (arith, en.0))
          ∙ ap (λ i. outcome i (unread b) (behind_part first.0 first.1 (inside (until_first k) xs o l K))) (sym (ends_same a₂ b on₂))

      pub one_until_missing : (g : Fault) → Missed Until b g → OneFails n a g
      one_until_missing g ms xs o l K q =
          to_until xs o l K q
          ∙ passed_not b Until (behind_part first.0 first.1 (inside (until_first k) xs o l K))
          (before_part [] None None (inside (until_second k (or_with first.0 first.1)) xs o l K)) g refl ms refl refl
          (λ v h ne. only_closer first.1 first.0 (inside (until_first k) xs o l K) v (λ x. first.4 (h ∙ ap Some x)) (λ x. first.5 (h ∙ ap Some x)) (λ e. ne cc))

      module _ (b₁ : Reader) (un : Took Until b b₁) (on₃ : Onward b b₁) where
        to_second : (xs : List Prefix) (o l : Option Rule) (K : Around) → length xs + depth K + n ≡ 32
            → outcome (end_of a) (unread a) (before_part xs o l K)
            ≡ outcome (end_of b₁) (unread b₁) (before_part [] None None (inside (until_second k (or_with first.0 first.1)) xs o l K))
        to_second xs o l K d =
            to_until xs o l K d
            ∙ passed (end_of b) b b₁ Until (behind_part first.0 first.1 (inside (until_first k) xs o l K))
            (before_part [] None None (inside (until_second k (or_with first.0 first.1)) xs o l K)) refl un refl
            ∙ ap (λ i. outcome i (unread b₁) (before_part [] None None (inside (until_second k (or_with first.0 first.1)) xs o l K))) (sym (ends_same b b₁ on₃))

        pub one_until_second_not : (g : Fault) → ChoiceFails (n - 1) b₁ g → OneFails n a g
        one_until_second_not g reads xs o l K q =
            to_second xs o l K q ∙ reads (inside (until_second k (or_with first.0 first.1)) xs o l K) (omega (arith, en.0))

        module _ (c : Reader) (v : Option Table) (s : ℕ) (second : ChoiceRead (n - 1) (parser b₁ u) (parser c v) (Ok s)) (on₄ : Onward b₁ c) where
          to_close : (xs : List Prefix) (o l : Option Rule) (K : Around) → length xs + depth K + n ≡ 32
              → outcome (end_of a) (unread a) (before_part xs o l K)
              ≡ outcome (end_of c) (unread c) (behind_part second.0 second.1 (inside (until_second k (or_with first.0 first.1)) xs o l K))
          to_close xs o l K d =
              to_second xs o l K d ∙ second.6 (inside (until_second k (or_with first.0 first.1)) xs o l K) (omega (arith, en.0))
              ∙ ap (λ i. outcome i (unread c) (behind_part second.0 second.1 (inside (until_second k (or_with first.0 first.1)) xs o l K)))
              (sym (ends_same b₁ c on₄))

          pub one_until_open : (g : Fault) → Missed CloseSquare c g → OneFails n a g
          one_until_open g ms xs o l K q =
              to_close xs o l K q
              ∙ passed_not c CloseSquare (behind_part second.0 second.1 (inside (until_second k (or_with first.0 first.1)) xs o l K))
              (part_done xs o l K (until_rule k (or_with first.0 first.1) (or_with second.0 second.1))) g refl ms refl refl
              (λ v h ne. only_closer second.1 second.0 (inside (until_second k (or_with first.0 first.1)) xs o l K) v
              (λ x. second.4 (h ∙ ap Some x)) (λ x. second.5 (h ∙ ap Some x)) (λ e. ne cc))

          pub one_until : (d : Reader) (w : Option Table) (m : ℕ) → Took CloseSquare c d
              → Added t w (until_rule k (or_with first.0 first.1) (or_with second.0 second.1)) m
              → OneRead n (parser a t) (parser d w) (Ok m)
          one_until d w m tk ad = (
            until_rule k (or_with first.0 first.1) (or_with second.0 second.1),
            ad,
            omega (
              arith,
              ahead_of a a₁ (Routes k) e en.1,
              ahead_of a₁ a₂ OpenSquare sq.was sq.step,
              first.3,
              ahead_of b b₁ Until un.was un.step,
              second.3,
              ahead_of c d CloseSquare tk.was tk.step,
            ),
            λ xs o l K q.
                to_close xs o l K q
                ∙ passed (end_of c) c d CloseSquare (behind_part second.0 second.1 (inside (until_second k (or_with first.0 first.1)) xs o l K))
                (part_done xs o l K (until_rule k (or_with first.0 first.1) (or_with second.0 second.1))) refl tk refl
                ∙ ap (λ i. outcome i (unread d) (part_done xs o l K (until_rule k (or_with first.0 first.1) (or_with second.0 second.1))))
                (ends_same b₁ c on₄ ∙ ends_same b b₁ on₃ ∙ ends_same a₂ b on₂ ∙ ends_same a₁ a₂ on₁ ∙ ends_same a a₁ on),
          )

-- One more part behind `&`.
pub joining_more : (n : ℕ) (a b d : Parser) (b₁ : Reader) (u : Option Table) (v r right s : ℕ) → Joining n a b v r → Onward a.reader b.reader
    → b.reader.word ≡ Some And → Stepped b.reader b₁ → Onward b.reader b₁ → OneRead n (parser b₁ b.table) d (Ok right)
    → rows_kept u ≡ push_row (rows_kept d.table) (coded (AndRow r right)) → LastIs (rows_kept u) s → Joining n a (parser d.reader u) v s
joining_more n a b d b₁ u v r right s so on e st on₁ (g, ag, lt, reads) rows last t₀ f₀ ad₀ =
    let sofar = so t₀ f₀ ad₀ in
    let f = sofar.0 in
    let ends = ends_same b.reader b₁ on₁ ∙ ends_same a.reader b.reader on in (
      both f g,
      added_and t₀ b.table d.table u f g r right s sofar.1 ag rows last,
      λ o K m.
          sofar.2 o K m
          ∙ passed (end_of a.reader) b.reader b₁ And (behind_part o f K) (before_part [] o (Some f) K) refl (record { was = e; step = st }) refl
          ∙ ap (λ i. outcome i (unread b₁) (before_part [] o (Some f) K)) (sym ends)
          ∙ reads [] o (Some f) K (omega (arith, m))
          ∙ ap (λ i. outcome i (unread d.reader) (behind_part o (both f g) K)) ends,
    )

-- The first part of `both`, and what its loop came to.
module _ (n : ℕ) (a a₀ b : Parser) (v r : ℕ) (first : OneRead n a a₀ (Ok v)) (on : Onward a.reader a₀.reader) (so : Joining n a₀ b v r) where
  both_read : (o : Option Rule) (K : Around) → depth K + n ≡ 32
      → outcome (end_of a.reader) (unread a.reader) (before_part [] o None K) ≡ outcome (end_of a.reader) (unread b.reader) (behind_part o (so a.table first.0 first.1).0 K)
  both_read o K d =
      first.3 [] o None K (omega (arith, d))
      ∙ ap (λ i. outcome i (unread a₀.reader) (behind_part o first.0 K)) (sym (ends_same a.reader a₀.reader on))
      ∙ (so a.table first.0 first.1).2 o K d
      ∙ ap (λ i. outcome i (unread b.reader) (behind_part o (so a.table first.0 first.1).0 K)) (ends_same a.reader a₀.reader on)

  pub both_next_bad : (e : Fault) → b.reader.word ≡ Some And → Fails b.reader e → BothFails n a.reader e
  both_next_bad e w bad_next o K q =
      both_read o K q
      ∙ leads_bad (end_of a.reader) b.reader And (behind_part o (so a.table first.0 first.1).0 K) (before_part [] o (Some (so a.table first.0 first.1).0) K) e w refl refl bad_next

  pub both_part_bad : (b₁ : Reader) (e : Fault) → b.reader.word ≡ Some And → Stepped b.reader b₁ → Onward a.reader b₁ → OneFails n b₁ e → BothFails n a.reader e
  both_part_bad b₁ e w st on₁ part o K q =
      both_read o K q
      ∙ passed (end_of a.reader) b.reader b₁ And (behind_part o (so a.table first.0 first.1).0 K) (before_part [] o (Some (so a.table first.0 first.1).0) K) refl (record { was = w; step = st }) refl
      ∙ ap (λ i. outcome i (unread b₁) (before_part [] o (Some (so a.table first.0 first.1).0) K)) (sym (ends_same a.reader b₁ on₁))
      ∙ part [] o (Some (so a.table first.0 first.1).0) K (omega (arith, q))

-- One more operand behind `|`.
pub choosing_more : (n : ℕ) (a b d : Parser) (b₁ : Reader) (u : Option Table) (v r right s : ℕ) → Choosing n a b v r → Onward a.reader b.reader
    → b.reader.word ≡ Some Or → Stepped b.reader b₁ → Onward b.reader b₁ → BothRead n (parser b₁ b.table) d (Ok right)
    → rows_kept u ≡ push_row (rows_kept d.table) (coded (OrRow r right)) → LastIs (rows_kept u) s → Choosing n a (parser d.reader u) v s
choosing_more n a b d b₁ u v r right s so on e st on₁ (g, ag, lt, no_and, reads) rows last t₀ o₀ f₀ ad₀ =
    let sofar = so t₀ o₀ f₀ ad₀ in
    let p = or_with sofar.0 sofar.1 in
    let ends = ends_same b.reader b₁ on₁ ∙ ends_same a.reader b.reader on in (
      Some p,
      g,
      added_or t₀ b.table d.table u p g r right s sofar.2 ag rows last,
      λ K m.
          sofar.3 K m
          ∙ passed (end_of a.reader) b.reader b₁ Or (behind_part sofar.0 sofar.1 K) (before_part [] (Some p) None K) refl (record { was = e; step = st }) refl
          ∙ ap (λ i. outcome i (unread b₁) (before_part [] (Some p) None K)) (sym ends)
          ∙ reads (Some p) K m
          ∙ ap (λ i. outcome i (unread d.reader) (behind_part (Some p) g K)) ends,
    )

module _ (n : ℕ) (a a₀ b : Parser) (v r : ℕ) (first : BothRead n a a₀ (Ok v)) (on : Onward a.reader a₀.reader) (so : Choosing n a₀ b v r) where
  choice_read : (K : Around) → depth K + n ≡ 32
      → outcome (end_of a.reader) (unread a.reader) (before_part [] None None K)
      ≡ outcome (end_of a.reader) (unread b.reader) (behind_part (so a.table None first.0 first.1).0 (so a.table None first.0 first.1).1 K)
  choice_read K d =
      first.4 None K d
      ∙ ap (λ i. outcome i (unread a₀.reader) (behind_part None first.0 K)) (sym (ends_same a.reader a₀.reader on))
      ∙ (so a.table None first.0 first.1).3 K d
      ∙ ap (λ i. outcome i (unread b.reader) (behind_part (so a.table None first.0 first.1).0 (so a.table None first.0 first.1).1 K)) (ends_same a.reader a₀.reader on)

  pub choice_done : a₀.reader.start ≤ b.reader.start → (b.reader.word ≡ Some And → ⊥) → (b.reader.word ≡ Some Or → ⊥) → ChoiceRead n a b (Ok r)
  choice_done le no_and no_or =
      ((so a.table None first.0 first.1).0, (so a.table None first.0 first.1).1, (so a.table None first.0 first.1).2, omega (arith, first.2), no_and, no_or, choice_read)

  pub choice_next_bad : (e : Fault) → b.reader.word ≡ Some Or → Fails b.reader e → ChoiceFails n a.reader e
  choice_next_bad e w bad_next K q =
      choice_read K q
      ∙ leads_bad (end_of a.reader) b.reader Or (behind_part (so a.table None first.0 first.1).0 (so a.table None first.0 first.1).1 K)
      (before_part [] (Some (or_with (so a.table None first.0 first.1).0 (so a.table None first.0 first.1).1)) None K) e w refl refl bad_next

  pub choice_part_bad : (b₁ : Reader) (e : Fault) → b.reader.word ≡ Some Or → Stepped b.reader b₁ → Onward a.reader b₁ → BothFails n b₁ e → ChoiceFails n a.reader e
  choice_part_bad b₁ e w st on₁ part K q =
      let p = or_with (so a.table None first.0 first.1).0 (so a.table None first.0 first.1).1 in
      choice_read K q
      ∙ passed (end_of a.reader) b.reader b₁ Or (behind_part (so a.table None first.0 first.1).0 (so a.table None first.0 first.1).1 K) (before_part [] (Some p) None K) refl
      (record { was = w; step = st }) refl
      ∙ ap (λ i. outcome i (unread b₁) (before_part [] (Some p) None K)) (sym (ends_same a.reader b₁ on₁))
      ∙ part (Some p) K q
