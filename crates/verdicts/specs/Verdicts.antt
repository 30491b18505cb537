-- The verdict at the entries.
use Rattle.std.specs.Prelude.{◌≡◌, ℕ, ◌<◌, true, slice_index}
use Rattle.conditions.specs.Sets.{bit, Picked}
use Rattle.routing.specs.Net.{Pos, Net, Within, places, settings}
use Rattle.verdicts.specs.declared.verdict.Verdict.{Verdict}
use Rattle.verdicts.specs.declared.verdict.Verdict.TheVariants.{Holds, Breaks}

-- A place with mark 0 is an entry: orders come in there.
abbrev pub Entry : Net → ℕ → Type 0
Entry N s = bit (slice_index N.marks s) 0 ≡ true

-- The entry s is the least at which P fails under some setting, and a is picked among those settings.
pub record FirstFailing (N : Net) (P : Pos → Type 0) (s a : ℕ) : Type 0 where
  pub inside : s < places N
  pub entry : Entry N s
  pub earlier : (x : Pos) → Within N x → x.place < s → Entry N x.place → P x
  pub picked : Picked (λ b. (b < settings N) × (¬ (P (record { place = s; setting = b })))) a

-- What a verdict says of P: that it holds at every entry under every setting, or where and under which setting it breaks.
abbrev pub Told : Net → (Pos → Type 0) → Verdict → Type 0
Told N P Holds = (x : Pos) → Within N x → Entry N x.place → P x
Told N P (Breaks s a) = FirstFailing N P s a
