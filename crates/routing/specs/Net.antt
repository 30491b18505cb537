-- Networks: places with marks, bindings that forward under conditions, and the steps that they make.
use Rattle.std.specs.Prelude.{◌≡◌, ℕ, ◌^◌, ◌<◌, Bool, true, List, length, Some}
use Rattle.std.specs.List.{slice_get}

-- A binding as the rules see it: its two ends, and the settings under which it forwards.
pub record Link : Type 0 where
  pub from : ℕ
  pub to : ℕ
  pub forwards : ℕ → Bool

-- What a network means: the number of its conditions, the marks of each place, bit k for mark k, and its bindings in order.
pub record Net : Type 0 where
  pub conditions : ℕ
  pub marks : List ℕ
  pub bindings : List Link

-- Places are numbered from 0.
abbrev pub places : Net → ℕ
places N = length N.marks

-- A setting is a number below this one, bit k for condition k.
abbrev pub settings : Net → ℕ
settings N = 2 ^ N.conditions

-- A position: a place with a setting.
pub record Pos : Type 0 where
  pub place : ℕ
  pub setting : ℕ

-- The position is one of the network.
pub record Within (N : Net) (x : Pos) : Type 0 where
  pub place_in : x.place < places N
  pub setting_in : x.setting < settings N

-- A step leads from x to y: some binding from the place of x to the place of y forwards under the setting of x.
-- The setting of y is any, since every condition may flip during the hop.
pub record Step (N : Net) (x y : Pos) : Type 0 where
  pub number : ℕ
  pub by : Link
  pub listed : slice_get N.bindings number ≡ Some by
  pub leaves : by.from ≡ x.place
  pub enters : by.to ≡ y.place
  pub forwarded : by.forwards x.setting ≡ true
  pub within : Within N y

-- No step leads from x: an order comes to rest there.
abbrev pub Rests : Net → Pos → Type 0
Rests N x = (y : Pos) → ¬ (Step N x y)
