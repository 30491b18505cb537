-- One row, from the positions of its operands.
use Rattle.std.proofs.Common.{◌≡◌, ℕ, ◌^◌, ◌<◌, Bool, true, ◌&&◌, ◌↔◌, List, Decides, sym, ap, ◌∙◌, subst}
use Rattle.std.proofs.lemmas.Bool.Decides.{Decides-at, Decides-like}
use Rattle.routing.specs.Net.{Pos, Net, Within}
use Rattle.rounds.specs.Rounds.{Decided}
use Rattle.tables.specs.declared.row.Operation.{Operation}
use Rattle.judging.specs.Judged.{covers}
use Rattle.judging.specs.Shapes.{Shape, Rounds}

-- A true test in front of another.
pub guard_true : (t b : Bool) → t ≡ true → (t && b) ≡ b
guard_true t b e = ap (λ u. u && b) e

-- The setting of a position, over K conditions.
pub setting_below : (N : Net) (K : ℕ) → N.conditions ≡ K → (x : Pos) → Within N x → x.setting < 2 ^ K
setting_below N K over x w = subst (λ (k : ℕ). x.setting < 2 ^ k) over w.setting_in

-- The operation under the name that an arm gives it.
pub named_shape : (N : Net) (b : Pos → Bool) (P Q : Pos → Type 0) (op o : Operation) → op ≡ o → Decided N b (Shape N o P Q) → Decided N b (Shape N op P Q)
named_shape N b P Q op o e h = subst (λ (v : Operation). Decided N b (Shape N v P Q)) (sym e) h

pub named_rounds : (N : Net) (P Q : Pos → Type 0) (op o : Operation) (r : ℕ) → op ≡ o → Rounds N o P Q r → Rounds N op P Q r
named_rounds N P Q op o r e h = subst (λ (v : Operation). Rounds N v P Q r) (sym e) h

-- A test that stays, of a set that is said in another way.
pub decided_like : (N : Net) (b : Pos → Bool) (P Q : Pos → Type 0) → ((x : Pos) → Within N x → P x ↔ Q x) → Decided N b P → Decided N b Q
decided_like N b P Q same d x w = Decides-like (b x) (same x w).0 (same x w).1 (d x w)
