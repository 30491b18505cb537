-- What a site table means.
use Rattle.std.specs.Prelude.{◌≡◌, ℕ, Bool, List, [], Some, None, Option}
use Rattle.routing.specs.declared.binding.Binding.{Binding}
use Rattle.routing.specs.declared.site.SiteTable.{SiteTable}
use Rattle.routing.specs.declared.refusal.Refusal.{Refusal}
use Rattle.routing.specs.Net.{Net}
use Rattle.routing.specs.Refusals.{opening}
use Rattle.routing.specs.Bindings.{net_of, Fits}
use Rattle.routing.specs.Fitting.{lists_fit}

-- The lent marks and records, in their order.
abbrev pub site_marks : {S : Type 0} → SiteTable S → List ℕ
site_marks t = t.marks.now

abbrev pub site_records : {S : Type 0} → SiteTable S → List (Binding S)
site_records t = t.records.now

-- The network of the lent marks and records.
abbrev pub site_meaning : {S : Type 0} → ℕ → (S → ℕ → Bool) → SiteTable S → Net
site_meaning K holds t = net_of K holds (site_marks t) (site_records t)

-- It keeps to the limits of a network.
pub site_fits : {S : Type 0} (K : ℕ) (holds : S → ℕ → Bool) (t : SiteTable S) → Fits (site_meaning K holds t)
site_fits K holds t = lists_fit K holds (site_marks t) (site_records t) t.few_places t.few_bindings t.ends

-- What opening marks and records comes to: the table of them, or their refusal beside the table with no places.
abbrev pub Opening : {S : Type 0} → List ℕ → List (Binding S) → SiteTable S → Option Refusal → Type 0
Opening marks records t None = (opening marks records ≡ None) × (site_marks t ≡ marks) × (site_records t ≡ records)
Opening marks records t (Some e) = (opening marks records ≡ Some e) × (site_marks t ≡ []) × (site_records t ≡ [])
