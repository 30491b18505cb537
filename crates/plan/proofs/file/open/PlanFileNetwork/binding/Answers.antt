use Rattle.std.proofs.Common.{◌≡◌, ℕ, ◌+◌, List, Some, sym, ap, ◌∙◌, arith}
use Rattle.std.specs.List.{slice_get}
use Rattle.conditions.specs.WordSets.{word_holds}
use Rattle.routing.specs.Fitting.{length_links, link_inside, nth_link}
use Rattle.plan.specs.Contents.{binding_at, binding_byte, binding_count, listed, place_count, mark_at}
use Rattle.plan.specs.Numbers.{field}
use Rattle.plan.specs.Fitting.{length_listed}
use Rattle.plan.proofs.Listed.{nth_listed}
use Rattle.plan.proofs.file.open.PlanFileNetwork.binding.Goals as goal

pub returns-then-number-file : goal.returns-then-number-file
returns-then-number-file c =
    let file = c.args.self.now.file.counted.bytes.now in
    let are = c.args.self.now.file.counted.bindings_are in
    let links = length_links word_holds (listed (binding_count file) (binding_at file)) in
    let len = length_listed (binding_count file) (binding_at file) in
    record { value = omega arith; ends = tt }

-- The binding that the fields hold, as it was read.
bound : (file : List ℕ) (i from to set : ℕ) (byte : ℕ) → byte ≡ binding_byte file i
    → from ≡ field 2 byte file → to ≡ field 2 (byte + 2) file → set ≡ field 8 (byte + 4) file
    → binding_at file i ≡ record { from = from; to = to; set = record { 0 = set } }
bound file i from to set byte at is_from is_to is_set =
    let a : field 2 (binding_byte file i) file ≡ from = sym (is_from ∙ ap (λ (b : ℕ). field 2 b file) at) in
    let b : field 2 (binding_byte file i + 2) file ≡ to = sym (is_to ∙ ap (λ (n : ℕ). field 2 (n + 2) file) at) in
    let d : field 8 (binding_byte file i + 4) file ≡ set = sym (is_set ∙ ap (λ (n : ℕ). field 8 (n + 4) file) at) in
    cc

pub returns : goal.returns
returns c =
    let file = c.args.self.now.file.counted.bytes.now in
    let are = c.args.self.now.file.counted.bindings_are in
    let places = c.args.self.now.file.counted.places_are in
    let is = bound file c.args.number c.u16_at.result c.u16_at-2.result c.u64_at.result c.binding_byte-byte.result
    (omega arith) c.u16_at.ensures c.u16_at-2.ensures c.u64_at.ensures in
    let at : slice_get (listed (binding_count file) (binding_at file)) c.args.number ≡ Some (record { from = c.u16_at.result; to = c.u16_at-2.result; set = record { 0 = c.u64_at.result } }) =
    nth_listed (binding_count file) (binding_at file) c.args.number (omega arith) ∙ ap Some is in
    let link = nth_link word_holds _ c.args.number _ at in
    let inside = link_inside word_holds (place_count file) (listed (binding_count file) (binding_at file)) c.args.self.now.file.ends c.args.number _ link in
    let len = length_listed (place_count file) (mark_at file) in
    let from_in = inside.0 in
    let to_in = inside.1 in
    record { value = link; ends = (omega arith, omega arith) }
