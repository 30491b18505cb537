-- Writing a list element by element, and parts of known lengths.
use Rattle.std.proofs.Common.{◌≡◌, ℕ, ◌+◌, ◌<◌, ◌≤◌, List, ◌++◌, length, get_or, take, drop, sym, ap, subst, arith, length-append}
use Rattle.std.proofs.lemmas.List.{take_all, take-append-drop}
use Rattle.conditions.specs.declared.word.Word.{Word}
use Rattle.routing.specs.declared.binding.Binding.{Binding}
use Rattle.plan.specs.Put.{Put}
use Rattle.plan.proofs.Puts.{put_then}
use Rattle.plan.specs.Format.{entry, contents, binding_bytes, text_bytes, flat}
use Rattle.plan.proofs.Flat.{flat_append, flat_more}
use Rattle.plan.proofs.Widths.{length_bytes_of}

-- The same bytes.
pub put_same : {before after : List ℕ} {at next : ℕ} {xs ys : List ℕ} → xs ≡ ys → Put before at xs after next → Put before at ys after next
put_same {before} {after} {at} {next} same put = subst (λ (bytes : List ℕ). Put before at bytes after next) same put

-- Three parts, one behind the other.
pub put_three : {a b c d : List ℕ} {i j k n : ℕ} {xs ys zs : List ℕ} → Put a i xs b j → Put b j ys c k → Put c k zs d n
    → Put a i (xs ++ (ys ++ zs)) d n
put_three first second third = put_then _ _ _ _ _ _ _ _ first (put_then _ _ _ _ _ _ _ _ second third)

-- One element more.
pub put_more : {A : Type 0} (f : A → List ℕ) (xs : List A) (i : ℕ) (d : A) {a b c : List ℕ} {at next behind : ℕ} → i < length xs
    → Put a at (flat f (take i xs)) b next → Put b next (f (get_or xs i d)) c behind → Put a at (flat f (take (i + 1) xs)) c behind
put_more f xs i d in_List before here = put_same (sym (flat_more f xs i d in_List)) (put_then _ _ _ _ _ _ _ _ before here)

-- All elements.
pub put_all : {A : Type 0} (f : A → List ℕ) (xs : List A) (i : ℕ) {a b : List ℕ} {at next : ℕ} → length xs ≤ i
    → Put a at (flat f (take i xs)) b next → Put a at (flat f xs) b next
put_all f xs i past put = put_same (ap (flat f) (take_all i xs past)) put

-- A front of a list has no more bytes than the list.
pub length_flat_take : {A : Type 0} (f : A → List ℕ) (n : ℕ) (xs : List A) → length (flat f (take n xs)) ≤ length (flat f xs)
length_flat_take f n xs =
    omega (
      arith,
      ap (λ (zs : List _). length (flat f zs)) (take-append-drop n xs),
      ap length (flat_append f (take n xs) (drop n xs)),
      length-append (flat f (take n xs)) (flat f (drop n xs)),
    )

-- There is room for the next element.
pub room_next : {A : Type 0} (f : A → List ℕ) (xs : List A) (i : ℕ) (d : A) {a b : List ℕ} {at next room : ℕ} → i < length xs
    → Put a at (flat f (take i xs)) b next → at + length (flat f xs) ≤ room → next + length (f (get_or xs i d)) ≤ room
room_next f xs i d in_List put all =
    omega (
      arith,
      put.ends,
      length_flat_take f (i + 1) xs,
      ap length (flat_more f xs i d in_List),
      length-append (flat f (take i xs)) (f (get_or xs i d)),
    )

pub length_entry : (kind count start : ℕ) → length (entry kind count start) ≡ 8
length_entry kind count start = simp (length-append, length_bytes_of)

pub length_contents : (n b r : ℕ) → length (contents n b r) ≡ 24
length_contents n b r = simp (length-append, length_bytes_of)

pub length_binding : (b : Binding Word) → length (binding_bytes b) ≡ 12
length_binding b = simp (length-append, length_bytes_of)

pub length_text : (t : List ℕ) → length (text_bytes t) ≡ 2 + length t
length_text t = simp (length-append, length_bytes_of)
