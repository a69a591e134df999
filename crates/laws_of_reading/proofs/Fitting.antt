-- Values whose compact text is UTF-8 and is read back: how rows, tables and lists of such values are such values.
use Rattle.std.proofs.Common.{◌≡◌, ℕ, suc, ◌<◌, ◌≤◌, ◌^◌, List, [], ◌∷◌, map, Bool, true, IsUtf8, arith}
use Rattle.std.proofs.lemmas.List.Elements.{All-head, All-tail}
use Rattle.std.specs.List.{All}
use Rattle.json.proofs.Printed.Utf8.{are_ascii, IsUtf8-are_ascii}
use Rattle.serde_json.specs.Data.{Data, null, boolean, string, array, object, Items, no_items, item, Members, no_members, member, depth, items_depth, members_depth}
use Rattle.laws_of_json.specs.Plain.{IsPlain, ItemsArePlain, MembersArePlain, HasUtf8, ItemsHaveUtf8, MembersHaveUtf8, IsBefore}
use Rattle.saved_spec.specs.Rows as rows

-- plain, with texts in UTF-8, nesting at most n deep
pub record Fits (n : ℕ) (d : Data) : Type 0 where
  pub plain : IsPlain d
  pub utf8 : HasUtf8 d
  pub deep : depth d ≤ n

-- each of them
abbrev pub ItemsFit : ℕ → Items → Type 0
ItemsFit n no_items = Unit {0}
ItemsFit n (item d ds) = Fits n d × ItemsFit n ds

pub fits_null : (n : ℕ) → Fits n null
fits_null n = record { plain = tt; utf8 = tt; deep = omega arith }

pub fits_truth : (n : ℕ) (b : Bool) → Fits n (boolean b)
fits_truth n b = record { plain = tt; utf8 = tt; deep = omega arith }

pub fits_text : (n : ℕ) (t : List ℕ) → IsUtf8 t → Fits n (string t)
fits_text n t h = record { plain = tt; utf8 = h; deep = omega arith }

pub fits_whole : (n k : ℕ) → k < 2 ^ 64 → Fits n (rows.whole k)
fits_whole n k h = record { plain = h; utf8 = tt; deep = omega arith }

-- Rows and lists

items_plain : (n : ℕ) (ds : Items) → ItemsFit n ds → ItemsArePlain ds
items_plain n no_items h = tt
items_plain n (item d ds) h = (h.0.plain, items_plain n ds h.1)

items_utf8 : (n : ℕ) (ds : Items) → ItemsFit n ds → ItemsHaveUtf8 ds
items_utf8 n no_items h = tt
items_utf8 n (item d ds) h = (h.0.utf8, items_utf8 n ds h.1)

items_deep : (n : ℕ) (ds : Items) → ItemsFit n ds → items_depth ds ≤ n
items_deep n no_items h = omega arith
items_deep n (item d ds) h = let one = h.0.deep in let more = items_deep n ds h.1 in omega arith

pub fits_row : (n : ℕ) {ds : Items} → ItemsFit n ds → Fits (suc n) (array ds)
fits_row n {ds} h = let deep = items_deep n ds h in record { plain = items_plain n ds h; utf8 = items_utf8 n ds h; deep = omega arith }

all_fit : {A : Type 0} (n : ℕ) (write : A → Data) (P : A → Type 0) → ((a : A) → P a → Fits n (write a)) → (xs : List A) → All P xs → ItemsFit n (rows.items_of (map write xs))
all_fit n write P one [] h = tt
all_fit n write P one (x ∷ xs) h = (one x (All-head P x xs h), all_fit n write P one xs (All-tail P x xs h))

pub fits_each : {A : Type 0} (n : ℕ) (write : A → Data) (P : A → Type 0) → ((a : A) → P a → Fits n (write a)) → (xs : List A) → All P xs → Fits (suc n) (rows.each write xs)
fits_each n write P one xs h = fits_row n (all_fit n write P one xs h)

-- Tables: names in ASCII, in their order

abbrev pub MembersFit : ℕ → Members → Type 0
MembersFit n no_members = Unit {0}
MembersFit n (member k d ms) = Fits n d × (IsBefore k ms × (are_ascii k ≡ true)) × MembersFit n ms

members_plain : (n : ℕ) (ms : Members) → MembersFit n ms → MembersArePlain ms
members_plain n no_members h = tt
members_plain n (member k d ms) h = (h.0.plain, h.1.0, members_plain n ms h.2)

members_utf8 : (n : ℕ) (ms : Members) → MembersFit n ms → MembersHaveUtf8 ms
members_utf8 n no_members h = tt
members_utf8 n (member k d ms) h = (IsUtf8-are_ascii k h.1.1, h.0.utf8, members_utf8 n ms h.2)

members_deep : (n : ℕ) (ms : Members) → MembersFit n ms → members_depth ms ≤ n
members_deep n no_members h = omega arith
members_deep n (member k d ms) h = let one = h.0.deep in let more = members_deep n ms h.2 in omega arith

pub fits_table : (n : ℕ) {ms : Members} → MembersFit n ms → Fits (suc n) (object ms)
fits_table n {ms} h = let deep = members_deep n ms h in record { plain = members_plain n ms h; utf8 = members_utf8 n ms h; deep = omega arith }
