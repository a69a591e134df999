-- The grammar of JSON texts (RFC 8259): which bytes stand for which tree, and which bytes follow them.
use Rattle.std.specs.Prelude.{◌≡◌, ℕ, suc, List, [], ◌∷◌, ◌++◌, true, false, bytes_eq, if◌then◌else◌}
use Rattle.project_json.specs.Bytes.{Blanks}
use Rattle.project_json.specs.Numbers.{IsNumber}
use Rattle.project_json.specs.Strings.{Piece, Pieces, joined}
use Rattle.project_json.specs.Tree.{Tree, null, truth, number, text, list, object, no_trees, no_fields, trees_of, fields_of}

-- The members with the value at the name: in the name's earlier place, or else last.
-- RFC 8259 section 4 leaves repeated names open; here the later value counts.
abbrev pub put : List ℕ → Tree → List (List ℕ × Tree) → List (List ℕ × Tree)
put name t [] = (name, t) ∷ []
put name t (m ∷ ms) = if bytes_eq m.0 name then (m.0, t) ∷ ms else m ∷ put name t ms

mutual
  -- `Value n t old new`: old begins with a value (RFC 8259 section 3) that stands for t, nested at most n deep, and new follows it.
  -- The bytes are those of null, true and false, a quotation mark, [ and ], { and }.
  pub data Value : ℕ → Tree → List ℕ → List ℕ → Type 0 where
    null_here : {n : ℕ} {new : List ℕ} → Value n null (110 ∷ 117 ∷ 108 ∷ 108 ∷ new) new
    true_here : {n : ℕ} {new : List ℕ} → Value n (truth true) (116 ∷ 114 ∷ 117 ∷ 101 ∷ new) new
    false_here : {n : ℕ} {new : List ℕ} → Value n (truth false) (102 ∷ 97 ∷ 108 ∷ 115 ∷ 101 ∷ new) new
    number_here : {n : ℕ} (digits : List ℕ) {old new : List ℕ} → IsNumber digits → old ≡ digits ++ new → Value n (number digits) old new
    text_here : {n : ℕ} {t : Tree} (ps : List Piece) {old new : List ℕ} → Pieces ps old new → t ≡ text (joined ps) → Value n t (34 ∷ old) new
    no_items_here : {n : ℕ} {old new : List ℕ} → Blanks old (93 ∷ new) → Value (suc n) (list no_trees) (91 ∷ old) new
    items_here : {n : ℕ} {t : Tree} (ts : List Tree) {old new : List ℕ} → Items n ts old new → t ≡ list (trees_of ts) → Value (suc n) t (91 ∷ old) new
    no_members_here : {n : ℕ} {old new : List ℕ} → Blanks old (125 ∷ new) → Value (suc n) (object no_fields) (123 ∷ old) new
    members_here : {n : ℕ} {t : Tree} (ms : List (List ℕ × Tree)) {old new : List ℕ} → Members n [] ms old new → t ≡ object (fields_of ms) → Value (suc n) t (123 ∷ old) new

  -- a value with blanks round it
  pub data Spaced : ℕ → Tree → List ℕ → List ℕ → Type 0 where
    spaced : {n : ℕ} {t : Tree} {old new : List ℕ} (begin end : List ℕ) → Blanks old begin → Value n t begin end → Blanks end new → Spaced n t old new

  -- one item or more with commas between them, and the bracket (RFC 8259 section 5)
  pub data Items : ℕ → List Tree → List ℕ → List ℕ → Type 0 where
    last_item : {n : ℕ} {t : Tree} {old new : List ℕ} → Spaced n t old (93 ∷ new) → Items n (t ∷ []) old new
    more_items : {n : ℕ} {t : Tree} {ts : List Tree} {old new : List ℕ} (mid : List ℕ) → Spaced n t old (44 ∷ mid) → Items n ts mid new → Items n (t ∷ ts) old new

  -- `Members n before ms old new`: one member or more with commas between them, and the brace (RFC 8259 section 4).
  -- They make the members ms of those that stand before.
  pub data Members : ℕ → List (List ℕ × Tree) → List (List ℕ × Tree) → List ℕ → List ℕ → Type 0 where
    last_member : {n : ℕ} {ms : List (List ℕ × Tree)} (name : List ℕ) (t : Tree) {before : List (List ℕ × Tree)} {old new : List ℕ} (mid : List ℕ) → Name name old mid → Spaced n t mid (125 ∷ new) → ms ≡ put name t before → Members n before ms old new
    more_members : {n : ℕ} {ms : List (List ℕ × Tree)} (name : List ℕ) (t : Tree) {before : List (List ℕ × Tree)} {old new : List ℕ} (mid next : List ℕ) → Name name old mid → Spaced n t mid (44 ∷ next) → Members n (put name t before) ms next new → Members n before ms old new

  -- the name of a member with blanks round it, and the colon (RFC 8259 section 4)
  pub data Name : List ℕ → List ℕ → List ℕ → Type 0 where
    name_here : {name old new : List ℕ} (ps : List Piece) (begin end : List ℕ) → Blanks old (34 ∷ begin) → Pieces ps begin end → name ≡ joined ps → Blanks end (58 ∷ new) → Name name old new

-- the bytes are a JSON text (RFC 8259 section 2) that stands for the tree, nested at most n deep
abbrev pub IsJson : ℕ → List ℕ → Tree → Type 0
IsJson n bytes t = Spaced n t bytes []
