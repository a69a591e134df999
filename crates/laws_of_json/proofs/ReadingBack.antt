-- A plain value is read back of its compact text.
use Rattle.std.proofs.Common.{◌≡◌, ◌≤◌, suc, max, [], ◌++◌, Some, option_map, option_and_then, refl, sym, ap, ap₂, ◌∙◌, append-nil}
use Rattle.json.specs.Json as json
use Rattle.json.specs.Lex.{tokens}
use Rattle.json.specs.Tree as tree
use Rattle.json.proofs.Printed.Tokens.{tokens-print}
use Rattle.json.proofs.Printed.Trees.{value-json_tokens, ArePrintable-json_tokens}
use Rattle.serde_json.specs.Data.{Data, null, boolean, number, string, array, object, Items, no_items, item, Members, no_members, member, put, depth, items_depth, members_depth}
use Rattle.serde_json.specs.Read.{read, max_depth, of_json, of_items, of_members}
use Rattle.serde_json.specs.Written.{compact_text, outline, items_outline, members_outline}
use Rattle.serde_json.proofs.Texts.{print-outline}
use Rattle.laws_of_json.specs.Plain.{IsPlain, ItemsArePlain, MembersArePlain}
use Rattle.laws_of_json.proofs.Numbers.{IsNumber-number_text, number_of-number_text}
use Rattle.laws_of_json.proofs.Members.{joined, put-last, joined-one, joined-none, Precede, precede_rest}

-- The value that its outline stands for

mutual
  of_json-outline : (d : Data) → IsPlain d → of_json (outline d) ≡ Some d
  of_json-outline null h = refl
  of_json-outline (boolean b) h = refl
  of_json-outline (number n) h = ap (option_map number) (number_of-number_text n h)
  of_json-outline (string s) h = refl
  of_json-outline (array ds) h = ap (option_map array) (of_items-outline ds h)
  of_json-outline (object ms) h = ap (option_map object) (of_members-outline ms no_members h (first ms))

  of_items-outline : (ds : Items) → ItemsArePlain ds → of_items (items_outline ds) ≡ Some ds
  of_items-outline no_items h = refl
  of_items-outline (item d ds) h = rw (of_json-outline d h.0, of_items-outline ds h.1)

  of_members-outline : (ms front : Members) → MembersArePlain ms → Precede front ms → of_members (members_outline ms) front ≡ Some (joined front ms)
  of_members-outline no_members front h before = ap Some (sym (joined-none front))
  of_members-outline (member k d ms) front h before =
      let next = joined front (member k d no_members) in
      ap (option_and_then (λ e. of_members (members_outline ms) (put k e front))) (of_json-outline d h.0)
      ∙ ap (of_members (members_outline ms)) (put-last front k d before)
      ∙ of_members-outline ms next h.2 (precede_rest front k d ms before h.1)
      ∙ ap Some (joined-one front k d ms)

  first : (ms : Members) → Precede no_members ms
  first no_members = tt
  first (member k d ms) = tt

-- Its outline has numbers, and nests as deep

mutual
  HasNumbers-outline : (d : Data) → IsPlain d → tree.HasNumbers (outline d)
  HasNumbers-outline null h = tt
  HasNumbers-outline (boolean b) h = tt
  HasNumbers-outline (number n) h = IsNumber-number_text n h
  HasNumbers-outline (string s) h = tt
  HasNumbers-outline (array ds) h = ItemsHaveNumbers-outline ds h
  HasNumbers-outline (object ms) h = MembersHaveNumbers-outline ms h

  ItemsHaveNumbers-outline : (ds : Items) → ItemsArePlain ds → tree.ItemsHaveNumbers (items_outline ds)
  ItemsHaveNumbers-outline no_items h = tt
  ItemsHaveNumbers-outline (item d ds) h = (HasNumbers-outline d h.0, ItemsHaveNumbers-outline ds h.1)

  MembersHaveNumbers-outline : (ms : Members) → MembersArePlain ms → tree.MembersHaveNumbers (members_outline ms)
  MembersHaveNumbers-outline no_members h = tt
  MembersHaveNumbers-outline (member k d ms) h = (HasNumbers-outline d h.0, MembersHaveNumbers-outline ms h.2)

mutual
  depth-outline : (d : Data) → tree.depth (outline d) ≡ depth d
  depth-outline null = refl
  depth-outline (boolean b) = refl
  depth-outline (number n) = refl
  depth-outline (string s) = refl
  depth-outline (array ds) = ap suc (items_depth-outline ds)
  depth-outline (object ms) = ap suc (members_depth-outline ms)

  items_depth-outline : (ds : Items) → tree.items_depth (items_outline ds) ≡ items_depth ds
  items_depth-outline no_items = refl
  items_depth-outline (item d ds) = ap₂ max (depth-outline d) (items_depth-outline ds)

  members_depth-outline : (ms : Members) → tree.members_depth (members_outline ms) ≡ members_depth ms
  members_depth-outline no_members = refl
  members_depth-outline (member k d ms) = ap₂ max (depth-outline d) (members_depth-outline ms)

-- The tokens of its text

tokens-compact_text : (d : Data) → IsPlain d → tokens (compact_text d) ≡ tree.json_tokens (outline d) ++ []
tokens-compact_text d h =
    ap tokens (sym (print-outline d))
    ∙ tokens-print (tree.json_tokens (outline d)) (ArePrintable-json_tokens (outline d) (HasNumbers-outline d h))
    ∙ sym (append-nil (tree.json_tokens (outline d)))

pub read-compact_text : (d : Data) → IsPlain d → depth d ≤ max_depth → read (compact_text d) ≡ Some d
read-compact_text d h shallow =
    let within : tree.depth (outline d) ≤ max_depth = rw (depth-outline d) shallow in
    ap (λ r. option_and_then of_json (option_and_then (λ p. json.if_last p.0 p.1) r)) (ap (json.value max_depth) (tokens-compact_text d h) ∙ value-json_tokens (outline d) max_depth [] within)
    ∙ of_json-outline d h
