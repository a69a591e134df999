-- A value holds no more members and items than it takes bytes.
use Rattle.std.proofs.Common.{ℕ, ◌+◌, ◌<◌, ◌≤◌, true, false, cond, List, [], ◌∷◌, length, ap, arith, length-append}
use Rattle.std.specs.Str.{bytes_eq}
use Rattle.project_json.specs.Tree.{Tree, trees_of, fields_of}
use Rattle.project_json.specs.Size.{size_of, items_size, members_size}
use Rattle.project_json.specs.Bytes.{Blanks}
use Rattle.project_json.specs.Strings.{Piece, PieceAt, unescaped_here, escape_here, unit_here, Pieces, no_pieces, piece_and}
use Rattle.project_json.specs.Grammar.{put, Value, null_here, true_here, false_here, number_here, text_here, no_items_here, items_here, no_members_here, members_here, Spaced, spaced, Items, last_item, more_items, Members, last_member, more_members, Name, name_here, IsJson}

pub blanks-le : {old new : List ℕ} → Blanks old new → length new ≤ length old
blanks-le {new = new} g = let e = ap length g.2 in omega (arith, e, length-append g.0 new)

pub piece-lt : {p : Piece} {old new : List ℕ} → PieceAt p old new → length new < length old
piece-lt (unescaped_here h) = omega arith
piece-lt (escape_here h) = omega arith
piece-lt (unit_here h) = omega arith

pub pieces-lt : {ps : List Piece} {old new : List ℕ} → Pieces ps old new → length new < length old
pieces-lt no_pieces = omega arith
pieces-lt (piece_and mid p ps) = let a = piece-lt p in let b = pieces-lt ps in omega (arith, a, b)

pub name-le : {name old new : List ℕ} → Name name old new → length new + 1 ≤ length old
name-le (name_here ps begin end f is e g) = let a = blanks-le f in let b = pieces-lt is in let c = blanks-le g in omega (arith, a, b, c)

-- a member that is set adds itself at most
put-size : (name : List ℕ) (t : Tree) (ms : List (List ℕ × Tree)) → members_size (fields_of (put name t ms)) ≤ 1 + size_of t + members_size (fields_of ms)
put-size name t [] = omega arith
put-size name t (m ∷ ms) =
    let more = put-size name t ms in
    elim (bytes_eq m.0 name) as (λ b. members_size (fields_of (cond b ((m.0, t) ∷ ms) (m ∷ put name t ms))) ≤ 1 + size_of t + members_size (fields_of (m ∷ ms))) [
      | true ↦ omega arith
      | false ↦ omega (arith, more)
    ]

mutual
  value-size : {n : ℕ} {t : Tree} {old new : List ℕ} → Value n t old new → size_of t + length new ≤ length old
  value-size null_here = omega arith
  value-size true_here = omega arith
  value-size false_here = omega arith
  value-size (number_here ds {old} {new} w e) = let k = ap length e in omega (arith, k, length-append ds new)
  value-size (text_here ps is e) = let k = pieces-lt is in let s = ap size_of e in omega (arith, k, s)
  value-size (no_items_here g) = let k = blanks-le g in omega (arith, k)
  value-size (items_here {t = t} ts is e) = let k = items-size is in let s = ap size_of e in omega (arith, k, s)
  value-size (no_members_here g) = let k = blanks-le g in omega (arith, k)
  value-size (members_here ms is e) = let k = members-size is in let s = ap size_of e in omega (arith, k, s)

  pub spaced-size : {n : ℕ} {t : Tree} {old new : List ℕ} → Spaced n t old new → size_of t + length new ≤ length old
  spaced-size (spaced begin end f v g) = let a = blanks-le f in let b = value-size v in let c = blanks-le g in omega (arith, a, b, c)

  items-size : {n : ℕ} {ts : List Tree} {old new : List ℕ} → Items n ts old new → items_size (trees_of ts) + length new ≤ length old
  items-size (last_item p) = let a = spaced-size p in omega (arith, a)
  items-size (more_items mid p is) = let a = spaced-size p in let b = items-size is in omega (arith, a, b)

  members-size : {n : ℕ} {before ms : List (List ℕ × Tree)} {old new : List ℕ} → Members n before ms old new → members_size (fields_of ms) + length new ≤ members_size (fields_of before) + length old
  members-size (last_member name t {before} mid a p e) = let x = name-le a in let y = spaced-size p in let z = put-size name t before in let w = ap (λ ms. members_size (fields_of ms)) e in omega (arith, x, y, z, w)
  members-size (more_members name t {before} mid next a p is) = let x = name-le a in let y = spaced-size p in let z = put-size name t before in let w = members-size is in omega (arith, x, y, z, w)

pub value-le : {n : ℕ} {t : Tree} {old new : List ℕ} → Value n t old new → length new ≤ length old
value-le {t = t} v = let a = value-size v in omega (arith, a)

-- a tree holds no more members and items than its text has bytes
pub IsJson-size : (n : ℕ) (bs : List ℕ) (t : Tree) → IsJson n bs t → size_of t ≤ length bs
IsJson-size n bs t p = let a = spaced-size p in omega (arith, a)

pub spaced-le : {n : ℕ} {t : Tree} {old new : List ℕ} → Spaced n t old new → length new ≤ length old
spaced-le {t = t} p = let a = spaced-size p in omega (arith, a)
