-- What is nested at most n deep is nested at most m deep, where m is no less.
use Rattle.std.proofs.Common.{ℕ, zero, suc, ◌≤◌, List, arith}
use Rattle.project_json.specs.Tree.{Tree}
use Rattle.project_json.specs.Grammar.{Value, null_here, true_here, false_here, number_here, text_here, no_items_here, items_here, no_members_here, members_here, Spaced, spaced, Items, last_item, more_items, Members, last_member, more_members}

mutual
  value-deeper : {n : ℕ} {t : Tree} {old new : List ℕ} → Value n t old new → (m : ℕ) → n ≤ m → Value m t old new
  value-deeper null_here m le = null_here
  value-deeper true_here m le = true_here
  value-deeper false_here m le = false_here
  value-deeper (number_here digits w e) m le = number_here digits w e
  value-deeper (text_here ps is e) m le = text_here ps is e
  value-deeper (no_items_here g) zero le = absurd (omega arith)
  value-deeper (no_items_here g) (suc m) le = no_items_here g
  value-deeper (items_here ts is e) zero le = absurd (omega arith)
  value-deeper (items_here ts is e) (suc m) le = items_here ts (items-deeper is m (omega arith)) e
  value-deeper (no_members_here g) zero le = absurd (omega arith)
  value-deeper (no_members_here g) (suc m) le = no_members_here g
  value-deeper (members_here ms is e) zero le = absurd (omega arith)
  value-deeper (members_here ms is e) (suc m) le = members_here ms (members-deeper is m (omega arith)) e

  pub spaced-deeper : {n : ℕ} {t : Tree} {old new : List ℕ} → Spaced n t old new → (m : ℕ) → n ≤ m → Spaced m t old new
  spaced-deeper (spaced begin end f v g) m le = spaced begin end f (value-deeper v m le) g

  items-deeper : {n : ℕ} {ts : List Tree} {old new : List ℕ} → Items n ts old new → (m : ℕ) → n ≤ m → Items m ts old new
  items-deeper (last_item p) m le = last_item (spaced-deeper p m le)
  items-deeper (more_items mid p is) m le = more_items mid (spaced-deeper p m le) (items-deeper is m le)

  members-deeper : {n : ℕ} {before ms : List (List ℕ × Tree)} {old new : List ℕ} → Members n before ms old new → (m : ℕ) → n ≤ m → Members m before ms old new
  members-deeper (last_member name t mid a p e) m le = last_member name t mid a (spaced-deeper p m le) e
  members-deeper (more_members name t mid next a p is) m le = more_members name t mid next a (spaced-deeper p m le) (members-deeper is m le)
