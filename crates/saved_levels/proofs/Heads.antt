-- The hat of a number in a target.
use Rattle.std.proofs.Common.{◌≡◌, ℕ, zero, suc, ◌+◌, ◌<◌, ◌≤◌, ◌==◌, Bool, true, false, ◌&&◌, List, [], ◌∷◌, length, Option, Some, None, refl, ap, ◌∙◌, arith, unwrap_or}
use Rattle.std.specs.Prelude.{slice_get, if◌then◌else◌, find, filter_map, option_map}
use Rattle.std.specs.List.{enumerate_from, cons_option}
use Rattle.std.proofs.lemmas.Bool.Decides.{Decides-eqb}
use Rattle.std.proofs.lemmas.Option.{slice_get-map}
use Rattle.opcode_table.specs.declared.shape.Role.TheVariants as role
use Rattle.machine_spec.specs.Program.{Head, Scripts, hat_block}
use Rattle.machine_spec.specs.Script.{Script}
use Rattle.project_spec.specs.declared.blocks.Block.{Block}
use Rattle.project_spec.specs.Linked.{has_role, is_head}
use Rattle.project_spec.specs.Trees.{Sheet, head_of, hat_at, heads_of, scripts_of, sheet_of, sheets, script, target_of_link}
use Rattle.project_check.specs.declared.project.Project.{Project}
use Rattle.project_check.specs.Loaded.{tables_of, names_of, sheet_at, program_of, blocks_at, basis_of}
use Rattle.project_check.proofs.Defining.{scripts_here}
use Rattle.project_spec.specs.Basis.{script_under}

module _ (sheet : Sheet) (k : ℕ) where
  abbrev found : List Head → Option Head
  found hs = find (λ h. hat_block h == k) hs

  -- the head that a block is
  abbrev head_by : ℕ → Option Block → Option Head
  head_by n None = None
  head_by n (Some b) = hat_at sheet (n, b)

  off : (n : ℕ) → (n ≡ k → ⊥) → (n == k) ≡ false
  off n h = no (n == k) refl
    where
      no : (c : Bool) → (n == k) ≡ c → (n == k) ≡ false
      no true e = absurd (h ((Decides-eqb n k).0 e))
      no false e = e

  passed : (n : ℕ) (b : Block) (t r : Bool) (hs : List Head) → (n == k) ≡ false → found (cons_option (if t then (if r then Some (head_of sheet n b) else None) else None) hs) ≡ found hs
  passed n b false r hs e = refl
  passed n b true false hs e = refl
  passed n b true true hs e = rw e refl

  none_later : (n : ℕ) (bs : List Block) → k < n → found (filter_map (hat_at sheet) (enumerate_from n bs)) ≡ None
  none_later n [] h = refl
  none_later n (b ∷ bs) h =
      passed n b (is_head b) (has_role role.Hat b.code) (filter_map (hat_at sheet) (enumerate_from (n + 1) bs)) (off n (λ e. omega (arith, e, h)))
      ∙ none_later (n + 1) bs (omega (arith, h))

  first : (n : ℕ) (b : Block) (t r : Bool) (hs : List Head) → n ≡ k → found hs ≡ None
      → found (cons_option (if t then (if r then Some (head_of sheet n b) else None) else None) hs) ≡ (if t then (if r then Some (head_of sheet n b) else None) else None)
  first n b false r hs at none = none
  first n b true false hs at none = none
  first n b true true hs at none = rw ((Decides-eqb n k).1 at) refl

  found_at : (n : ℕ) (bs : List Block) (i : ℕ) → n + i ≡ k → found (filter_map (hat_at sheet) (enumerate_from n bs)) ≡ head_by k (slice_get bs i)
  found_at n [] i at = refl
  found_at n (b ∷ bs) zero at =
      let here : n ≡ k = omega (arith, at) in
      first n b (is_head b) (has_role role.Hat b.code) (filter_map (hat_at sheet) (enumerate_from (n + 1) bs)) here (none_later (n + 1) bs (omega (arith, at))) ∙ ap (λ m. hat_at sheet (m, b)) here
  found_at n (b ∷ bs) (suc i) at =
      passed n b (is_head b) (has_role role.Hat b.code) (filter_map (hat_at sheet) (enumerate_from (n + 1) bs)) (off n (λ e. omega (arith, e, at)))
      ∙ found_at (n + 1) bs i (omega (arith, at))

  pub heads_found : found (heads_of sheet) ≡ head_by k (slice_get sheet.blocks k)
  heads_found = found_at 0 sheet.blocks k (omega arith)

none_at : {A : Type 0} (n : ℕ) (xs : List A) (t : ℕ) → length xs ≤ t → slice_get (enumerate_from n xs) t ≡ None
none_at n [] t h = refl
none_at n (x ∷ xs) zero h = absurd (omega (arith, h))
none_at n (x ∷ xs) (suc t) h = none_at (n + 1) xs t (omega (arith, h))

module _ (p : Project) (target k : ℕ) where
  abbrev script_in : Option Head → Option Script
  script_in o = option_map (λ h. h.script) o

  under_is : target < length (tables_of p) → script_under target k (basis_of p) ≡ script_in (head_by (sheet_at target p) k k (slice_get (blocks_at target p) k))
  under_is there = ap (λ (s : Scripts). script_in (find (λ h. hat_block h == k) s.heads)) (scripts_here p target there) ∙ ap script_in (heads_found (sheet_at target p) k)

  abbrev by_tests : Block → Bool → Bool → Option Script
  by_tests b t r = script_in (if t then (if r then Some (head_of (sheet_at target p) k b) else None) else None)

  passes : (b : Block) (t r : Bool) → (t && r) ≡ true → by_tests b t r ≡ Some (script (sheet_at target p) (target_of_link b.next))
  passes b true true e = refl
  passes b true false e = absurd (cc e)
  passes b false r e = absurd (cc e)

  fails : (b : Block) (t r : Bool) → (t && r) ≡ false → by_tests b t r ≡ None
  fails b true true e = absurd (cc e)
  fails b true false e = refl
  fails b false r e = refl

  pub some_hat : target < length (tables_of p) → (b : Block) → slice_get (blocks_at target p) k ≡ Some b → (is_head b && has_role role.Hat b.code) ≡ true
      → script_under target k (basis_of p) ≡ Some (script (sheet_at target p) (target_of_link b.next))
  some_hat there b held e = under_is there ∙ ap (λ o. script_in (head_by (sheet_at target p) k k o)) held ∙ passes b (is_head b) (has_role role.Hat b.code) e

  pub other_block : target < length (tables_of p) → (b : Block) → slice_get (blocks_at target p) k ≡ Some b → (is_head b && has_role role.Hat b.code) ≡ false → script_under target k (basis_of p) ≡ None
  other_block there b held e = under_is there ∙ ap (λ o. script_in (head_by (sheet_at target p) k k o)) held ∙ fails b (is_head b) (has_role role.Hat b.code) e

  pub no_block : target < length (tables_of p) → slice_get (blocks_at target p) k ≡ None → script_under target k (basis_of p) ≡ None
  no_block there none = under_is there ∙ ap (λ o. script_in (head_by (sheet_at target p) k k o)) none

  past : length (tables_of p) ≤ target → slice_get (program_of p).scripts target ≡ None
  past h =
      slice_get-map scripts_of (sheets (tables_of p) (names_of p)) target
      ∙ ap (option_map scripts_of)
      (slice_get-map (sheet_of (names_of p)) (enumerate_from 0 (tables_of p)) target ∙ ap (option_map (sheet_of (names_of p))) (none_at 0 (tables_of p) target h))

  -- a target that is not there has no hats
  pub no_target : length (tables_of p) ≤ target → script_under target k (basis_of p) ≡ None
  no_target h = ap (λ (o : Option Scripts). script_in (find (λ h. hat_block h == k) (unwrap_or o (record { heads = []; procedures = [] })).heads)) (past h)
