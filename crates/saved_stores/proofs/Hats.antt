-- The number of a block that is an edge hat is one that a block can have.
use Rattle.std.proofs.Common.{◌≡◌, ℕ, zero, suc, ◌+◌, ◌<◌, ◌≤◌, ◌==◌, Bool, true, false, ◌||◌, List, [], ◌∷◌, length, Some, None, refl, sym, ap, ◌∙◌, arith}
use Rattle.std.specs.Prelude.{slice_get, unwrap_or, if◌then◌else◌}
use Rattle.std.specs.List.{list_any, enumerate_from, filter_map, cons_option, sum_by}
use Rattle.std.proofs.lemmas.Bool.Decides.{nat_tests}
use Rattle.std.proofs.lemmas.List.Sums.{sum_by-cons}
use Rattle.opcode_table.specs.Kinds.{hat_kind}
use Rattle.opcode_table.specs.declared.shape.Role.TheVariants as role
use Rattle.machine_spec.specs.Frame.{is_edge_hat}
use Rattle.machine_spec.specs.Script.{op_of}
use Rattle.machine_spec.specs.Program.{Head}
use Rattle.project_spec.specs.declared.blocks.Block.{Block}
use Rattle.project_spec.specs.Linked.{has_role, is_head}
use Rattle.project_spec.specs.Trees.{Sheet, head_of, hat_at, heads_of}
use Rattle.project_check.specs.Counts.{block_count}
use Rattle.project_check.specs.Loaded.{tables_of, blocks_at, sheet_at, basis_of}
use Rattle.project_check.specs.declared.project.Project.{Project}
use Rattle.project_check.proofs.Defining.{scripts_here}
use Rattle.project_spec.specs.Basis.{is_edge, is_edge_head}
use Rattle.saved_stores.proofs.Comparing.{both}

one_of : (sheet : Sheet) (n m : ℕ) (b : Block) (t r : Bool) (k : ℕ) (hs : List Head) → n < m → (list_any (is_edge_head k) hs ≡ true → k < m)
    → list_any (is_edge_head k) (cons_option (if t then (if r then Some (head_of sheet n b) else None) else None) hs) ≡ true → k < m
one_of sheet n m b false r k hs l more h = more h
one_of sheet n m b true false k hs l more h = more h
one_of sheet n m b true true k hs l more h = either (is_edge_head k (head_of sheet n b)) refl h
  where
    either : (c : Bool) → is_edge_head k (head_of sheet n b) ≡ c → (c || list_any (is_edge_head k) hs) ≡ true → k < m
    either true e g = let at : (n == k) ≡ true = (both (n == k) (is_edge_hat (hat_kind (op_of (head_of sheet n b).hat))) e).0 in let same : n ≡ k = grind (arith, nat_tests) in omega arith
    either false e g = more g

within : (sheet : Sheet) (n : ℕ) (bs : List Block) (k : ℕ) → list_any (is_edge_head k) (filter_map (hat_at sheet) (enumerate_from n bs)) ≡ true → k < n + length bs
within sheet n [] k h = absurd (cc h)
within sheet n (b ∷ bs) k h =
    one_of sheet n (n + suc (length bs)) b (is_head b) (has_role role.Hat b.code) k (filter_map (hat_at sheet) (enumerate_from (n + 1) bs)) (omega arith)
    (λ g. omega (arith, within sheet (n + 1) bs k g)) h

one_table : (tables : List (List Block)) (t : ℕ) → length (unwrap_or (slice_get tables t) []) ≤ sum_by length tables
one_table [] t = omega arith
one_table (bs ∷ more) zero = omega (arith, sum_by-cons length bs more)
one_table (bs ∷ more) (suc t) = omega (arith, sum_by-cons length bs more, one_table more t)

-- it is below the number of blocks
pub edge_within : (p : Project) (t k : ℕ) → t < length (tables_of p) → is_edge t k (basis_of p) ≡ true → k < block_count (tables_of p)
edge_within p t k there h =
    let at : list_any (is_edge_head k) (heads_of (sheet_at t p)) ≡ true = sym (ap (λ s. list_any (is_edge_head k) s.heads) (scripts_here p t there)) ∙ h in
    omega (arith, within (sheet_at t p) 0 (blocks_at t p) k at, one_table (tables_of p) t)
