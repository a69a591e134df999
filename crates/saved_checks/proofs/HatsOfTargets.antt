-- The hats of a project's targets by the numbers of their blocks.
use Rattle.std.proofs.Common.{◌≡◌, ℕ, ◌+◌, ◌<◌, ◌≤◌, ◌==◌, Bool, true, false, ◌&&◌, List, [], ◌∷◌, length, Option, refl, sym, ap, ◌∙◌, ◌⊎◌, inl, inr, arith}
use Rattle.std.specs.Prelude.{slice_get, unwrap_or}
use Rattle.std.specs.List.{list_any, enumerate_from}
use Rattle.std.specs.Option.{option_map_or}
use Rattle.std.proofs.lemmas.Bool.{cases_lt}
use Rattle.std.proofs.lemmas.List.{length-map}
use Rattle.std.proofs.lemmas.Option.{slice_get_past}
use Rattle.opcode_table.specs.Kinds.{hat_kind}
use Rattle.opcode_table.specs.declared.shape.Role.TheVariants as role
use Rattle.machine_spec.specs.Frame.{is_edge_hat}
use Rattle.machine_spec.specs.Program.{Head, Scripts, hat_block, scripts_at}
use Rattle.project_spec.specs.declared.blocks.Block.{Block}
use Rattle.project_spec.specs.Linked.{has_role, is_head}
use Rattle.project_spec.specs.Trees.{op_by, head_of, scripts_of, sheet_of, sheets}
use Rattle.project_check.specs.declared.project.Project.{Project}
use Rattle.project_check.specs.Loaded.{tables_of, names_of, program_of, blocks_at, sheet_at, basis_of}
use Rattle.project_check.proofs.Defining.{scripts_here}
use Rattle.project_spec.specs.Basis.{is_hat, is_edge, is_edge_head}
use Rattle.saved_checks.proofs.HatBlocks.{hat-of-block}

length-numbered : {A : Type 0} (n : ℕ) (xs : List A) → length (enumerate_from n xs) ≡ length xs
length-numbered n [] = refl
length-numbered n (x ∷ xs) = let h = length-numbered (n + 1) xs in omega arith

scripts-length : (p : Project) → length (program_of p).scripts ≡ length (tables_of p)
scripts-length p = length-map (sheets (tables_of p) (names_of p)) scripts_of ∙ length-map (enumerate_from 0 (tables_of p)) (sheet_of (names_of p)) ∙ length-numbered 0 (tables_of p)

-- a test of heads that passes at one block only
module _ (p : Project) (target block : ℕ) (test : Head → Bool) (more : Block → Bool) (agrees : (k : ℕ) (b : Block) → test (head_of (sheet_at target p) k b) ≡ ((k == block) && more b)) where
  tested : Option Block → Bool
  tested o = option_map_or (λ b. is_head b && (has_role role.Hat b.code && more b)) o false

  by : (target < length (tables_of p)) ⊎ (length (tables_of p) ≤ target) → list_any test (scripts_at target (program_of p)).heads ≡ option_map_or (λ b. is_head b && (has_role role.Hat b.code && more b)) (slice_get (blocks_at target p) block) false
  by (inl there) = ap (λ s. list_any test s.heads) (scripts_here p target there) ∙ hat-of-block (sheet_at target p) block test more agrees
  by (inr past) =
      ap (λ o. list_any test (unwrap_or {T = Scripts} o (record { heads = []; procedures = [] })).heads) (slice_get_past (program_of p).scripts target (omega (arith, past, scripts-length p)))
      ∙ sym (ap (λ o. option_map_or (λ b. is_head b && (has_role role.Hat b.code && more b)) (slice_get (unwrap_or {T = List Block} o []) block) false) (slice_get_past (tables_of p) target past))

  pub head-at : list_any test (scripts_at target (program_of p)).heads ≡ option_map_or (λ b. is_head b && (has_role role.Hat b.code && more b)) (slice_get (blocks_at target p) block) false
  head-at = by (cases_lt target (length (tables_of p)))

and-true : (x : Bool) → x ≡ (x && true)
and-true true = refl
and-true false = refl

and-and-true : (x y : Bool) → (x && (y && true)) ≡ (x && y)
and-and-true x y = ap (λ z. x && z) (sym (and-true y))

pub hat-told : (p : Project) (target block : ℕ) → is_hat target block (basis_of p) ≡ option_map_or (λ b. is_head b && has_role role.Hat b.code) (slice_get (blocks_at target p) block) false
hat-told p target block =
    head-at p target block (λ h. hat_block h == block) (λ b. true) (λ k b. and-true (k == block))
    ∙ (λ j. option_map_or (λ b. and-and-true (is_head b) (has_role role.Hat b.code) j) (slice_get (blocks_at target p) block) false)

pub edge-told : (p : Project) (target block : ℕ) → is_edge target block (basis_of p) ≡ option_map_or (λ b. is_head b && (has_role role.Hat b.code && is_edge_hat (hat_kind (op_by b.code)))) (slice_get (blocks_at target p) block) false
edge-told p target block = head-at p target block (is_edge_head block) (λ b. is_edge_hat (hat_kind (op_by b.code))) (λ k b. refl)
