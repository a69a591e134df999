-- The hats of a target by the numbers of their blocks.
use Rattle.std.proofs.Common.{◌≡◌, ℕ, zero, suc, ◌+◌, ◌<◌, ◌==◌, Bool, true, false, ◌&&◌, ◌||◌, List, [], ◌∷◌, Some, None, refl, ap, ◌∙◌, arith, eq-eqb}
use Rattle.std.specs.Prelude.{slice_get, if◌then◌else◌}
use Rattle.std.specs.List.{list_any, filter_map, enumerate_from, cons_option}
use Rattle.std.specs.Option.{option_map_or}
use Rattle.std.proofs.lemmas.Bool.{ne_eqb}
use Rattle.opcode_table.specs.declared.shape.Role.TheVariants as role
use Rattle.machine_spec.specs.Program.{Head}
use Rattle.project_spec.specs.declared.blocks.Block.{Block}
use Rattle.project_spec.specs.Linked.{has_role, is_head}
use Rattle.project_spec.specs.Trees.{Sheet, head_of, hat_at, heads_of}

either-false : (x : Bool) → (x || false) ≡ x
either-false true = refl
either-false false = refl

never : (t h r : Bool) → (t && (h && (false && r))) ≡ false
never true true r = refl
never true false r = refl
never false h r = refl

-- a test of heads that only passes at one block, where it tests something of that
module _ (sheet : Sheet) (block : ℕ) (test : Head → Bool) (more : Block → Bool) (agrees : (k : ℕ) (b : Block) → test (head_of sheet k b) ≡ ((k == block) && more b)) where
  one : (t h : Bool) (k : ℕ) (b : Block) (hs : List Head)
      → list_any test (cons_option (if t then (if h then Some (head_of sheet k b) else None) else None) hs) ≡ ((t && (h && ((k == block) && more b))) || list_any test hs)
  one true true k b hs = ap (λ x. x || list_any test hs) (agrees k b)
  one true false k b hs = refl
  one false h k b hs = refl

  at : (n : ℕ) (b : Block) (bs : List Block) → list_any test (filter_map (hat_at sheet) (enumerate_from n (b ∷ bs))) ≡ ((is_head b && (has_role role.Hat b.code && ((n == block) && more b))) || list_any test (filter_map (hat_at sheet) (enumerate_from (n + 1) bs)))
  at n b bs = one (is_head b) (has_role role.Hat b.code) n b (filter_map (hat_at sheet) (enumerate_from (n + 1) bs))

  passed : (n : ℕ) (bs : List Block) → block < n → list_any test (filter_map (hat_at sheet) (enumerate_from n bs)) ≡ false
  passed n [] h = refl
  passed n (b ∷ bs) h =
      at n b bs
      ∙ ap (λ t. (is_head b && (has_role role.Hat b.code && (t && more b))) || list_any test (filter_map (hat_at sheet) (enumerate_from (n + 1) bs))) (ne_eqb n block (λ e. omega arith))
      ∙ ap (λ t. t || list_any test (filter_map (hat_at sheet) (enumerate_from (n + 1) bs))) (never (is_head b) (has_role role.Hat b.code) (more b))
      ∙ passed (n + 1) bs (omega arith)

  from : (n j : ℕ) (bs : List Block) → block ≡ n + j → list_any test (filter_map (hat_at sheet) (enumerate_from n bs)) ≡ option_map_or (λ b. is_head b && (has_role role.Hat b.code && more b)) (slice_get bs j) false
  from n j [] e = refl
  from n zero (b ∷ bs) e =
      at n b bs
      ∙ ap (λ t. (is_head b && (has_role role.Hat b.code && (t && more b))) || list_any test (filter_map (hat_at sheet) (enumerate_from (n + 1) bs))) (eq-eqb n block (omega arith))
      ∙ ap (λ t. (is_head b && (has_role role.Hat b.code && more b)) || t) (passed (n + 1) bs (omega arith))
      ∙ either-false (is_head b && (has_role role.Hat b.code && more b))
  from n (suc j) (b ∷ bs) e =
      at n b bs
      ∙ ap (λ t. (is_head b && (has_role role.Hat b.code && (t && more b))) || list_any test (filter_map (hat_at sheet) (enumerate_from (n + 1) bs))) (ne_eqb n block (λ f. omega arith))
      ∙ ap (λ t. t || list_any test (filter_map (hat_at sheet) (enumerate_from (n + 1) bs))) (never (is_head b) (has_role role.Hat b.code) (more b))
      ∙ from (n + 1) j bs (omega arith)

  pub hat-of-block : list_any test (heads_of sheet) ≡ option_map_or (λ b. is_head b && (has_role role.Hat b.code && more b)) (slice_get sheet.blocks block) false
  hat-of-block = from 0 block sheet.blocks (omega arith)
