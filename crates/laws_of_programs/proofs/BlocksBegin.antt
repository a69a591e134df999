-- Each block of a target begins one script, wherever it stands.
use Rattle.std.proofs.Common.{◌≡◌, ℕ, List, [], ◌∷◌, Bool, true, false, cond, refl, sym, ap, ◌∙◌, subst, arith}
use Rattle.std.specs.Prelude.{slice_get, unwrap_or, Option, None, Some, IfSome}
use Rattle.std.specs.List.{enumerate_from}
use Rattle.opcode_table.specs.declared.shape.Role.TheVariants as role
use Rattle.machine_spec.specs.Script.{Script, End, Then, Statement, Does, Branches, NoBranch, AndBranch, place_of}
use Rattle.project_spec.specs.declared.blocks.Block.{Block}
use Rattle.project_spec.specs.declared.blocks.Resolved.{Resolved}
use Rattle.project_spec.specs.declared.blocks.Prototype.{Prototype}
use Rattle.project_spec.specs.Linked.{custom_block, named, is_head, has_role, IsCyclic}
use Rattle.project_spec.specs.Resolving.{Found}
use Rattle.project_spec.specs.Trees.{Sheet, branches, branches_by, target_of_link, script, statement, head_of, hat_at, heads_of, linked_prototype, procedure_by, procedures_of, sheet_of, program}
use Rattle.project_spec.proofs.Unrolling.{script-none}
use Rattle.laws_of_threads.specs.Lists.{Each}
use Rattle.laws_of_programs.specs.Scripts.{Begun, BegunUnder, BegunIn, BlocksTell}
use Rattle.laws_of_programs.proofs.Trails.{script_nowhere, script_there}
use Rattle.laws_of_programs.proofs.Reached.{Stands, each_enumerated, each_filter_map, procedures_each, scripts_have}

-- the script that a block of a sheet begins
abbrev begun_at : Sheet → ℕ → Script
begun_at sheet k = script sheet (Some k)

-- a script that is not empty begins with a block of the sheet
record Opened (sheet : Sheet) (s : Statement) (rest : Script) : Type 0 where
  number : ℕ
  block : Block
  first : s ≡ statement sheet number block
  next : rest ≡ script sheet (target_of_link block.next)
  whole : Then s rest ≡ begun_at sheet number

module _ (sheet : Sheet) (acyclic : (k : ℕ) → IsCyclic sheet.blocks k → ⊥) where
  opened_by : (k : ℕ) (o : Option Block) (s : Statement) (rest : Script) → slice_get sheet.blocks k ≡ o → Then s rest ≡ begun_at sheet k → Opened sheet s rest
  opened_by k None s rest h e = let none = script_nowhere sheet k h in absurd (cc (e, none))
  opened_by k (Some b) s rest h e = let there = script_there sheet acyclic k b h in record { number = k; block = b; first = cc (e, there); next = cc (e, there); whole = e }

  opened : (o : Option ℕ) (s : Statement) (rest : Script) → Then s rest ≡ script sheet o → Opened sheet s rest
  opened None s rest e = let none = script-none sheet in absurd (cc (e, none))
  opened (Some k) s rest e = opened_by k (slice_get sheet.blocks k) s rest refl e

  mutual
    begun : (s : Script) (o : Option ℕ) → s ≡ script sheet o → Begun (begun_at sheet) s
    begun End o e = tt
    begun (Then s rest) o e =
        let r = opened o s rest e in
        (r.whole ∙ ap (λ t. begun_at sheet (place_of t).block) (sym r.first), begun_under s r.number r.block r.first, begun rest (target_of_link r.block.next) r.next)

    begun_under : (s : Statement) (k : ℕ) (b : Block) → s ≡ statement sheet k b → BegunUnder (begun_at sheet) s
    begun_under (Does place command inputs under) k b e = begun_in under (branches b) (cc e)

    begun_in : (bs : Branches) (xs : List (List ℕ × Option ℕ)) → bs ≡ branches_by (script sheet) xs → BegunIn (begun_at sheet) bs
    begun_in NoBranch xs e = tt
    begun_in (AndBranch name s more) [] e = absurd (cc e)
    begun_in (AndBranch name s more) ((other, o) ∷ xs) e = (begun s o (cc e), begun_in more xs (cc e))

  -- Heads

  head_by : (k : ℕ) (b : Block) (c d : Bool) → IfSome (cond c (cond d (Some (head_of sheet k b)) None) None) (λ h. Begun (begun_at sheet) h.script)
  head_by k b true true = begun (script sheet (target_of_link b.next)) (target_of_link b.next) refl
  head_by k b true false = tt
  head_by k b false d = tt

  pub heads_begun : Each (λ h. Begun (begun_at sheet) h.script) (heads_of sheet)
  heads_begun = each_filter_map (Stands sheet) (λ h. Begun (begun_at sheet) h.script) (hat_at sheet) (enumerate_from 0 sheet.blocks) (λ x g. head_by x.0 x.1 (is_head x.1) (has_role role.Hat x.1.code)) (each_enumerated (Stands sheet) 0 sheet.blocks (λ k j b e g. subst (λ n. slice_get sheet.blocks n ≡ Some b) (let s : j ≡ k = omega arith in s) g))

  -- Procedures

  body_by : (k : ℕ) (o : Option Prototype) → IfSome (procedure_by sheet k o) (λ q. Begun (begun_at sheet) q.body)
  body_by k None = tt
  body_by k (Some q) = begun (script sheet (Some k)) (Some k) refl

  pub bodies_begun : Each (λ q. Begun (begun_at sheet) q.body) (procedures_of sheet)
  bodies_begun = procedures_each sheet (λ q. Begun (begun_at sheet) q.body) (λ k b g e. body_by k (linked_prototype sheet (named custom_block b.inputs)))

-- Programs

module _ (tables : List (List Block)) (f : Found (List (List (List Resolved)))) (acyclic : (t k : ℕ) (blocks : List Block) → slice_get tables t ≡ Some blocks → IsCyclic blocks k → ⊥) where
  abbrev told : (t k : ℕ) → Script
  told t k = begun_at (sheet_of f.what (t, unwrap_or (slice_get tables t) [])) k

  same_told : (t : ℕ) (blocks : List Block) → slice_get tables t ≡ Some blocks → begun_at (sheet_of f.what (t, blocks)) ≡ told t
  same_told t blocks e = ap (λ o. begun_at (sheet_of f.what (t, unwrap_or o []))) (sym e)

  pub program_tells : BlocksTell (program tables f)
  program_tells = record {
    at = told;
    heads = λ t. scripts_have tables f (λ s. Each (λ h. Begun (told t) h.script) s.heads) t tt (λ blocks e. subst (λ at. Each (λ h. Begun at h.script) (heads_of (sheet_of f.what (t, blocks)))) (same_told t blocks e) (heads_begun (sheet_of f.what (t, blocks)) (λ k. acyclic t k blocks e)));
    procedures = λ t. scripts_have tables f (λ s. Each (λ q. Begun (told t) q.body) s.procedures) t tt (λ blocks e. subst (λ at. Each (λ q. Begun at q.body) (procedures_of (sheet_of f.what (t, blocks)))) (same_told t blocks e) (bodies_begun (sheet_of f.what (t, blocks)) (λ k. acyclic t k blocks e)));
  }
