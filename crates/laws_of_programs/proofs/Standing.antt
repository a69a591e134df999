-- The statements of a target's scripts stand in it, and the scripts of its procedures are not empty.
use Rattle.std.proofs.Common.{◌≡◌, ℕ, zero, suc, ◌<◌, List, length, refl, sym, subst, arith}
use Rattle.std.specs.Prelude.{slice_get, Option, None, Some, IfSome}
use Rattle.std.proofs.lemmas.Option.{slice_get_within}
use Rattle.machine_spec.specs.Script.{Script, End, Then, Statement, Does, Branches, NoBranch, AndBranch, place_of}
use Rattle.project_spec.specs.declared.blocks.Block.{Block}
use Rattle.project_spec.specs.declared.blocks.Prototype.{Prototype}
use Rattle.project_spec.specs.declared.blocks.Resolved.{Resolved}
use Rattle.project_spec.specs.Linked.{custom_block, named, IsChecked, head}
use Rattle.project_spec.specs.Resolving.{Found}
use Rattle.project_spec.specs.Trees.{Sheet, expression, block_script, script_within, script, heads_of, linked_prototype, procedure_by, procedures_of, sheet_of, program}
use Rattle.laws_of_threads.specs.Lists.{Each}
use Rattle.laws_of_threads.specs.Scripts.{Within, StatementWithin, BranchesWithin, IsThen, IsProcedure, IsProgram}
use Rattle.laws_of_threads.specs.Statements.{EachIn, EachUnder, EachInOne}
use Rattle.laws_of_threads.proofs.Numbers.{each_map}
use Rattle.laws_of_programs.proofs.NumbersHeld.{each_has}
use Rattle.laws_of_programs.proofs.Prototypes.{IsEven, IsEvenBlock, linked_even}
use Rattle.laws_of_programs.proofs.Reached.{script_each, heads_each, procedures_each, scripts_have}

-- the statement stands in the target
abbrev StandsIn : ℕ → Statement → Type 0
StandsIn t s = (place_of s).target ≡ t

mutual
  all_within : (t : ℕ) (s : Script) → EachIn (StandsIn t) s → Within t s
  all_within t End h = tt
  all_within t (Then s rest) h = (statement_within t s h.0 h.1, all_within t rest h.2)

  statement_within : (t : ℕ) (s : Statement) → StandsIn t s → EachUnder (StandsIn t) s → StatementWithin t s
  statement_within t (Does place command inputs under) e h = (e, under_within t under h)

  under_within : (t : ℕ) (bs : Branches) → EachInOne (StandsIn t) bs → BranchesWithin t bs
  under_within t NoBranch h = tt
  under_within t (AndBranch name s more) h = (all_within t s h.0, under_within t more h.1)

-- the script at a block is not empty
begins_by : (sheet : Sheet) (n k : ℕ) (b : Block) → 0 < n → slice_get sheet.blocks k ≡ Some b → IsThen (script_within sheet n (Some k))
unfolding script_within
begins_by sheet zero k b l e = absurd (omega arith)
begins_by sheet (suc n) k b l e = subst (λ o. IsThen (block_script sheet k o (expression sheet) (script_within sheet n))) (sym e) tt

begins : (sheet : Sheet) (k : ℕ) (b : Block) → slice_get sheet.blocks k ≡ Some b → IsThen (script sheet (Some k))
unfolding script
begins sheet k b e = let l = slice_get_within sheet.blocks k b e in begins_by sheet (length sheet.blocks) k b (omega (arith, l)) e

module _ (sheet : Sheet) where
  heads_within : Each (λ h. Within sheet.target h.script) (heads_of sheet)
  heads_within = each_map _ _ (heads_of sheet) (λ h g. all_within sheet.target h.script g.1) (heads_each sheet (StandsIn sheet.target) (λ k b go c g. refl))

  procedure_is : (k : ℕ) (b : Block) (o : Option Prototype) → slice_get sheet.blocks k ≡ Some b → IsChecked sheet.blocks k → IfSome o IsEven → IfSome (procedure_by sheet k o) (IsProcedure sheet.target)
  procedure_is k b None e c h = tt
  procedure_is k b (Some q) e c h = record {
    within = all_within sheet.target (script sheet (Some k)) (script_each sheet (StandsIn sheet.target) (λ j x go d g. refl) (Some k) c);
    begins = begins sheet k b e;
    named = h.named;
    defaulted = h.defaulted;
  }

  procedures_are : Each IsEvenBlock sheet.blocks → Each (IsProcedure sheet.target) (procedures_of sheet)
  procedures_are even = procedures_each sheet (IsProcedure sheet.target) (λ k b g e. procedure_is k b (linked_prototype sheet (named custom_block b.inputs)) g (head g e) (linked_even sheet (named custom_block b.inputs) even))

-- Programs

pub program_legal : (tables : List (List Block)) (f : Found (List (List (List Resolved)))) → Each (Each IsEvenBlock) tables → IsProgram (program tables f)
program_legal tables f even = record {
  heads = λ t. scripts_have tables f (λ s. Each (λ h. Within t h.script) s.heads) t tt (λ blocks e. heads_within (sheet_of f.what (t, blocks)));
  procedures = λ t. scripts_have tables f (λ s. Each (IsProcedure t) s.procedures) t tt (λ blocks e. procedures_are (sheet_of f.what (t, blocks)) (each_has (Each IsEvenBlock) tables t blocks e even));
}
