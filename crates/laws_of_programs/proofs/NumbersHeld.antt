-- The numbers of the program of an accepted file are within the limit.
use Rattle.std.proofs.Common.{◌≡◌, ℕ, zero, suc, ◌<◌, ◌^◌, Bool, true, false, cond, List, [], ◌∷◌, length, map, refl, sym, subst, arith}
use Rattle.std.specs.Prelude.{slice_get, Option, None, Some, IfSome}
use Rattle.std.specs.List.{filter_map, cons_option}
use Rattle.scratch_values.specs.declared.names.VarName.{VarName}
use Rattle.machine_spec.specs.Script.{Script, Expression}
use Rattle.machine_spec.specs.Program.{Program, Procedure, Records}
use Rattle.machine_spec.specs.declared.records.VariableRecord.{VariableRecord}
use Rattle.machine_spec.specs.declared.records.ListRecord.{ListRecord}
use Rattle.machine_spec.specs.declared.records.TargetRecord.{TargetRecord}
use Rattle.project_spec.specs.declared.blocks.Code.{Code}
use Rattle.project_spec.specs.declared.blocks.Code.TheVariants.{Known, Other}
use Rattle.project_spec.specs.declared.blocks.Link.TheVariants.{To, Unknown}
use Rattle.project_spec.specs.declared.blocks.Input.{Input}
use Rattle.project_spec.specs.declared.blocks.Input.TheVariants as input
use Rattle.project_spec.specs.declared.blocks.Mutation.{Mutation}
use Rattle.project_spec.specs.declared.blocks.Mutation.TheVariants as mutation
use Rattle.project_spec.specs.declared.blocks.Operand.{Operand}
use Rattle.project_spec.specs.declared.blocks.Block.{Block}
use Rattle.project_spec.specs.declared.blocks.Prototype.{Prototype}
use Rattle.project_spec.specs.declared.blocks.Resolved.{Resolved}
use Rattle.project_spec.specs.Linked.{custom_block, named}
use Rattle.project_spec.specs.Reading.{File, Table, blocks_in}
use Rattle.project_spec.specs.Refusals.{IsAccepted, IsProgram}
use Rattle.project_spec.specs.Resolving.{Sort, OfVariable, OfList, Found, with_added, resolved_targets}
use Rattle.project_spec.specs.Trees.{Sheet, is_apart, operand_by, operand, inputs_by, expression_by, block_expression, expression_within, expression, statement_by, prototype_at, linked_prototype, procedure_by, procedures_of, sheet_of}
use Rattle.laws_of_threads.specs.Lists.{Each}
use Rattle.laws_of_threads.proofs.Numbers.{each_map, each_append}
use Rattle.laws_of_turns.specs.Within.{IsValueWithin, IsExpressionWithin, AreInputsWithin, IsStatementWithin, IsTargetWithin, IsProgramWithin}
use Rattle.laws_of_programs.proofs.Added.{each_changed}
use Rattle.laws_of_programs.proofs.BlocksRead.{IsInputWithin, IsMutationWithin, IsBlockWithin, IsTableWithin}
use Rattle.laws_of_programs.proofs.FilesRead.{IsLoaded, loaded}
use Rattle.laws_of_programs.proofs.NamesHeld.{targets_keep}
use Rattle.laws_of_programs.proofs.Reached.{procedures_each, scripts_have, everywhere}

pub each_at : {A : Type 0} (P : A → Type 0) (xs : List A) (k : ℕ) → Each P xs → IfSome (slice_get xs k) P
each_at P [] k h = tt
each_at P (x ∷ xs) zero h = h.0
each_at P (x ∷ xs) (suc k) h = each_at P xs k h.1

some_has : {A : Type 0} (P : A → Type 0) (o : Option A) (x : A) → o ≡ Some x → IfSome o P → P x
some_has P None x e h = absurd (cc e)
some_has P (Some y) x e h = let s : y ≡ x = cc in subst P s h

pub each_has : {A : Type 0} (P : A → Type 0) (xs : List A) (k : ℕ) (x : A) → slice_get xs k ≡ Some x → Each P xs → P x
each_has P xs k x e h = some_has P (slice_get xs k) x e (each_at P xs k h)

-- Targets

target_added : (s : Sort) (name : VarName) (t : TargetRecord) → IsTargetWithin t → IsTargetWithin (with_added s name t)
target_added OfVariable name t h = record {
  x = h.x;
  y = h.y;
  direction = h.direction;
  size = h.size;
  volume = h.volume;
  variables = each_append (λ (v : VariableRecord). IsValueWithin v.value) t.variables _ h.variables (omega arith, tt);
  lists = h.lists;
}
target_added OfList name t h = record {
  x = h.x;
  y = h.y;
  direction = h.direction;
  size = h.size;
  volume = h.volume;
  variables = h.variables;
  lists = each_append (λ (l : ListRecord). Each IsValueWithin l.items) t.lists _ h.lists (tt, tt);
}

pub targets_kept : (P : TargetRecord → Type 0) → ((s : Sort) (name : VarName) (t : TargetRecord) → P t → P (with_added s name t)) → (checked : ℕ → ℕ → Bool) (t : ℕ) (tables : List (List Block)) (records : Records) → Each P records.targets → Each P (resolved_targets checked t tables records).records.targets
targets_kept P keep checked t tables records h =
    targets_keep (λ r. Each P r.targets) (λ s name k r g. each_changed (with_added s name) P (keep s name) r.targets k g) checked t tables records h

-- Expressions

module _ (sheet : Sheet) (within : Each IsBlockWithin sheet.blocks) where
  operand_within : (k : ℕ) (name : List ℕ) (x : Input) (go : ℕ → Expression) (rest : List (List ℕ × Operand)) → ((j : ℕ) → IsExpressionWithin (go j)) → IsInputWithin (name, x) → AreInputsWithin (inputs_by go rest) → AreInputsWithin (inputs_by go (cons_option (operand_by sheet k name x) rest))
  operand_within k name (input.Literal v) go rest e h g = (h, g)
  operand_within k name (input.Reporter (To j)) go rest e h g = (e j, g)
  operand_within k name (input.Reporter (Unknown id)) go rest e h g = g
  operand_within k name (input.Variable n) go rest e h g = (tt, g)
  operand_within k name (input.List n) go rest e h g = (tt, g)
  operand_within k name input.Absent go rest e h g = g

  apart_by : (c : Bool) (k : ℕ) (name : List ℕ) (x : Input) (go : ℕ → Expression) (rest : List (List ℕ × Operand)) → ((j : ℕ) → IsExpressionWithin (go j)) → IsInputWithin (name, x) → AreInputsWithin (inputs_by go rest) → AreInputsWithin (inputs_by go (cons_option (cond c None (operand_by sheet k name x)) rest))
  apart_by true k name x go rest e h g = g
  apart_by false k name x go rest e h g = operand_within k name x go rest e h g

  inputs_within : (k : ℕ) (go : ℕ → Expression) → ((j : ℕ) → IsExpressionWithin (go j)) → (xs : List (List ℕ × Input)) → Each IsInputWithin xs → AreInputsWithin (inputs_by go (filter_map (operand sheet k) xs))
  inputs_within k go e [] h = tt
  inputs_within k go e ((name, x) ∷ xs) h = apart_by (is_apart name) k name x go (filter_map (operand sheet k) xs) e h.0 (inputs_within k go e xs h.1)

  code_within : (c : Code) (k : ℕ) (b : Block) (go : ℕ → Expression) → ((j : ℕ) → IsExpressionWithin (go j)) → IsBlockWithin b → IsExpressionWithin (expression_by c sheet k b go)
  code_within (Known op) k b go e h = inputs_within k go e b.inputs h.inputs
  code_within (Other name) k b go e h = tt

  block_by : (o : Option Block) (k : ℕ) (go : ℕ → Expression) → ((j : ℕ) → IsExpressionWithin (go j)) → IfSome o IsBlockWithin → IsExpressionWithin (block_expression sheet k o go)
  block_by None k go e h = tt
  block_by (Some b) k go e h = code_within b.code k b go e h

  cut_within : (n k : ℕ) → IsExpressionWithin (expression_within sheet n k)
  unfolding expression_within
  cut_within zero k = tt
  cut_within (suc n) k = block_by (slice_get sheet.blocks k) k (expression_within sheet n) (cut_within n) (each_at IsBlockWithin sheet.blocks k within)

  expression_is_within : (k : ℕ) → IsExpressionWithin (expression sheet k)
  unfolding expression
  expression_is_within k = cut_within (length sheet.blocks) k

  pub statement_within : (t k : ℕ) (b : Block) (go : Option ℕ → Script) → slice_get sheet.blocks k ≡ Some b → IsStatementWithin t (statement_by sheet k b (expression sheet) go)
  statement_within t k b go e = inputs_within k (expression sheet) expression_is_within b.inputs (each_has IsBlockWithin sheet.blocks k b e within).inputs

  -- Defaults

  abbrev HasDefaultsWithin : Procedure → Type 0
  HasDefaultsWithin q = Each IsValueWithin q.defaults

  declared_by : (c : Block) (m : Mutation) → c.mutation ≡ m → IsMutationWithin m → IfSome (prototype_at (Some c)) (λ q. Each IsValueWithin q.defaults)
  declared_by c mutation.None e h = rw e tt
  declared_by c (mutation.Prototype q) e h = rw e h
  declared_by c (mutation.Call code) e h = rw e tt
  declared_by c (mutation.Bad r) e h = rw e tt

  prototype_has : (o : Option Block) → IfSome o IsBlockWithin → IfSome (prototype_at o) (λ q. Each IsValueWithin q.defaults)
  prototype_has None h = tt
  prototype_has (Some c) h = declared_by c c.mutation refl h.mutation

  linked_has : (o : Option Input) → IfSome (linked_prototype sheet o) (λ q. Each IsValueWithin q.defaults)
  linked_has None = tt
  linked_has (Some (input.Reporter (To j))) = prototype_has (slice_get sheet.blocks j) (each_at IsBlockWithin sheet.blocks j within)
  linked_has (Some (input.Reporter (Unknown id))) = tt
  linked_has (Some (input.Literal v)) = tt
  linked_has (Some (input.Variable n)) = tt
  linked_has (Some (input.List n)) = tt
  linked_has (Some input.Absent) = tt

  procedure_has : (k : ℕ) (o : Option Prototype) → IfSome o (λ q. Each IsValueWithin q.defaults) → IfSome (procedure_by sheet k o) HasDefaultsWithin
  procedure_has k None h = tt
  procedure_has k (Some q) h = h

  pub defaults_within : Each HasDefaultsWithin (procedures_of sheet)
  defaults_within = procedures_each sheet HasDefaultsWithin (λ k b g e. procedure_has k (linked_prototype sheet (named custom_block b.inputs)) (linked_has (named custom_block b.inputs)))

-- Programs

each_of_tables : (tables : List Table) → Each IsTableWithin tables → Each (Each IsBlockWithin) (map (λ t. t.blocks) tables)
each_of_tables [] h = tt
each_of_tables (t ∷ ts) h = (h.0, each_of_tables ts h.1)

pub program_within : (bytes : List ℕ) (f : File) (p : Program) → length bytes < 2 ^ 32 → IsAccepted bytes f → IsProgram f p → IsProgramWithin p
program_within bytes f p l a is = subst IsProgramWithin (sym is.is) (record {
  targets = targets_kept IsTargetWithin target_added is.checked 0 (blocks_in f) f.records (each_map _ IsTargetWithin f.records.targets (λ r h. h.within) good.targets);
  statements = everywhere (blocks_in f) found IsStatementWithin (λ t k blocks b go e c g. statement_within (sheet_of found.what (t, blocks)) (of_target t blocks e) t k b go g);
  defaults = λ t. scripts_have (blocks_in f) found (λ s. Each (λ q. Each IsValueWithin q.defaults) s.procedures) t tt (λ blocks e. defaults_within (sheet_of found.what (t, blocks)) (of_target t blocks e));
})
  where
    good : IsLoaded f
    good = loaded bytes f l a

    found : Found (List (List (List Resolved)))
    found = resolved_targets is.checked 0 (blocks_in f) f.records

    of_target : (t : ℕ) (blocks : List Block) → slice_get (blocks_in f) t ≡ Some blocks → Each IsBlockWithin blocks
    of_target t blocks e = each_has (Each IsBlockWithin) (blocks_in f) t blocks e (each_of_tables f.tables good.tables)
