-- The targets of the program of an accepted file are well, and its blocks of monitors name what is there.
use Rattle.std.proofs.Common.{◌≡◌, ℕ, ◌+◌, ◌<◌, ◌≤◌, ◌^◌, List, [], ◌∷◌, length, refl, sym, ◌∙◌, subst, arith}
use Rattle.std.specs.Prelude.{slice_get, Option, None, Some}
use Rattle.std.specs.List.{count_by}
use Rattle.std.proofs.lemmas.List.{length-map}
use Rattle.scratch_values.specs.declared.names.VarName.{VarName}
use Rattle.machine_spec.specs.Script.{Script}
use Rattle.machine_spec.specs.Program.{Program}
use Rattle.machine_spec.specs.declared.records.TargetRecord.{TargetRecord}
use Rattle.project_spec.specs.declared.blocks.Block.{Block}
use Rattle.project_spec.specs.declared.blocks.Resolved.{Resolved}
use Rattle.project_spec.specs.declared.refusals.Refusal.TheVariants as refusal
use Rattle.project_spec.specs.Linked.{IsChecked, unfit_field}
use Rattle.project_spec.specs.Reading.{File, Table, blocks_in}
use Rattle.project_spec.specs.Refusals.{Fields, Passes, IsAccepted, IsProgram}
use Rattle.project_spec.specs.Resolving.{Sort, OfVariable, OfList, Found, with_added, resolved_targets}
use Rattle.project_spec.specs.Trees.{expression, statement_by, sheet_of}
use Rattle.laws_of_threads.specs.Lists.{Each}
use Rattle.laws_of_threads.specs.Playable.{IsTarget, IsNamed, IsPlayable}
use Rattle.laws_of_threads.proofs.Numbers.{each_append}
use Rattle.laws_of_programs.proofs.Added.{Grows, count_added}
use Rattle.laws_of_programs.proofs.TargetsRead.{IsRead}
use Rattle.laws_of_programs.proofs.FilesRead.{HasShortLists, IsShortList, IsLoaded, loaded}
use Rattle.laws_of_programs.proofs.OneStage.{has_stage}
use Rattle.laws_of_programs.proofs.NamesHeld.{targets_keep, grows_targets, targets_match, checked_matches}
use Rattle.laws_of_programs.proofs.NamesShown.{shows}
use Rattle.laws_of_programs.proofs.NumbersHeld.{targets_kept}
use Rattle.laws_of_programs.proofs.Reached.{everywhere}

-- Targets

target_added : (s : Sort) (name : VarName) (t : TargetRecord) → IsTarget t → IsTarget (with_added s name t)
target_added OfVariable name t h = record { costume = h.costume; few = h.few; size = h.size; direction = h.direction; stage = h.stage; lists = h.lists }
target_added OfList name t h = record { costume = h.costume; few = h.few; size = h.size; direction = h.direction; stage = h.stage; lists = each_append IsShortList t.lists _ h.lists (omega arith, tt) }

targets_are : (ts : List TargetRecord) → Each IsRead ts → Each HasShortLists ts → Each IsTarget ts
targets_are [] h g = tt
targets_are (t ∷ ts) h g = (record { costume = h.0.costume; few = h.0.few; size = h.0.size; direction = h.0.direction; stage = h.0.stage; lists = g.0 }, targets_are ts h.1 g.1)

-- Blocks that pass

fields_fit : (tables : List (List Block)) (t k : ℕ) (blocks : List Block) (b : Block) → Passes tables Fields → slice_get tables t ≡ Some blocks → slice_get blocks k ≡ Some b → IsChecked blocks k → unfit_field b ≡ None
fields_fit tables t k blocks b p e g c = by (unfit_field b) refl
  where
    by : (o : Option (List ℕ)) → unfit_field b ≡ o → o ≡ None
    by None h = refl
    by (Some name) h = absurd (p (record { target = t; block = k }) (refusal.Field (record { target = t; block = k }) name) (record { blocks = blocks; block = b; target = e; held = g; fails = (name, c, h, refl) }))

-- Programs

pub program_playable : (bytes : List ℕ) (f : File) (p : Program) → length bytes < 2 ^ 32 → IsAccepted bytes f → IsProgram f p → IsPlayable p
program_playable bytes f p l a is = subst IsPlayable (sym is.is) (record {
  few = let c = grown.count in omega (arith, c, good.few);
  targets = targets_kept IsTarget target_added is.checked 0 (blocks_in f) f.records (targets_are f.records.targets good.targets good.lists);
  stage = has_stage found.records (targets_keep (λ r. count_by (λ t. t.is_stage) r.targets ≡ 1) (λ s name t r h. count_added s name t r ∙ h) is.checked 0 (blocks_in f) f.records good.stage);
  named = everywhere (blocks_in f) found (IsNamed found.records) names;
})
  where
    good : IsLoaded f
    good = loaded bytes f l a

    found : Found (List (List (List Resolved)))
    found = resolved_targets is.checked 0 (blocks_in f) f.records

    grown : Grows f.records found.records
    grown = grows_targets is.checked 0 (blocks_in f) f.records

    within : 0 + length (blocks_in f) ≤ length f.records.targets
    within = omega (arith, length-map f.tables (λ (t : Table). t.blocks), good.same)

    names : (t k : ℕ) (blocks : List Block) (b : Block) (go : Option ℕ → Script) → slice_get (blocks_in f) t ≡ Some blocks → IsChecked blocks k → slice_get blocks k ≡ Some b → IsNamed found.records t (statement_by (sheet_of found.what (t, blocks)) k b (expression (sheet_of found.what (t, blocks))) go)
    names t k blocks b go e c g =
        shows found.records t (sheet_of found.what (t, blocks)) k b b.code
        (fields_fit (blocks_in f) t k blocks b (a.well.blocks 5 Fields (omega arith)) e g c)
        (checked_matches found.records is.checked (blocks_in f) found.what t k blocks b (targets_match is.checked 0 (blocks_in f) f.records within) e g ((is.tells t k blocks e).1 c))
