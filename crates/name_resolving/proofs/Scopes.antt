-- A scope after a name was added.
use Rattle.std.proofs.Common.{◌≡◌, ℕ, ◌==◌, Bool, true, false, length, refl, sym, ◌∙◌, subst, arith}
use Rattle.std.proofs.lemmas.Bool.Decides.{nat_tests}
use Rattle.scratch_values.specs.declared.names.VarName.{VarName}
use Rattle.machine_spec.specs.Program.{Records, record_at, stage_number}
use Rattle.project_spec.specs.Resolving.{Sort, names_of}
use Rattle.name_resolving.specs.declared.scope.Scope.{Scope}
use Rattle.name_resolving.specs.Directory.{IsDirectory}
use Rattle.name_resolving.specs.Scope.{added_at, IsScope, AddsIf, NotesName}
use Rattle.name_resolving.proofs.Added.{length-added, record_at-added, record_at-other, stage_number-added}

module _ (old new : Scope) (s : Sort) (name : VarName) (number : ℕ) (records : Records) (is : IsScope old records) (last : number ≡ length (names_of s (record_at old.target records))) where
  stage_is : (b : Bool) → old.is_stage ≡ b → AddsIf b old.stage new.stage s name number → IsDirectory new.stage (record_at (stage_number records) (added_at s name old.target records))
  stage_is true e adds =
      let same : old.target ≡ stage_number records = let z : (old.target == stage_number records) ≡ true = sym is.stage_is ∙ e in grind (arith, nat_tests) in
      let own : IsDirectory old.stage (record_at old.target records) = subst (λ k. IsDirectory old.stage (record_at k records)) (sym same) is.stage in
      let more = subst (IsDirectory new.stage) (sym (record_at-added s name old.target records is.held)) (adds (record_at old.target records) own last) in
      subst (λ k. IsDirectory new.stage (record_at k (added_at s name old.target records))) same more
  stage_is false e kept =
      let apart : stage_number records ≡ old.target → ⊥ = λ same. (let z : (old.target == stage_number records) ≡ false = sym is.stage_is ∙ e in grind (arith, nat_tests)) in
      let other = record_at-other s name old.target records is.held (stage_number records) apart in
      subst (λ d. IsDirectory d (record_at (stage_number records) (added_at s name old.target records))) (sym kept) (subst (IsDirectory old.stage) (sym other) is.stage)

  pub scope-added : NotesName old new s name number → IsScope new (added_at s name old.target records)
  scope-added notes =
      let number_is = stage_number-added s name old.target records is.held in
      let own = notes.own (record_at old.target records) is.own last in
      record {
        held = let l = length-added s name old.target records is.held in let a = notes.target in let b = is.held in omega (arith, l, a, b);
        stage_is = notes.is_stage ∙ is.stage_is ∙ rw (notes.target, number_is) refl;
        own = subst (λ k. IsDirectory new.own (record_at k (added_at s name old.target records))) (sym notes.target) (subst (IsDirectory new.own) (sym (record_at-added s name old.target records is.held)) own);
        stage = subst (λ k. IsDirectory new.stage (record_at k (added_at s name old.target records))) (sym number_is) (stage_is old.is_stage refl notes.stage);
      }
