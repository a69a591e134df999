-- What one variable or list more changes in the records.
use Rattle.std.proofs.Common.{◌≡◌, ℕ, ◌+◌, ◌<◌, ◌≤◌, Bool, length, get_or, set, Option, Some, None, refl, sym, ap, ◌∙◌, subst, arith}
use Rattle.std.specs.Prelude.{unwrap_or, position}
use Rattle.std.proofs.lemmas.List.{length_push, length-set, get_or-set_same, get_or-set_other}
use Rattle.std.proofs.lemmas.List.Folds.{position_or_len-set}
use Rattle.std.proofs.lemmas.Option.{slice_get-get_or, unwrap_or-slice_get}
use Rattle.scratch_values.specs.declared.names.VarName.{VarName}
use Rattle.scratch_values.specs.declared.names.VarRef.{VarRef}
use Rattle.machine_spec.specs.Lists.{set_some, changed_at}
use Rattle.machine_spec.specs.Program.{Records, no_target, record_at, stage_number}
use Rattle.machine_spec.specs.declared.records.VariableRecord.{VariableRecord}
use Rattle.machine_spec.specs.declared.records.ListRecord.{ListRecord}
use Rattle.machine_spec.specs.declared.records.TargetRecord.{TargetRecord}
use Rattle.project_spec.specs.Resolving.{Sort, OfVariable, OfList, Naming, names_of, found_in, with_added, or_added, resolved_name}
use Rattle.name_resolving.specs.Room.{holdings}
use Rattle.name_resolving.specs.Passing.{Grows}
use Rattle.name_resolving.specs.Scope.{added_at}

stage-kept : (s : Sort) (name : VarName) (t : TargetRecord) → (with_added s name t).is_stage ≡ t.is_stage
stage-kept OfVariable name t = refl
stage-kept OfList name t = refl

holdings-added : (s : Sort) (name : VarName) (t : TargetRecord) → holdings (with_added s name t) ≡ holdings t + 1
holdings-added OfVariable name t = omega (arith, length_push {X = VariableRecord})
holdings-added OfList name t = omega (arith, length_push {X = ListRecord})

module _ (s : Sort) (name : VarName) (t : ℕ) (records : Records) (held : t < length records.targets) where
  changed : changed_at (with_added s name) t records.targets ≡ set records.targets t (with_added s name (get_or records.targets t no_target))
  changed = ap (λ o. set_some o (with_added s name) t records.targets) (slice_get-get_or records.targets t no_target held)

  pub length-added : length (added_at s name t records).targets ≡ length records.targets
  length-added = ap length changed ∙ length-set records.targets t _

  pub record_at-added : record_at t (added_at s name t records) ≡ with_added s name (record_at t records)
  record_at-added =
      let old = unwrap_or-slice_get records.targets t no_target in
      unwrap_or-slice_get (added_at s name t records).targets t no_target ∙ ap (λ ts. get_or ts t no_target) changed ∙ get_or-set_same records.targets t _ no_target held ∙ ap (with_added s name) (sym old)

  pub record_at-other : (k : ℕ) → (k ≡ t → ⊥) → record_at k (added_at s name t records) ≡ record_at k records
  record_at-other k apart =
      let old = unwrap_or-slice_get records.targets k no_target in
      unwrap_or-slice_get (added_at s name t records).targets k no_target ∙ ap (λ ts. get_or ts k no_target) changed ∙ get_or-set_other records.targets t k _ no_target apart ∙ sym old

  position-kept : (p : TargetRecord → Bool) → p (with_added s name (get_or records.targets t no_target)) ≡ p (get_or records.targets t no_target) → position p (added_at s name t records).targets ≡ position p records.targets
  position-kept p e =
      let place = position_or_len-set p records.targets t (with_added s name (get_or records.targets t no_target)) no_target e in
      ap (position p) changed ∙ rw (place, length-set records.targets t (with_added s name (get_or records.targets t no_target))) refl

  pub stage_number-added : stage_number (added_at s name t records) ≡ stage_number records
  stage_number-added = ap (λ o. unwrap_or o 0) (position-kept (λ target. target.is_stage) (stage-kept s name (get_or records.targets t no_target)))

  pub holdings-added_at : holdings (record_at t (added_at s name t records)) ≡ holdings (record_at t records) + 1
  holdings-added_at = ap holdings record_at-added ∙ holdings-added s name (record_at t records)

-- the records after a name was resolved
pub grows-added : (s : Sort) (name : VarName) (t : ℕ) (records : Records) → t < length records.targets → Grows t records (added_at s name t records) 1
grows-added s name t records held = record {
  count = length-added s name t records held;
  others = record_at-other s name t records held;
  more = let e = holdings-added_at s name t records held in omega (arith, e);
}

pub grows-none : (t : ℕ) (records : Records) (n : ℕ) → Grows t records records n
grows-none t records n = record { count = refl; others = λ k apart. refl; more = omega arith }

pub grows-more : (t : ℕ) (a b c : Records) (n m k : ℕ) → Grows t a b n → Grows t b c m → n + m ≤ k → Grows t a c k
grows-more t a b c n m k g h l = record {
  count = h.count ∙ g.count;
  others = λ j apart. h.others j apart ∙ g.others j apart;
  more = let p = g.more in let q = h.more in omega (arith, p, q, l);
}

found-grows : (o : Option VarRef) (t : ℕ) (n : Naming) (records : Records) → t < length records.targets → Grows t records (or_added o t n records).records 1
found-grows None t n records held = grows-added n.sort n.name t records held
found-grows (Some ref) t n records held = grows-none t records 1

pub grows-resolved : (t : ℕ) (n : Naming) (records after : Records) (ref : VarRef) → t < length records.targets → resolved_name t n records ≡ record { records = after; what = ref } → Grows t records after 1
grows-resolved t n records after ref held e = subst (λ f. Grows t records f 1) (ap (λ f. f.records) e) (found-grows (found_in (names_of n.sort (record_at t records)) (names_of n.sort (record_at (stage_number records) records)) n.name) t n records held)
