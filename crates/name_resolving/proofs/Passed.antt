-- Names resolved one after another.
use Rattle.std.proofs.Common.{◌≡◌, List, [], ◌∷◌, ◌++◌, length, refl, sym, ap, ◌∙◌, subst, append_assoc, append-nil, arith, length-append}
use Rattle.scratch_values.specs.declared.names.VarRef.{VarRef}
use Rattle.machine_spec.specs.Program.{Records}
use Rattle.project_spec.specs.declared.blocks.Resolved.{Resolved}
use Rattle.project_spec.specs.Resolving.{Naming, Found, and_then, before, resolved_name, resolved_names}
use Rattle.name_resolving.specs.declared.scope.Scope.{Scope}
use Rattle.name_resolving.specs.Scope.{IsScope}
use Rattle.name_resolving.specs.Passing.{onto, Grows, Passes}
use Rattle.name_resolving.proofs.Added.{grows-none, grows-more, grows-resolved}

-- what a naming leads to
abbrev pub resolved : Naming → VarRef → Resolved
resolved n ref = record { in_input = n.in_input; part = n.part; variable = ref }

pub onto-more : {A : Type 0} (done : List A) (a : A) (f : Found (List A)) → onto done (before a f) ≡ onto (done ++ a ∷ []) f
onto-more done a f = ap (λ w. record { records = f.records; what = w }) (sym (append_assoc done (a ∷ []) f.what))

pub passes-none : (scope : Scope) (records : Records) (done : List Resolved) → IsScope scope records → Passes scope scope [] records done records done
passes-none scope records done is = record { resolves = λ rest. refl; scope = is; target = refl; grows = grows-none scope.target records 0 }

pub passes-one : (old new : Scope) (n : Naming) (records after : Records) (ref : VarRef) (done : List Resolved) → IsScope old records → resolved_name old.target n records ≡ record { records = after; what = ref } → IsScope new after → new.target ≡ old.target
    → Passes old new (n ∷ []) records done after (done ++ resolved n ref ∷ [])
passes-one old new n records after ref done was e is same = record {
  resolves = λ rest. ap (λ f. onto done (and_then f (λ r rs. before (resolved n r) (resolved_names old.target rest rs)))) e ∙ onto-more done (resolved n ref) (resolved_names old.target rest after);
  scope = is;
  target = same;
  grows = grows-resolved old.target n records after ref was.held e;
}

pub passes-more : (a b c : Scope) (ns ms : List Naming) (r s t : Records) (x y z : List Resolved) → Passes a b ns r x s y → Passes b c ms s y t z → Passes a c (ns ++ ms) r x t z
passes-more a b c ns ms r s t x y z p q = record {
  resolves = λ rest. ap (λ l. onto x (resolved_names a.target l r)) (append_assoc ns ms rest) ∙ p.resolves (ms ++ rest) ∙ subst (λ k. onto y (resolved_names k (ms ++ rest) s) ≡ onto z (resolved_names k rest t)) p.target (q.resolves rest);
  scope = q.scope;
  target = q.target ∙ p.target;
  grows = grows-more a.target r s t (length ns) (length ms) (length (ns ++ ms)) p.grows (subst (λ k. Grows k s t (length ms)) p.target q.grows) (let l = length-append ns ms in omega (arith, l));
}

-- all names of a block
pub passes-all : (old new : Scope) (ns : List Naming) (records after : Records) (all : List Resolved) → Passes old new ns records [] after all → resolved_names old.target ns records ≡ record { records = after; what = all }
passes-all old new ns records after all p =
    ap (λ l. resolved_names old.target l records) (sym (append-nil ns)) ∙ p.resolves [] ∙ ap (λ w. record { records = after; what = w }) (append-nil all)
