-- Each target of a file has costumes, and what resolving adds leaves them.
use Rattle.std.proofs.Common.{◌≡◌, ℕ, ◌+◌, ◌<◌, ◌^◌, Bool, List, [], ◌∷◌, get_or, Option, Some, None, Ok, refl, subst, arith}
use Rattle.std.specs.Prelude.{slice_get}
use Rattle.std.specs.List.{All}
use Rattle.std.proofs.lemmas.List.Elements.{All-set}
use Rattle.std.proofs.lemmas.Option.{slice_get_within, slice_get-get_or, get_or_from_slice_get}
use Rattle.project_json.specs.Tree.{Tree}
use Rattle.project_json.specs.Size.{size_of}
use Rattle.scratch_values.specs.declared.names.VarName.{VarName}
use Rattle.scratch_values.specs.declared.names.VarRef.{VarRef}
use Rattle.machine_spec.specs.declared.records.TargetRecord.{TargetRecord}
use Rattle.machine_spec.specs.Lists.{set_some, changed_at}
use Rattle.machine_spec.specs.Program.{Records, record_at, stage_number}
use Rattle.project_spec.specs.declared.blocks.Block.{Block}
use Rattle.project_spec.specs.Reading.{File, file_of}
use Rattle.project_spec.specs.Resolving.{Sort, OfVariable, OfList, Naming, found_in, names_of, with_added, or_added, resolved_name, resolved_names, names_in, resolved_blocks, resolved_targets}
use Rattle.target_records.specs.Costumes.{IsDressed}
use Rattle.project_check.proofs.Room.{few_costumes}

-- Files

pub file-dressed : (t : Tree) (f : File) → file_of t ≡ Ok f → size_of t < 2 ^ 32 → All IsDressed f.records.targets
file-dressed t f h small i d lt =
    let some = few_costumes t f h i (get_or f.records.targets i d) (slice_get-get_or f.records.targets i d lt) in
    (some.0, omega (arith, some.1, small))

-- Resolving

-- a variable or a list that is added leaves the costumes
added-dressed : (s : Sort) (name : VarName) (t : TargetRecord) → IsDressed t → IsDressed (with_added s name t)
added-dressed OfVariable name t h = h
added-dressed OfList name t h = h

get-all : {A : Type 0} (P : A → Type 0) (xs : List A) (k : ℕ) (x : A) → All P xs → slice_get xs k ≡ Some x → P x
get-all P xs k x all e = subst P (get_or_from_slice_get xs k x x e) (all k x (slice_get_within xs k x e))

changed-all : {A : Type 0} (P : A → Type 0) (f : A → A) → ((x : A) → P x → P (f x)) → (k : ℕ) (xs : List A) → All P xs → All P (changed_at f k xs)
changed-all {A = A} P f go k xs all = by (slice_get xs k) (λ x e. get-all P xs k x all e)
  where
    by : (o : Option A) → ((x : A) → o ≡ Some x → P x) → All P (set_some o f k xs)
    by None h = all
    by (Some x) h = All-set P xs k (f x) (go x (h x refl)) all

-- every target has costumes
abbrev AreDressed : Records → Type 0
AreDressed records = All IsDressed records.targets

name-dressed : (o : Option VarRef) (t : ℕ) (naming : Naming) (records : Records) → AreDressed records → AreDressed (or_added o t naming records).records
name-dressed (Some ref) t naming records all = all
name-dressed None t naming records all = changed-all IsDressed (with_added naming.sort naming.name) (added-dressed naming.sort naming.name) t records.targets all

names-dressed : (t : ℕ) (ns : List Naming) (records : Records) → AreDressed records → AreDressed (resolved_names t ns records).records
names-dressed t [] records all = all
names-dressed t (n ∷ ns) records all =
    names-dressed t ns (resolved_name t n records).records (name-dressed (found_in (names_of n.sort (record_at t records)) (names_of n.sort (record_at (stage_number records) records)) n.name) t n records all)

blocks-dressed : (checked : ℕ → Bool) (t k : ℕ) (bs : List Block) (records : Records) → AreDressed records → AreDressed (resolved_blocks checked t k bs records).records
blocks-dressed checked t k [] records all = all
blocks-dressed checked t k (b ∷ bs) records all =
    blocks-dressed checked t (k + 1) bs (resolved_names t (names_in (checked k) b) records).records (names-dressed t (names_in (checked k) b) records all)

pub targets-dressed : (checked : ℕ → ℕ → Bool) (t : ℕ) (tables : List (List Block)) (records : Records) → All IsDressed records.targets → All IsDressed (resolved_targets checked t tables records).records.targets
targets-dressed checked t [] records all = all
targets-dressed checked t (bs ∷ more) records all =
    targets-dressed checked (t + 1) more (resolved_blocks (checked t) t 0 bs records).records (blocks-dressed (checked t) t 0 bs records all)
