-- What the blocks of a file name when their names are resolved: variables and lists that are there.
use Rattle.std.proofs.Common.{◌≡◌, ℕ, zero, suc, ◌+◌, ◌<◌, ◌≤◌, Bool, true, false, cond, List, [], ◌∷◌, length, refl, ap, ◌∙◌, subst, arith, length-append}
use Rattle.std.specs.Prelude.{nat_lt, slice_get, unwrap_or, position, Option, None, Some, option_map, IfSome}
use Rattle.std.specs.List.{position_or_len}
use Rattle.std.specs.Option.{option_or}
use Rattle.std.proofs.lemmas.Bool.{ltb-true}
use Rattle.std.proofs.lemmas.List.{length-map}
use Rattle.scratch_values.specs.declared.names.VarName.{VarName}
use Rattle.scratch_values.specs.declared.names.VarRef.{VarRef}
use Rattle.scratch_values.specs.declared.names.VarRef.TheVariants.{Own, Stage}
use Rattle.machine_spec.specs.Program.{Records, no_target, record_at, stage_number}
use Rattle.machine_spec.specs.declared.records.VariableRecord.{VariableRecord}
use Rattle.machine_spec.specs.declared.records.ListRecord.{ListRecord}
use Rattle.machine_spec.specs.declared.records.TargetRecord.{TargetRecord}
use Rattle.project_spec.specs.declared.blocks.Block.{Block}
use Rattle.project_spec.specs.declared.blocks.Resolved.{Resolved}
use Rattle.project_spec.specs.Resolving.{Sort, OfVariable, OfList, Naming, same_id, same_name, names_of, found_in, with_added, or_added, resolved_name, resolved_names, names_in, namings, resolved_blocks, resolved_targets}
use Rattle.laws_of_programs.proofs.Added.{added, changed_there, Grows, grows_none, grows_more, grows_added, Names, names_stay}

-- What is kept by each name that is added is kept by all

module _ (P : Records → Type 0) (keep : (s : Sort) (name : VarName) (t : ℕ) (records : Records) → P records → P (added s name t records)) where
  added_keeps : (o : Option VarRef) (t : ℕ) (n : Naming) (records : Records) → P records → P (or_added o t n records).records
  added_keeps None t n records h = keep n.sort n.name t records h
  added_keeps (Some ref) t n records h = h

  pub name_keeps : (t : ℕ) (n : Naming) (records : Records) → P records → P (resolved_name t n records).records
  name_keeps t n records h = added_keeps (found_in (names_of n.sort (record_at t records)) (names_of n.sort (record_at (stage_number records) records)) n.name) t n records h

  pub names_keep : (t : ℕ) (ns : List Naming) (records : Records) → P records → P (resolved_names t ns records).records
  names_keep t [] records h = h
  names_keep t (n ∷ ns) records h = names_keep t ns (resolved_name t n records).records (name_keeps t n records h)

  pub blocks_keep : (checked : ℕ → Bool) (t k : ℕ) (bs : List Block) (records : Records) → P records → P (resolved_blocks checked t k bs records).records
  blocks_keep checked t k [] records h = h
  blocks_keep checked t k (b ∷ bs) records h = blocks_keep checked t (k + 1) bs (resolved_names t (names_in (checked k) b) records).records (names_keep t (names_in (checked k) b) records h)

  pub targets_keep : (checked : ℕ → ℕ → Bool) (t : ℕ) (tables : List (List Block)) (records : Records) → P records → P (resolved_targets checked t tables records).records
  targets_keep checked t [] records h = h
  targets_keep checked t (bs ∷ more) records h = targets_keep checked (t + 1) more (resolved_blocks (checked t) t 0 bs records).records (blocks_keep (checked t) t 0 bs records h)

growing : (a : Records) (s : Sort) (name : VarName) (t : ℕ) (records : Records) → Grows a records → Grows a (added s name t records)
growing a s name t records g = grows_more a records (added s name t records) g (grows_added s name t records)

pub grows_name : (t : ℕ) (n : Naming) (records : Records) → Grows records (resolved_name t n records).records
grows_name t n records = name_keeps (Grows records) (growing records) t n records (grows_none records)

pub grows_names : (t : ℕ) (ns : List Naming) (records : Records) → Grows records (resolved_names t ns records).records
grows_names t ns records = names_keep (Grows records) (growing records) t ns records (grows_none records)

pub grows_blocks : (checked : ℕ → Bool) (t k : ℕ) (bs : List Block) (records : Records) → Grows records (resolved_blocks checked t k bs records).records
grows_blocks checked t k bs records = blocks_keep (Grows records) (growing records) checked t k bs records (grows_none records)

pub grows_targets : (checked : ℕ → ℕ → Bool) (t : ℕ) (tables : List (List Block)) (records : Records) → Grows records (resolved_targets checked t tables records).records
grows_targets checked t tables records = targets_keep (Grows records) (growing records) checked t tables records (grows_none records)

-- What is found is there

module _ {A : Type 0} (p : A → Bool) where
  position_by : (c : Bool) (n m : ℕ) → nat_lt n m ≡ c → IfSome (cond c (Some n) None) (λ j. j < m)
  position_by true n m e = ltb-true n m e
  position_by false n m e = tt

  position_there : (xs : List A) → IfSome (position p xs) (λ j. j < length xs)
  position_there xs = position_by (nat_lt (position_or_len p xs) (length xs)) (position_or_len p xs) (length xs) refl

mapped : (P : VarRef → Type 0) (m : ℕ) (f : ℕ → VarRef) (o : Option ℕ) → IfSome o (λ j. j < m) → ((j : ℕ) → j < m → P (f j)) → IfSome (option_map f o) P
mapped P m f None h g = tt
mapped P m f (Some j) h g = g j h

or_has : (P : VarRef → Type 0) (a b : Option VarRef) → IfSome a P → IfSome b P → IfSome (option_or a b) P
or_has P None b h g = g
or_has P (Some x) b h g = h

found_has : (P : VarRef → Type 0) (own stage : List VarName) (wanted : VarName) → ((j : ℕ) → j < length own → P (Own j)) → ((j : ℕ) → j < length stage → P (Stage j)) → IfSome (found_in own stage wanted) P
found_has P own stage wanted f g =
    or_has P _ _ (mapped P (length own) Own (position (same_id wanted) own) (position_there (same_id wanted) own) f)
    (or_has P _ _ (mapped P (length stage) Stage (position (same_id wanted) stage) (position_there (same_id wanted) stage) g)
    (or_has P _ _ (mapped P (length own) Own (position (same_name wanted) own) (position_there (same_name wanted) own) f)
    (mapped P (length stage) Stage (position (same_name wanted) stage) (position_there (same_name wanted) stage) g)))

own_named : (s : Sort) (t : ℕ) (records : Records) (j : ℕ) → j < length (names_of s (record_at t records)) → Names s records t (Own j)
own_named OfVariable t records j h = omega (arith, h, length-map (record_at t records).variables (λ (v : VariableRecord). v.name))
own_named OfList t records j h = omega (arith, h, length-map (record_at t records).lists (λ (l : ListRecord). l.name))

stage_named : (s : Sort) (t : ℕ) (records : Records) (j : ℕ) → j < length (names_of s (record_at (stage_number records) records)) → Names s records t (Stage j)
stage_named OfVariable t records j h = own_named OfVariable (stage_number records) records j h
stage_named OfList t records j h = own_named OfList (stage_number records) records j h

added_named : (s : Sort) (name : VarName) (t : ℕ) (records : Records) → t < length records.targets → Names s (added s name t records) t (Own (length (names_of s (record_at t records))))
added_named OfVariable name t records h =
    let e = ap (λ (r : TargetRecord). length r.variables) (changed_there (with_added OfVariable name) no_target records.targets t h) in
    omega (arith, e, length-map (record_at t records).variables (λ (v : VariableRecord). v.name), length-append {A = VariableRecord})
added_named OfList name t records h =
    let e = ap (λ (r : TargetRecord). length r.lists) (changed_there (with_added OfList name) no_target records.targets t h) in
    omega (arith, e, length-map (record_at t records).lists (λ (l : ListRecord). l.name), length-append {A = ListRecord})

name_by : (o : Option VarRef) (t : ℕ) (n : Naming) (records : Records) → t < length records.targets → IfSome o (Names n.sort records t) → Names n.sort (or_added o t n records).records t (or_added o t n records).what
name_by None t n records l h = added_named n.sort n.name t records l
name_by (Some ref) t n records l h = h

name_named : (t : ℕ) (n : Naming) (records : Records) → t < length records.targets → Names n.sort (resolved_name t n records).records t (resolved_name t n records).what
name_named t n records l =
    name_by (found_in (names_of n.sort (record_at t records)) (names_of n.sort (record_at (stage_number records) records)) n.name) t n records l
    (found_has (Names n.sort records t) (names_of n.sort (record_at t records)) (names_of n.sort (record_at (stage_number records) records)) n.name (own_named n.sort t records) (stage_named n.sort t records))

-- What the blocks name

-- what was found for each name is there
abbrev pub Match : Records → (target : ℕ) → List Naming → List Resolved → Type 0
Match records t [] [] = Unit {0}
Match records t [] (r ∷ rs) = ⊥
Match records t (n ∷ ns) [] = ⊥
Match records t (n ∷ ns) (r ∷ rs) = (r.in_input ≡ n.in_input) × (r.part ≡ n.part) × Names n.sort records t r.variable × Match records t ns rs

match_stays : (a b : Records) (t : ℕ) (ns : List Naming) (rs : List Resolved) → Grows a b → Match a t ns rs → Match b t ns rs
match_stays a b t [] [] g h = tt
match_stays a b t [] (r ∷ rs) g h = absurd h
match_stays a b t (n ∷ ns) [] g h = absurd h
match_stays a b t (n ∷ ns) (r ∷ rs) g h = (h.0, h.1, names_stay n.sort a b t r.variable g h.2, match_stays a b t ns rs g h.3)

names_match : (t : ℕ) (ns : List Naming) (records : Records) → t < length records.targets → Match (resolved_names t ns records).records t ns (resolved_names t ns records).what
names_match t [] records l = tt
names_match t (n ∷ ns) records l =
    let one = resolved_name t n records in
    let g = grows_name t n records in
    (refl, refl, names_stay n.sort one.records (resolved_names t ns one.records).records t one.what (grows_names t ns one.records) (name_named t n records l), names_match t ns one.records (let c = g.count in omega (arith, c, l)))

abbrev pub MatchBlocks : Records → (checked : ℕ → Bool) → (target k : ℕ) → List Block → List (List Resolved) → Type 0
MatchBlocks records checked t k [] [] = Unit {0}
MatchBlocks records checked t k [] (r ∷ rs) = ⊥
MatchBlocks records checked t k (b ∷ bs) [] = ⊥
MatchBlocks records checked t k (b ∷ bs) (r ∷ rs) = Match records t (names_in (checked k) b) r × MatchBlocks records checked t (k + 1) bs rs

blocks_stay : (a b : Records) (checked : ℕ → Bool) (t k : ℕ) (bs : List Block) (rs : List (List Resolved)) → Grows a b → MatchBlocks a checked t k bs rs → MatchBlocks b checked t k bs rs
blocks_stay a b checked t k [] [] g h = tt
blocks_stay a b checked t k [] (r ∷ rs) g h = absurd h
blocks_stay a b checked t k (x ∷ bs) [] g h = absurd h
blocks_stay a b checked t k (x ∷ bs) (r ∷ rs) g h = (match_stays a b t (names_in (checked k) x) r g h.0, blocks_stay a b checked t (k + 1) bs rs g h.1)

blocks_match : (checked : ℕ → Bool) (t k : ℕ) (bs : List Block) (records : Records) → t < length records.targets → MatchBlocks (resolved_blocks checked t k bs records).records checked t k bs (resolved_blocks checked t k bs records).what
blocks_match checked t k [] records l = tt
blocks_match checked t k (b ∷ bs) records l =
    let one = resolved_names t (names_in (checked k) b) records in
    let g = grows_names t (names_in (checked k) b) records in (
      match_stays one.records (resolved_blocks checked t (k + 1) bs one.records).records t (names_in (checked k) b) one.what (grows_blocks checked t (k + 1) bs one.records) (names_match t (names_in (checked k) b) records l),
      blocks_match checked t (k + 1) bs one.records (let c = g.count in omega (arith, c, l)),
    )

abbrev pub MatchTargets : Records → (checked : ℕ → ℕ → Bool) → (t : ℕ) → List (List Block) → List (List (List Resolved)) → Type 0
MatchTargets records checked t [] [] = Unit {0}
MatchTargets records checked t [] (r ∷ rs) = ⊥
MatchTargets records checked t (bs ∷ more) [] = ⊥
MatchTargets records checked t (bs ∷ more) (r ∷ rs) = MatchBlocks records (checked t) t 0 bs r × MatchTargets records checked (t + 1) more rs

pub targets_match : (checked : ℕ → ℕ → Bool) (t : ℕ) (tables : List (List Block)) (records : Records) → t + length tables ≤ length records.targets → MatchTargets (resolved_targets checked t tables records).records checked t tables (resolved_targets checked t tables records).what
targets_match checked t [] records l = tt
targets_match checked t (bs ∷ more) records l =
    let one = resolved_blocks (checked t) t 0 bs records in
    let g = grows_blocks (checked t) t 0 bs records in (
      blocks_stay one.records (resolved_targets checked (t + 1) more one.records).records (checked t) t 0 bs one.what (grows_targets checked (t + 1) more one.records) (blocks_match (checked t) t 0 bs records (omega arith)),
      targets_match checked (t + 1) more one.records (let c = g.count in omega (arith, c, l)),
    )

-- at a block
block_matches : (records : Records) (checked : ℕ → Bool) (t k i : ℕ) (bs : List Block) (rs : List (List Resolved)) (b : Block) → slice_get bs i ≡ Some b → MatchBlocks records checked t k bs rs → Match records t (names_in (checked (k + i)) b) (unwrap_or (slice_get rs i) [])
block_matches records checked t k i [] rs b e h = absurd (cc e)
block_matches records checked t k i (x ∷ bs) [] b e h = absurd h
block_matches records checked t k zero (x ∷ bs) (r ∷ rs) b e h =
    let s : x ≡ b = cc in
    subst (λ y. Match records t (names_in (checked (k + 0)) y) r) s (subst (λ n. Match records t (names_in (checked n) x) r) (let z : k ≡ k + 0 = omega arith in z) h.0)
block_matches records checked t k (suc i) (x ∷ bs) (r ∷ rs) b e h =
    subst (λ n. Match records t (names_in (checked n) b) (unwrap_or (slice_get rs i) [])) (let z : k + 1 + i ≡ k + suc i = omega arith in z) (block_matches records checked t (k + 1) i bs rs b e h.1)

target_matches : (records : Records) (checked : ℕ → ℕ → Bool) (t i : ℕ) (tables : List (List Block)) (rs : List (List (List Resolved))) (bs : List Block) → slice_get tables i ≡ Some bs → MatchTargets records checked t tables rs → MatchBlocks records (checked (t + i)) (t + i) 0 bs (unwrap_or (slice_get rs i) [])
target_matches records checked t i [] rs bs e h = absurd (cc e)
target_matches records checked t i (x ∷ more) [] bs e h = absurd h
target_matches records checked t zero (x ∷ more) (r ∷ rs) bs e h =
    let s : x ≡ bs = cc in
    subst (λ y. MatchBlocks records (checked (t + 0)) (t + 0) 0 y r) s (subst (λ n. MatchBlocks records (checked n) n 0 x r) (let z : t ≡ t + 0 = omega arith in z) h.0)
target_matches records checked t (suc i) (x ∷ more) (r ∷ rs) bs e h =
    subst (λ n. MatchBlocks records (checked n) n 0 bs (unwrap_or (slice_get rs i) [])) (let z : t + 1 + i ≡ t + suc i = omega arith in z) (target_matches records checked (t + 1) i more rs bs e h.1)

-- what a block that is checked names is there
pub checked_matches : (records : Records) (checked : ℕ → ℕ → Bool) (tables : List (List Block)) (rs : List (List (List Resolved))) (t k : ℕ) (bs : List Block) (b : Block) → MatchTargets records checked 0 tables rs → slice_get tables t ≡ Some bs → slice_get bs k ≡ Some b → checked t k ≡ true → Match records t (namings b) (unwrap_or (slice_get (unwrap_or (slice_get rs t) []) k) [])
checked_matches records checked tables rs t k bs b h e g c =
    let one : MatchBlocks records (checked t) t 0 bs (unwrap_or (slice_get rs t) []) = subst (λ n. MatchBlocks records (checked n) n 0 bs (unwrap_or (slice_get rs t) [])) (let z : 0 + t ≡ t = omega arith in z) (target_matches records checked 0 t tables rs bs e h) in
    let two = block_matches records (checked t) t 0 k bs (unwrap_or (slice_get rs t) []) b g one in
    subst (λ x. Match records t (names_in x b) (unwrap_or (slice_get (unwrap_or (slice_get rs t) []) k) [])) (ap (checked t) (let z : 0 + k ≡ k = omega arith in z) ∙ c) two
