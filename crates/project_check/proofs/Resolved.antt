-- What resolving keeps, and which blocks it takes for checked.
use Rattle.std.proofs.Common.{◌≡◌, ℕ, zero, suc, ◌+◌, ◌<◌, ◌^◌, arith, Bool, true, false, List, [], ◌∷◌, length, map, Option, Some, None, refl, sym, ap, ◌∙◌, subst}
use Rattle.std.specs.Prelude.{slice_get, unwrap_or, option_map}
use Rattle.std.specs.Borrow.{Bor}
use Rattle.std.specs.List.{All, AllZip, sum_by, slice_index_or}
use Rattle.std.proofs.lemmas.List.{length-set, length-map}
use Rattle.std.proofs.lemmas.Option.{slice_get-map}
use Rattle.machine_spec.specs.Lists.{set_some, changed_at}
use Rattle.machine_spec.specs.Program.{Records, record_at, stage_number}
use Rattle.scratch_values.specs.declared.names.VarRef.{VarRef}
use Rattle.block_table.specs.declared.table.BlockTable.{BlockTable}
use Rattle.project_spec.specs.declared.blocks.Block.{Block}
use Rattle.project_spec.specs.declared.blocks.Resolved.{Resolved}
use Rattle.project_spec.specs.Refusals.{tests, Passes, TellsChecked}
use Rattle.project_spec.specs.Resolving.{Naming, found_in, names_of, or_added, resolved_name, resolved_names, names_in, resolved_blocks, resolved_targets}
use Rattle.block_checks.specs.Kept.{Kept, IsKept}
use Rattle.block_checks.proofs.Lists.{zip_length, zip_at}
use Rattle.name_resolving.specs.Blocks.{flags_by, flag_of}
use Rattle.hat_index.specs.declared.index.HatIndex.{HatIndex}
use Rattle.hat_index.specs.Index.{found, IsIndex}
use Rattle.project_check.specs.Loaded.{checked_by, Resolves}
use Rattle.project_check.specs.Counts.{block_count}
use Rattle.project_check.specs.Heads.{head_numbers}
use Rattle.cached_blocks.specs.declared.block.CachedBlock.{CachedBlock}
use Rattle.project_check.specs.Kept.{CachesAll, IsProjectOf}
use Rattle.target_records.specs.Costumes.{IsDressed}
use Rattle.project_check.proofs.Room.{sum_by-map}
use Rattle.project_check.proofs.Dressed.{targets-dressed}

-- the flags, as they are lent

by_option : (o : Option (Bor (List Bool))) → flags_by o ≡ unwrap_or (option_map (λ f. f.now) o) []
by_option None = refl
by_option (Some f) = refl

pub flags_same : (flags : List (Bor (List Bool))) (links : List Kept) → map (λ f. f.now) flags ≡ map (λ k. k.checked) links → (t k : ℕ) → flag_of flags t k ≡ checked_by links t k
flags_same flags links e t k =
    let row : flags_by (slice_get flags t) ≡ unwrap_or (slice_get (map (λ (x : Kept). x.checked) links) t) [] =
    by_option (slice_get flags t)
    ∙ ap (λ o. unwrap_or o []) (sym (slice_get-map (λ (f : Bor (List Bool)). f.now) flags t))
    ∙ ap (λ xs. unwrap_or (slice_get xs t) []) e in
    ap (λ r. unwrap_or (slice_get r k) false) row

-- the flags tell what is checked

zip_found : {A B : Type 0} (R : A → B → Type 0) (xs : List A) (ys : List B) (t : ℕ) (x : A) → AllZip R xs ys → slice_get xs t ≡ Some x → (y : B) × (slice_get ys t ≡ Some y) × R x y
zip_found R [] [] t x z h = absurd (cc h)
zip_found R [] (b ∷ ys) t x z h = absurd z
zip_found R (a ∷ xs) [] t x z h = absurd z
zip_found R (a ∷ xs) (b ∷ ys) zero x z h = let same : a ≡ x = cc h in (b, refl, subst (λ v. R v b) same z.0)
zip_found R (a ∷ xs) (b ∷ ys) (suc t) x z h = zip_found R xs ys t x z.1 h

some_true : (o : Option Bool) → unwrap_or o false ≡ true → o ≡ Some true
some_true None e = absurd (cc e)
some_true (Some b) e = ap Some e

flag_at : (links : List Kept) (t k : ℕ) (kept : Kept) → slice_get links t ≡ Some kept → checked_by links t k ≡ unwrap_or (slice_get kept.checked k) false
flag_at links t k kept h =
    let row : slice_get (map (λ (x : Kept). x.checked) links) t ≡ Some kept.checked = slice_get-map (λ (x : Kept). x.checked) links t ∙ ap (option_map (λ (x : Kept). x.checked)) h in
    ap (λ o. unwrap_or (slice_get (unwrap_or o []) k) false) row

pub tells_checked : (tables : List (List Block)) (links : List Kept) (checked : ℕ → ℕ → Bool) → AllZip IsKept tables links → ((t k : ℕ) → checked t k ≡ checked_by links t k) → TellsChecked tables checked
tells_checked tables links checked z same t k blocks h =
    let found = zip_found IsKept tables links t blocks z h in
    let flag : checked t k ≡ unwrap_or (slice_get found.0.checked k) false = same t k ∙ flag_at links t k found.0 found.1 in (
      λ e. found.2.checked.sound k (some_true (slice_get found.0.checked k) (sym flag ∙ e)),
      λ c. flag ∙ ap (λ o. unwrap_or o false) (found.2.checked.complete k c),
    )

-- how many targets there are, and for how many blocks something is told

length-set_some : {A : Type 0} (o : Option A) (f : A → A) (t : ℕ) (xs : List A) → length (set_some o f t xs) ≡ length xs
length-set_some None f t xs = refl
length-set_some (Some x) f t xs = length-set xs t (f x)

length-changed_at : {A : Type 0} (f : A → A) (t : ℕ) (xs : List A) → length (changed_at f t xs) ≡ length xs
length-changed_at f t xs = length-set_some (slice_get xs t) f t xs

name_added : (o : Option VarRef) (t : ℕ) (n : Naming) (records : Records) → length (or_added o t n records).records.targets ≡ length records.targets
name_added (Some ref) t n records = refl
name_added None t n records = length-changed_at _ t records.targets

names-targets : (t : ℕ) (ns : List Naming) (records : Records) → length (resolved_names t ns records).records.targets ≡ length records.targets
names-targets t [] records = refl
names-targets t (n ∷ ns) records =
    names-targets t ns (resolved_name t n records).records
    ∙ name_added (found_in (names_of n.sort (record_at t records)) (names_of n.sort (record_at (stage_number records) records)) n.name) t n records

blocks-targets : (checked : ℕ → Bool) (t k : ℕ) (bs : List Block) (records : Records) → length (resolved_blocks checked t k bs records).records.targets ≡ length records.targets
blocks-targets checked t k [] records = refl
blocks-targets checked t k (b ∷ bs) records =
    blocks-targets checked t (k + 1) bs (resolved_names t (names_in (checked k) b) records).records ∙ names-targets t (names_in (checked k) b) records

pub targets-targets : (checked : ℕ → ℕ → Bool) (t : ℕ) (tables : List (List Block)) (records : Records) → length (resolved_targets checked t tables records).records.targets ≡ length records.targets
targets-targets checked t [] records = refl
targets-targets checked t (bs ∷ more) records =
    targets-targets checked (t + 1) more (resolved_blocks (checked t) t 0 bs records).records ∙ blocks-targets (checked t) t 0 bs records

blocks-length : (checked : ℕ → Bool) (t k : ℕ) (bs : List Block) (records : Records) → length (resolved_blocks checked t k bs records).what ≡ length bs
blocks-length checked t k [] records = refl
blocks-length checked t k (b ∷ bs) records = ap suc (blocks-length checked t (k + 1) bs (resolved_names t (names_in (checked k) b) records).records)

pub targets-length : (checked : ℕ → ℕ → Bool) (t : ℕ) (tables : List (List Block)) (records : Records) → length (resolved_targets checked t tables records).what ≡ length tables
targets-length checked t [] records = refl
targets-length checked t (bs ∷ more) records = ap suc (targets-length checked (t + 1) more (resolved_blocks (checked t) t 0 bs records).records)

pub targets-each : (checked : ℕ → ℕ → Bool) (t : ℕ) (tables : List (List Block)) (records : Records) (i : ℕ) (blocks : List Block) (refs : List (List Resolved))
    → slice_get tables i ≡ Some blocks → slice_get (resolved_targets checked t tables records).what i ≡ Some refs → length refs ≡ length blocks
targets-each checked t [] records i blocks refs h k = absurd (cc h)
targets-each checked t (bs ∷ more) records zero blocks refs h k =
    let same : bs ≡ blocks = cc h in
    let told : (resolved_blocks (checked t) t 0 bs records).what ≡ refs = cc k in
    ap length (sym told) ∙ blocks-length (checked t) t 0 bs records ∙ ap length same
targets-each checked t (bs ∷ more) records (suc i) blocks refs h k = targets-each checked (t + 1) more (resolved_blocks (checked t) t 0 bs records).records i blocks refs h k

-- what a project keeps, from what was tested and resolved
pub keeps : (old new : Records) (tables : List (List Block)) (links : List Kept) (names : List (List (List Resolved))) (cached : List (List CachedBlock)) (heads : List (List ℕ)) (total : ℕ)
    → length old.targets ≡ length tables → All IsDressed old.targets → length tables < 2 ^ 32 → All (Passes tables) tests → AllZip IsKept tables links → Resolves links tables old new names → CachesAll tables names cached
    → heads ≡ map head_numbers tables → total ≡ block_count tables → IsProjectOf new tables links names cached heads total
keeps old new tables links names cached heads total same dressed few passes kept res caches numbers count = record {
  targets = sym (ap (λ f. length f.records.targets) res.is) ∙ targets-targets res.checked 0 tables old ∙ same;
  dressed = subst (λ f. All IsDressed f.records.targets) res.is (targets-dressed res.checked 0 tables old dressed);
  few = few;
  tests = passes;
  links = sym (zip_length IsKept tables links kept);
  ranks = λ t blocks k h g. (zip_at IsKept tables links t blocks k kept h g).ranks;
  names = sym (ap (λ f. length f.what) res.is) ∙ targets-length res.checked 0 tables old;
  each = λ t blocks refs h g. targets-each res.checked 0 tables old t blocks refs h (ap (λ f. slice_get f.what t) res.is ∙ g);
  caches = caches;
  heads = numbers;
  count = count;
}

-- the tables as they are lent

pub heads_of : (heads : List (List ℕ)) (lent tables : List BlockTable) → lent ≡ tables → heads ≡ map head_numbers (map (λ b. b.blocks) lent) → heads ≡ map head_numbers (map (λ b. b.blocks) tables)
heads_of heads lent tables e h = h ∙ ap (λ ts. map head_numbers (map (λ b. b.blocks) ts)) e

pub indexed_of : (index : HatIndex) (heads held : List (List ℕ)) (lent tables : List BlockTable) → lent ≡ tables → held ≡ heads → heads ≡ map head_numbers (map (λ b. b.blocks) tables)
    → IsIndex (found index) (map (λ b. b.blocks) lent) held → IsIndex (found index) (map (λ b. b.blocks) tables) (map head_numbers (map (λ b. b.blocks) tables))
indexed_of index heads held lent tables e f numbers is =
    subst (λ hs. IsIndex (found index) (map (λ b. b.blocks) tables) hs) (f ∙ numbers) (subst (λ ts. IsIndex (found index) (map (λ b. b.blocks) ts) held) e is)

pub as_many_heads : (heads held : List (List ℕ)) (lent tables : List BlockTable) → lent ≡ tables → held ≡ heads → heads ≡ map head_numbers (map (λ b. b.blocks) tables) → length held ≡ length lent
as_many_heads heads held lent tables e f numbers =
    ap length (f ∙ numbers) ∙ length-map (map (λ b. b.blocks) tables) head_numbers ∙ length-map tables (λ b. b.blocks) ∙ ap length (sym e)

pub count_of : (total : ℕ) (lent tables : List BlockTable) → lent ≡ tables → total ≡ sum_by (λ b. length b.blocks) lent → total ≡ block_count (map (λ b. b.blocks) tables)
count_of total lent tables e h = h ∙ ap (sum_by (λ (b : BlockTable). length b.blocks)) e ∙ sym (sum_by-map length (λ (b : BlockTable). b.blocks) tables)

pub blocks_here : (tables : List BlockTable) (t : ℕ) (table : BlockTable) → t < length (map (λ b. b.blocks) tables) → table ≡ slice_index_or tables t table → unwrap_or (slice_get (map (λ b. b.blocks) tables) t) [] ≡ table.blocks
blocks_here [] t table h e = absurd (omega (arith, h))
blocks_here (x ∷ xs) zero table h e = sym (ap (λ b. b.blocks) e)
blocks_here (x ∷ xs) (suc t) table h e = blocks_here xs t table (omega (arith, h)) e

pub as_many_names : (old new : Records) (tables : List (List Block)) (links : List Kept) (names : List (List (List Resolved))) → Resolves links tables old new names → length names ≡ length tables
as_many_names old new tables links names res = sym (ap (λ f. length f.what) res.is) ∙ targets-length res.checked 0 tables old
