-- The file in which nothing is too many, and what is told of another.
use Rattle.std.specs.Prelude.{◌≡◌, ℕ, ◌<◌, ◌^◌, List, [], ◌∷◌, length, map, codes, flat_map, None, Some, Result, Ok, Err}
use Rattle.std.specs.List.{enumerate_from}
use Rattle.project_json.specs.Tree.{Tree}
use Rattle.project_json.specs.Text.{IsText, max_depth}
use Rattle.machine_spec.specs.Program.{Records}
use Rattle.project_spec.specs.declared.refusals.Refusal.{Refusal}
use Rattle.project_spec.specs.declared.refusals.Refusal.TheVariants as refusal
use Rattle.project_spec.specs.Limits.{Measure, measure, most_targets, most_monitors, counts_from, table_measures, blocks_place, first_too_many, too_many}
use Rattle.project_spec.specs.Reading.{Table, File, file_of}
use Rattle.project_spec.specs.Refusals.{stage_count, IsFileRefusal}
use Rattle.block_table.specs.Table.{Numbered, numbered}
use Rattle.block_table.specs.declared.refusal.BlockRefusal.{BlockRefusal}
use Rattle.block_table.specs.declared.refusal.BlockRefusal.TheVariants as block_refusal
use Rattle.target_records.specs.declared.refusal.RecordRefusal.{RecordRefusal}
use Rattle.target_records.specs.declared.refusal.RecordRefusal.TheVariants as record_refusal
use Rattle.target_records.specs.Records.{records_in}
use Rattle.project_check.specs.declared.sizes.Measured.{Measured}

-- how many targets, monitors and blocks there are
abbrev pub counts_in : File → List Measure
counts_in f =
    measure (codes "targets" ∷ []) (length f.records.targets) most_targets
    ∷ measure (codes "monitors" ∷ []) (length f.records.monitors) most_monitors
    ∷ counts_from 0 (enumerate_from 0 f.tables)

-- the texts of the blocks of targets from number t on
abbrev pub texts_from : ℕ → List Table → List Measure
texts_from t tables = flat_map (λ x. table_measures (blocks_place x.0) x.1) (enumerate_from t tables)

-- A refusal tells the path of the first that is too much. Where memory ran out nothing is claimed.
abbrev pub Stops : Refusal → List Measure → Type 0
Stops (refusal.TooMany path) measures = first_too_many measures ≡ Some path
Stops refusal.NoMemory measures = Unit {0}
Stops _ measures = ⊥

-- a test of measures answers well where none is too much
abbrev pub Measures : {A : Type 0} → Result A Refusal → List Measure → Type 0
Measures (Ok a) measures = first_too_many measures ≡ None
Measures (Err r) measures = Stops r measures

-- what was returned, seen by view, is the whole, and nothing of it is too much
abbrev pub Bounds : {A B : Type 0} → (A → B) → Result A Refusal → B → List Measure → Type 0
Bounds view (Ok a) whole measures = (view a ≡ whole) × (first_too_many measures ≡ None)
Bounds view (Err r) whole measures = Stops r measures

-- a refusal tells that what is counted at a path is too many, or that memory ran out
abbrev pub IsTooManyAt : List ℕ → Refusal → Type 0
IsTooManyAt path (refusal.TooMany told) = told ≡ path
IsTooManyAt path refusal.NoMemory = Unit {0}
IsTooManyAt path _ = ⊥

-- a refusal of records, and of blocks, as one of the file
abbrev pub of_records : RecordRefusal → Refusal
of_records (record_refusal.Shape path) = refusal.Shape path
of_records (record_refusal.StageCount n) = refusal.StageCount n
of_records (record_refusal.TooMany path) = refusal.TooMany path
of_records record_refusal.NoMemory = refusal.NoMemory

abbrev pub of_blocks : BlockRefusal → Refusal
of_blocks (block_refusal.Shape path) = refusal.Shape path
of_blocks (block_refusal.TooLong path) = refusal.TooMany path
of_blocks block_refusal.NoMemory = refusal.NoMemory

-- the file's records and blocks, in which nothing is too many; or its refusal, before its blocks are tested
abbrev pub IsMeasured : File → Result Measured Refusal → Type 0
IsMeasured f (Ok m) = (stage_count f ≡ 1) × (too_many f ≡ None) × (records_in m.records ≡ f.records) × (m.tables.items ≡ map numbered f.tables)
IsMeasured f (Err refusal.NoMemory) = Unit {0}
IsMeasured f (Err r) = IsFileRefusal f r

-- the bytes are those of a file in which nothing is too many, and these are its records and its blocks with their ids
pub record IsRead (bytes : List ℕ) (found : Records) (held : List Numbered) : Type 0 where
  pub small : length bytes < 2 ^ 32
  pub document : Tree
  pub text : IsText max_depth bytes document
  pub file : File
  pub tells : file_of document ≡ Ok file
  pub stage : stage_count file ≡ 1
  pub few : too_many file ≡ None
  pub records : found ≡ file.records
  pub tables : held ≡ map numbered file.tables
