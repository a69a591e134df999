-- What a project shows, and what loading answers.
use Rattle.std.specs.Prelude.{◌≡◌, ℕ, ◌<◌, ◌^◌, Bool, false, List, length, map, slice_get, unwrap_or, [], Result, Ok, Err}
use Rattle.machine_spec.specs.Program.{Program, Records}
use Rattle.project_spec.specs.declared.blocks.Block.{Block}
use Rattle.project_spec.specs.declared.blocks.Resolved.{Resolved}
use Rattle.project_spec.specs.Basis.{Basis}
use Rattle.project_spec.specs.Resolving.{resolved_targets}
use Rattle.project_spec.specs.Trees.{Sheet, program}
use Rattle.project_spec.specs.Refusals.{IsRefusal}
use Rattle.project_spec.specs.declared.refusals.Refusal.{Refusal}
use Rattle.project_spec.specs.declared.refusals.Refusal.TheVariants as refusal
use Rattle.project_spec.specs.declared.refusals.Refusal.TheVariants.{NoMemory}
use Rattle.project_json.specs.declared.refusal.JsonRefusal.{JsonRefusal}
use Rattle.project_json.specs.declared.refusal.JsonRefusal.TheVariants as json
use Rattle.json_shapes.specs.declared.fault.Fault.{Fault}
use Rattle.json_shapes.specs.declared.fault.Fault.TheVariants as fault
use Rattle.target_records.specs.Records.{records_in}
use Rattle.block_checks.specs.Kept.{Kept}
use Rattle.project_check.specs.declared.project.Project.{Project}
use Rattle.project_check.specs.Told.{IsTold}

-- the blocks of each target, in file order
abbrev pub tables_of : Project → List (List Block)
tables_of p = map (λ t. t.blocks) p.tables.items

-- the ids of the blocks of each target, each at the number of its block
abbrev pub ids_of : Project → List (List (List ℕ))
ids_of p = map (λ t. t.ids) p.tables.items

-- what each block of each target names
abbrev pub names_of : Project → List (List (List Resolved))
names_of p = p.names

-- of each target, the ranks of its blocks and which of them are checked
abbrev pub links_of : Project → List Kept
links_of p = p.links.items

-- the ranks of the blocks of a target
abbrev pub ranks_at : ℕ → Project → List ℕ
ranks_at t p = unwrap_or (slice_get (map (λ l. l.ranks) (links_of p)) t) []

-- the program: the records, the heads with their scripts, the procedures
abbrev pub program_of : Project → Program
program_of p = program (tables_of p) (record { records = records_in p.records; what = names_of p })

-- the program, and how many blocks each target has
abbrev pub basis_of : Project → Basis
basis_of p = record { program = program_of p; blocks = map length (tables_of p) }

-- the blocks of a target
abbrev pub blocks_at : ℕ → Project → List Block
blocks_at t p = unwrap_or (slice_get (tables_of p) t) []

-- the ids of the blocks of a target
abbrev pub ids_at : ℕ → Project → List (List ℕ)
ids_at t p = unwrap_or (slice_get (ids_of p) t) []

-- what the blocks of a target name
abbrev pub names_at : ℕ → Project → List (List Resolved)
names_at t p = unwrap_or (slice_get (names_of p) t) []

-- the blocks of a target, and what they name
abbrev pub sheet_at : ℕ → Project → Sheet
sheet_at t p = record { target = t; blocks = blocks_at t p; refs = names_at t p }

-- the bytes are those of a file that is accepted, which tells the project: its blocks with their ids, its program, and what
-- each block names
abbrev pub IsLoaded : List ℕ → Project → Type 0
IsLoaded bytes p = IsTold bytes (records_in p.records) p.tables.items p.names

-- whether a block of a target is flagged
abbrev pub checked_by : List Kept → ℕ → ℕ → Bool
checked_by links t k = unwrap_or (slice_get (unwrap_or (slice_get (map (λ l. l.checked) links) t) []) k) false

-- the names in flagged blocks were resolved
pub record Resolves (links : List Kept) (tables : List (List Block)) (old new : Records) (resolved : List (List (List Resolved))) : Type 0 where
  pub checked : ℕ → ℕ → Bool
  pub flags : (t k : ℕ) → checked t k ≡ checked_by links t k
  pub is : resolved_targets checked 0 tables old ≡ record { records = new; what = resolved }

-- a refusal of a reader as one of the file
abbrev pub of_json : JsonRefusal → Refusal
of_json (json.NotUtf8 at) = refusal.Json (json.NotUtf8 at)
of_json (json.Syntax at) = refusal.Json (json.Syntax at)
of_json (json.TooDeep at) = refusal.Json (json.TooDeep at)
of_json json.NoMemory = NoMemory

abbrev pub of_fault : Fault → Refusal
of_fault (fault.Shape path) = refusal.Shape path
of_fault fault.NoMemory = NoMemory

-- a project that the bytes tell, or the one refusal; where memory ran out nothing is claimed
abbrev pub Loads : List ℕ → Result Project Refusal → Type 0
Loads bytes (Ok p) = IsLoaded bytes p
Loads bytes (Err NoMemory) = Unit {0}
Loads bytes (Err r) = IsRefusal bytes r

-- every project, once in hand, is loaded of some bytes, fewer than 2^32
abbrev pub EachIsLoaded : Type 0
EachIsLoaded = (p : Project) → ∥ ((bytes : List ℕ) × (length bytes < 2 ^ 32) × IsLoaded bytes p) ∥₁
