-- What reading a document answers, beside the records that it tells.
use Rattle.std.specs.Prelude.{◌≡◌, ◌≢◌, ℕ, List, [], ◌∷◌, ◌++◌, length, codes, None, Some, Result, Ok, Err}
use Rattle.std.specs.List.{count_by}
use Rattle.machine_spec.specs.Program as program
use Rattle.project_spec.specs.Limits.{Measure, measure, most_targets, most_monitors, first_too_many}
use Rattle.target_records.specs.declared.records.Records.{Records}
use Rattle.target_records.specs.declared.refusal.RecordRefusal.{RecordRefusal}
use Rattle.target_records.specs.declared.refusal.RecordRefusal.TheVariants.{Shape, StageCount, TooMany, NoMemory}
use Rattle.target_records.specs.Records.{records_in}
use Rattle.target_records.specs.Bounds.{lengths_in}

-- how many targets are the stage
abbrev pub stages_in : program.Records → ℕ
stages_in r = count_by (λ t. t.is_stage) r.targets

-- how many targets and monitors there are
abbrev pub counts_in : program.Records → List Measure
counts_in r = measure (codes "targets" ∷ []) (length r.targets) most_targets ∷ measure (codes "monitors" ∷ []) (length r.monitors) most_monitors ∷ []

-- all that is counted in records, in the order of the tests
abbrev pub record_measures : program.Records → List Measure
record_measures r = counts_in r ++ lengths_in r.targets

-- Shapes come first, then the number of stages, then what is too many. Where memory ran out nothing is claimed.
abbrev pub Answers : Result Records RecordRefusal → Result program.Records (List ℕ) → Type 0
Answers (Ok r) told = (told ≡ Ok (records_in r)) × (stages_in (records_in r) ≡ 1) × (first_too_many (record_measures (records_in r)) ≡ None)
Answers (Err (Shape path)) told = told ≡ Err path
Answers (Err (StageCount n)) told = (r : program.Records) × (told ≡ Ok r) × (stages_in r ≢ 1) × (n ≡ stages_in r)
Answers (Err (TooMany path)) told = (r : program.Records) × (told ≡ Ok r) × (stages_in r ≡ 1) × (first_too_many (record_measures r) ≡ Some path)
Answers (Err NoMemory) told = Unit {0}
