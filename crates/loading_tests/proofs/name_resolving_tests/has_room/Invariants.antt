use Rattle.std.proofs.Common.{ℕ, ◌+◌, ◌<◌, ◌^◌, [], map}
use Rattle.std.specs.Prelude.{slice_get, unwrap_or}
use Rattle.std.specs.List.{sum_by}
use Rattle.machine_spec.specs.Program.{record_at}
use Rattle.target_records.specs.Records.{records_in}
use Rattle.name_resolving.specs.Room.{holdings, parts}
use Rattle.loading_tests.proofs.name_resolving_tests.has_room.Given as goal

abbrev pub invariant-loop-t : goal.invariant-loop-t
invariant-loop-t l =
    (k : ℕ) → k < l.t → holdings (record_at k (records_in l.records)) + sum_by parts (unwrap_or (slice_get (map (λ x. x.blocks) l.tables) k) []) < 2 ^ 32
