-- No thread before the place gets a slice.
use Rattle.std.proofs.Common.{◌≡◌, drop}
use Rattle.machine_spec.specs.Slice as machine
use Rattle.project_check.specs.declared.project.Project.{Project}
use Rattle.executions.specs.Seen.{seen_threads}
use Rattle.frames.proofs.thread_visits.next_place.Given as goal

abbrev pub invariant-loop-place : goal.invariant-loop-place
invariant-loop-place l = record {
  same : (p : Project) → machine.next_place l.first l.from (drop l.from (seen_threads p l.threads).list) ≡ machine.next_place l.first l.place (drop l.place (seen_threads p l.threads).list);
}
