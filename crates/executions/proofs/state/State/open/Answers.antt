-- There is no thread, and the instances are the originals.
use Rattle.std.proofs.Common.{ap, ◌∙◌, arith}
use Rattle.machine_spec.specs.Program.{Records}
use Rattle.machine_spec.specs.Stores.{Variables}
use Rattle.variables.specs.First.{stores_of}
use Rattle.targets.specs.First.{first_instances}
use Rattle.executions.proofs.Keeping.{none_idle}
use Rattle.executions.proofs.People.{first_people, first_none}
use Rattle.executions.proofs.state.State.open.Goals as goal

pub returns-clause-kept : goal.returns-clause-kept
returns-clause-kept g c =
    let p = c.args.project.now in
    none_idle p _ c.in_ok-new-2.ensures (omega arith)
    (first_people p c.target_count.result c.target_count.ensures c.in_ok-open.field-0 (c.in_ok-open.ensures ∙ ap (λ (r : Records). first_instances r.targets) c.records-records.ensures.records))
    (first_none p c.target_count.result c.target_count.ensures c.in_ok-open-2.field-0 (ap (λ (v : Variables). v.stores) c.in_ok-open-2.ensures ∙ ap (λ (r : Records). stores_of r.targets) c.records-records.ensures.records))
