-- There is no thread, and the instances are those of the originals.
use Rattle.std.proofs.Common.{◌≡◌, length, ap, ◌∙◌, sym, subst}
use Rattle.std.specs.Prelude.{◌==◌, not, nat_lt}
use Rattle.machine_spec.specs.Program.{Records}
use Rattle.machine_spec.specs.declared.variables.Store.{Store}
use Rattle.executions.specs.Ready.{ArePeopled, HasNoneFrom}
use Rattle.project_check.specs.Loaded.{program_of}
use Rattle.executions.proofs.Crew.{stopped}
use Rattle.executions.proofs.Keeping.{none_idle}
use Rattle.executions.proofs.People.{none_filtered, people_stopped}
use Rattle.executions.proofs.state.State.stop_all.Goals as goal

pub returns-clause-kept : goal.returns-clause-kept
returns-clause-kept g c =
    let s = c.args.self.now in
    let all : c.targets-targets.result ≡ length (program_of c.args.project.now).records.targets = c.targets-targets.ensures ∙ ap (λ (r : Records). length r.targets) c.records.ensures.records in
    none_idle c.args.project.now _ c.clear.ensures c.requires.few
    (subst (ArePeopled c.args.project.now s.next_instance) (sym (c.stop_all.ensures.new ∙ ap (λ n. stopped n s.targets) all)) (people_stopped c.args.project.now s.next_instance s.targets c.requires.people))
    (subst (HasNoneFrom s.next_instance) (sym c.stop_all-2.ensures.new) (λ n le. none_filtered (λ (x : Store). x.of == n) (λ (x : Store). not (not (nat_lt x.of c.targets-targets.result))) s.variables.stores (c.requires.free n le)))
