-- The targets of the instance and of the stage have costumes, as all targets of a project have, and looks leave who is live and of which target.
use Rattle.std.proofs.Common.{length, refl, sym, subst}
use Rattle.std.specs.Prelude.{All}
use Rattle.machine_spec.specs.Program.{Records, stage_number}
use Rattle.machine_spec.specs.Stores.{instance_at}
use Rattle.target_records.specs.Costumes.{IsDressed}
use Rattle.project_check.specs.Loaded.{program_of}
use Rattle.looks_blocks.specs.Costumes.{HasCostumes}
use Rattle.executions.proofs.Clonable.{looks_clones}
use Rattle.executions.proofs.Dressed.{has_costumes, has_backdrops}
use Rattle.executions.proofs.state.State.apply_looks.Goals as goal

pub apply-requires-clause-costumes : goal.apply-requires-clause-costumes
apply-requires-clause-costumes g c =
    let s = c.args.self.now in
    let dressed : All IsDressed (program_of c.args.project.now).records.targets = subst (λ (r : Records). All IsDressed r.targets) c.records.ensures.records c.records.ensures.dressed in
    subst (λ (r : Records). HasCostumes r (instance_at c.args.here s.targets)) (sym c.records.ensures.records)
    (has_costumes c.args.project.now dressed s.next_instance s.targets c.requires.people c.args.here c.requires.live)

pub apply-requires-clause-backdrops : goal.apply-requires-clause-backdrops
apply-requires-clause-backdrops g c =
    let s = c.args.self.now in
    let dressed : All IsDressed (program_of c.args.project.now).records.targets = subst (λ (r : Records). All IsDressed r.targets) c.records.ensures.records c.records.ensures.dressed in
    subst (λ (r : Records). HasCostumes r (instance_at (stage_number r) s.targets)) (sym c.records.ensures.records)
    (has_backdrops c.args.project.now dressed s.next_instance s.targets c.requires.people c.args.here c.requires.live)

pub returns-in-Ok-clause-kept : goal.returns-in-Ok-clause-kept
returns-in-Ok-clause-kept g c = record {
  fits = c.in-Ok.ensures.fits;
  own = c.in-Ok.ensures.own;
  afresh = c.in-Ok.ensures.afresh;
  clones = looks_clones c.args.here (length (program_of c.args.project.now).records.targets) c.in-Ok.control c.in-Ok.ensures.starts;
  left = record {
    threads = refl;
    next_thread = refl;
    next_instance = refl;
    targets = c.apply.ensures.targets;
    one_each = λ h. c.apply.ensures.one_each;
    free = λ n e. e;
  };
}
