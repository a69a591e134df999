-- The copy is added, its hats are started as tasks are, and it is put behind its original.
use Rattle.std.proofs.Common.{◌≡◌, ℕ, List, false}
use Rattle.std.specs.Prelude.{◌==◌}
use Rattle.machine_spec.specs.Outcome.{last_number}
use Rattle.executions.proofs.Clones.{live_then, clone_goes, clone_runs, clone_kept, clone_stops}
use Rattle.executions.proofs.state.State.add_clone.Goals as goal

pub place_behind-requires : goal.place_behind-requires
place_behind-requires g c =
    let left : (c.args.self.now.next_instance == last_number) ≡ false = cc (c.is_spent.ensures, c.if-is_spent.false) in
    live_then g.R.Rng.stream c.args.project.now c.args.slot c.args.original c.args.self.now c.requires.ready left c.requires.live c.add_copy.new.self c.in-Ok.ensures

pub returns-in-Ok-start-clause-ok : goal.returns-in-Ok-start-clause-ok
returns-in-Ok-start-clause-ok g c =
    let left : (c.args.self.now.next_instance == last_number) ≡ false = cc (c.is_spent.ensures, c.if-is_spent.false) in
    clone_goes g.R.Rng.stream c.args.project.now c.args.slot c.args.original c.args.self.now c.requires.ready left c.requires.live c.add_copy.new.self c.in-Ok.ensures
    c.start.new.threads c.start.new.next c.in-Ok-start.field-0 (c.in-Ok-start.ensures.ok c.args.project.now c.hat_index.ensures) c.place_behind.new.self c.place_behind.ensures.new

pub returns-in-Ok-start-clause-runs : goal.returns-in-Ok-start-clause-runs
returns-in-Ok-start-clause-runs g c =
    let left : (c.args.self.now.next_instance == last_number) ≡ false = cc (c.is_spent.ensures, c.if-is_spent.false) in
    clone_runs g.R.Rng.stream c.args.project.now c.args.slot c.args.original c.args.self.now c.requires.ready left c.requires.live c.add_copy.new.self c.in-Ok.ensures
    c.start.new.threads c.start.new.next c.in-Ok-start.field-0 (c.in-Ok-start.ensures.ok c.args.project.now c.hat_index.ensures) c.place_behind.new.self

pub returns-in-Ok-start-clause-kept : goal.returns-in-Ok-start-clause-kept
returns-in-Ok-start-clause-kept g c =
    let left : (c.args.self.now.next_instance == last_number) ≡ false = cc (c.is_spent.ensures, c.if-is_spent.false) in
    clone_kept g.R.Rng.stream c.args.project.now c.args.slot c.args.original c.args.self.now c.requires.ready left c.requires.live c.add_copy.new.self c.in-Ok.ensures
    c.start.new.threads c.start.new.next c.in-Ok-start.field-0 (c.in-Ok-start.ensures.ok c.args.project.now c.hat_index.ensures) c.place_behind.new.self c.place_behind.ensures.new (c.in-Ok-start.ensures.fits c.args.project.now c.hat_index.ensures) c.in-Ok-start.ensures.few

pub returns-clause-stop : goal.returns-clause-stop
returns-clause-stop g c =
    let left : (c.args.self.now.next_instance == last_number) ≡ false = cc (c.is_spent.ensures, c.if-is_spent.false) in
    clone_stops g.R.Rng.stream c.args.project.now c.args.slot c.args.original c.args.self.now c.requires.ready left c.requires.live c.add_copy.new.self c.in-Ok.ensures
    (List ℕ) (Unit {0}) c.in-Err-start.stop (c.in-Err-start.ensures.stop c.args.project.now c.hat_index.ensures)
