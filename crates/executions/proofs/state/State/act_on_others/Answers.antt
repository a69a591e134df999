-- Each control does what its own function does.
use Rattle.std.proofs.Common.{Ok, sym, ap, ◌∙◌}
use Rattle.machine_spec.specs.Outcome.{Goes}
use Rattle.machine_spec.specs.declared.threads.Control.TheVariants as control
use Rattle.machine_spec.specs.declared.threads.Report.TheVariants.{Ended}
use Rattle.executions.proofs.Beside.{acts_as}
use Rattle.executions.proofs.state.State.act_on_others.Goals as goal

pub returns-in-StopOthers : goal.returns-in-StopOthers
returns-in-StopOthers g c =
    acts_as g.R.Rng.stream c.args.project.now c.args.slot c.args.next.id c.args.control control.StopOthers c.args.self.now c.args.late c.in-StopOthers.is c.stop_others.result c.stop_others.new.self c.stop_others.ensures

pub returns-in-StopAll : goal.returns-in-StopAll
returns-in-StopAll g c =
    acts_as g.R.Rng.stream c.args.project.now c.args.slot c.args.next.id c.args.control control.StopAll c.args.self.now c.args.late c.in-StopAll.is (Ok Ended) c.stop_all.new.self (λ late. record {
      ok = λ t s rest found e. ap (λ x. Goes (record { world = x; report = Ended })) (sym c.stop_all.ensures.all);
      after = c.stop_all.ensures.kept.resting.kept;
      stop = λ t s rest found e. tt;
    })

pub returns-in-DeleteClone : goal.returns-in-DeleteClone
returns-in-DeleteClone g c =
    acts_as g.R.Rng.stream c.args.project.now c.args.slot c.args.next.id c.args.control control.DeleteClone c.args.self.now c.args.late c.in-DeleteClone.is c.delete_clone.result c.delete_clone.new.self c.delete_clone.ensures

pub returns-in-Start : goal.returns-in-Start
returns-in-Start g c =
    acts_as g.R.Rng.stream c.args.project.now c.args.slot c.args.next.id c.args.control (control.Start c.get.result.now c.in-Start.wait) c.args.self.now c.args.late (c.in-Start.is ∙ ap (λ h. control.Start h c.in-Start.wait) (sym c.get.ensures)) c.start_hats.result c.start_hats.new.self c.start_hats.ensures

pub returns-in-Clone : goal.returns-in-Clone
returns-in-Clone g c =
    acts_as g.R.Rng.stream c.args.project.now c.args.slot c.args.next.id c.args.control (control.Clone c.in-Clone.of) c.args.self.now c.args.late c.in-Clone.is c.make_clone.result c.make_clone.new.self c.make_clone.ensures
