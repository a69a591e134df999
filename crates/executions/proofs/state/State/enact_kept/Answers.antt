-- The row and its control are those of the machine.
use Rattle.std.proofs.Common.{◌∙◌, sym}
use Rattle.machine_spec.specs.declared.threads.Context.{Context}
use Rattle.machine_spec.specs.declared.threads.Control.{Control}
use Rattle.machine_spec.specs.declared.threads.Report.{Report}
use Rattle.executions.proofs.Enacting.{one_ok, both_ok, stops_as}
use Rattle.executions.proofs.Rowing.{kept_stops, kept_at, kept_own_stops, kept_own_goes, kept_own_after, others_run, others_clones, others_so, runner_live}
use Rattle.executions.proofs.state.State.enact_kept.Goals as goal

pub apply-requires-clause-live : goal.apply-requires-clause-live
apply-requires-clause-live g c = runner_live g.R.Rng.stream c.args.project.now c.args.slot c.args.id c.args.late c.args.args.now c.args.runner.now c.args.self.now c.requires.at c.args.block.now c.requires.block

pub act_own-requires-clause-at : goal.act_own-requires-clause-at
act_own-requires-clause-at g c = kept_at g.R.Rng.stream c.args.project.now c.args.slot c.args.id c.args.late c.args.args.now c.args.runner.now c.args.self.now c.requires.at c.args.block.now c.requires.block c.take_context-context.result c.take_context-context.ensures.context c.take_context-context.new.self c.take_context-context.ensures.left c.apply.new.self c.in-Ok.control c.in-Ok.context c.in-Ok.ensures.ok c.in-Ok.ensures.kept.left

pub returns-then-is_own : goal.returns-then-is_own
returns-then-is_own g c = record {
  ok =
      both_ok c.act_own.result _ _ _
      (λ report moves room. kept_own_goes g.R.Rng.stream c.args.project.now c.args.slot c.args.id c.args.late c.args.args.now c.args.runner.now c.args.self.now c.requires.at c.args.block.now c.requires.block c.take_context-context.result c.take_context-context.ensures.context c.take_context-context.new.self c.take_context-context.ensures.left c.apply.new.self c.in-Ok.control c.in-Ok.context c.in-Ok.ensures.ok c.in-Ok.ensures.kept.left (sym c.is_own.ensures ∙ c.if-is_own.true) c.act_own.new.self c.act_own.ensures.others report moves room)
      c.act_own.ensures.at c.act_own.ensures.room;
  after =
      one_ok c.act_own.result _ _
      (λ report moves. kept_own_after g.R.Rng.stream c.args.project.now c.args.slot c.args.id c.args.late c.args.args.now c.args.runner.now c.args.self.now c.requires.at c.args.block.now c.requires.block c.take_context-context.result c.take_context-context.ensures.context c.take_context-context.new.self c.take_context-context.ensures.left c.apply.new.self c.in-Ok.control c.in-Ok.context c.in-Ok.ensures.ok c.in-Ok.ensures.kept.left (sym c.is_own.ensures ∙ c.if-is_own.true) c.act_own.new.self c.act_own.ensures.others report moves)
      c.act_own.ensures.at;
  stop =
      stops_as g.R.Rng.stream c.args.project.now c.args.slot c.args.id c.args.late c.args.args.now c.args.self.now c.act_own.result _
      (λ stop h. kept_own_stops g.R.Rng.stream c.args.project.now c.args.slot c.args.id c.args.late c.args.args.now c.args.runner.now c.args.self.now c.requires.at c.args.block.now c.requires.block c.take_context-context.result c.take_context-context.ensures.context c.take_context-context.new.self c.take_context-context.ensures.left c.apply.new.self c.in-Ok.control c.in-Ok.context c.in-Ok.ensures.ok c.in-Ok.ensures.kept.left (sym c.is_own.ensures ∙ c.if-is_own.true) Report Report stop h)
      c.act_own.ensures.stop;
}

pub act_apart-requires-clause-at : goal.act_apart-requires-clause-at
act_apart-requires-clause-at g c = others_run g.R.Rng.stream c.args.project.now c.args.slot c.args.id c.args.late c.args.args.now c.args.runner.now c.args.self.now c.requires.at c.args.block.now c.requires.block c.take_context-context.result c.take_context-context.ensures.context c.take_context-context.new.self c.take_context-context.ensures.left c.apply.new.self c.in-Ok.control c.in-Ok.context c.in-Ok.ensures.ok c.in-Ok.ensures.kept.left (c.in-Ok.ensures.kept.afresh (sym c.is_own.ensures ∙ c.if-is_own.false)) (c.in-Ok.ensures.kept.own (sym c.is_own.ensures ∙ c.if-is_own.false))

pub act_apart-requires-clause-clones : goal.act_apart-requires-clause-clones
act_apart-requires-clause-clones g c = others_clones g.R.Rng.stream c.args.project.now c.args.slot c.args.id c.args.late c.args.args.now c.args.runner.now c.args.self.now c.requires.at c.args.block.now c.requires.block c.take_context-context.result c.take_context-context.ensures.context c.take_context-context.new.self c.take_context-context.ensures.left c.apply.new.self c.in-Ok.control c.in-Ok.context c.in-Ok.ensures.ok c.in-Ok.ensures.kept.left (c.in-Ok.ensures.kept.afresh (sym c.is_own.ensures ∙ c.if-is_own.false)) (c.in-Ok.ensures.kept.own (sym c.is_own.ensures ∙ c.if-is_own.false)) c.in-Ok.ensures.kept.clones

pub returns-else-is_own : goal.returns-else-is_own
returns-else-is_own g c = others_so g.R.Rng.stream c.args.project.now c.args.slot c.args.id c.args.late c.args.args.now c.args.runner.now c.args.self.now c.requires.at c.args.block.now c.requires.block c.take_context-context.result c.take_context-context.ensures.context c.take_context-context.new.self c.take_context-context.ensures.left c.apply.new.self c.in-Ok.control c.in-Ok.context c.in-Ok.ensures.ok c.in-Ok.ensures.kept.left (c.in-Ok.ensures.kept.afresh (sym c.is_own.ensures ∙ c.if-is_own.false)) (c.in-Ok.ensures.kept.own (sym c.is_own.ensures ∙ c.if-is_own.false)) c.act_apart.result c.act_apart.new.runner c.act_apart.new.self c.act_apart.ensures

pub returns-in-Err : goal.returns-in-Err
returns-in-Err g c = record {
  ok = tt;
  after = tt;
  stop = kept_stops g.R.Rng.stream c.args.project.now c.args.slot c.args.id c.args.late c.args.args.now c.args.runner.now c.args.self.now c.requires.at c.args.block.now c.requires.block c.take_context-context.result c.take_context-context.ensures.context c.take_context-context.new.self c.take_context-context.ensures.left (Control × Context) Report c.in-Err.stop c.in-Err.ensures.stop;
}
