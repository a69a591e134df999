use Rattle.std.proofs.Common.{refl}
use Rattle.executions.proofs.Keeping.{idle_cast}
use Rattle.sequencer.proofs.flags.reset.Goals as goal

pub returns-clause-kept : goal.returns-clause-kept
returns-clause-kept g c =
    idle_cast c.args.project.now c.stop_all.new.self (record c.stop_all.new.self { targets = c.clear_edges.new.self; devices = c.reset_timer.new.self }) refl refl refl refl c.stop_all.ensures.kept c.clear_edges.ensures.kept
