-- The hat is still one of a listed instance.
use Rattle.std.proofs.Common.{refl, sym, subst}
use Rattle.hats.specs.Heads.{IsHeadOf}
use Rattle.executions.proofs.Keeping.{idle_cast}
use Rattle.frames.proofs.Passed.{heads-noted, listed-noted}
use Rattle.frames.proofs.edge_hats.record_value.Goals as goal

pub start_risen-requires-clause-edge : goal.start_risen-requires-clause-edge
start_risen-requires-clause-edge g c = listed-noted c.args.project.now c.args.state.now.targets c.args.edge.now c.args.value c.set_edge.new.self c.in-Ok.ensures.new c.requires.edge

pub start_risen-requires-clause-idle : goal.start_risen-requires-clause-idle
start_risen-requires-clause-idle g c = idle_cast c.args.project.now c.args.state.now (record c.args.state.now { targets = c.set_edge.new.self }) refl refl refl refl c.requires.idle c.in-Ok.ensures.kept

pub returns-in-Ok-clause-heads : goal.returns-in-Ok-clause-heads
returns-in-Ok-clause-heads g c = λ x h.
    subst (λ is. IsHeadOf c.args.project.now is x) (sym c.start_risen.ensures.cast)
    (heads-noted c.args.project.now c.args.state.now.targets c.args.edge.now c.args.value c.set_edge.new.self c.in-Ok.ensures.new x h)
