-- The value is that of the evaluated arguments.
use Rattle.std.proofs.Common.{Bool}
use Rattle.scratch_values.specs.Named.{Arguments}
use Rattle.machine_spec.specs.Words.{seen_words}
use Rattle.evaluate.specs.Seen.{seen}
use Rattle.frames.proofs.Valued.{valued-goes, valued-stops}
use Rattle.frames.proofs.edge_values.evaluate_hat.Goals as goal

pub returns-in-Ok-clause-ok : goal.returns-in-Ok-clause-ok
returns-in-Ok-clause-ok g c = λ s rest e.
    valued-goes (seen c.args.view.now) s (seen_words g.R.Rng.stream c.args.words.now) (seen_words g.R.Rng.stream c.inputs.new.words) c.in-Ok.args c.is_above.result c.is_above.ensures (c.in-Ok.ensures.ok s rest e)

pub returns-in-Err-clause-stop : goal.returns-in-Err-clause-stop
returns-in-Err-clause-stop g c = λ s rest e.
    valued-stops (seen c.args.view.now) s (seen_words g.R.Rng.stream c.args.words.now) Arguments Bool c.in-Err.stop (c.in-Err.ensures.stop s rest e)
