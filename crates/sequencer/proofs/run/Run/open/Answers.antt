-- The first world is legal.
use Rattle.std.proofs.Common.{subst, sym}
use Rattle.machine_spec.specs.Tasks.{Task}
use Rattle.machine_spec.specs.Words.{seen_words}
use Rattle.machine_spec.specs.World.{World}
use Rattle.laws_of_worlds.specs.Runs.{OpensLegal}
use Rattle.project_check.specs.Loaded.{program_of}
use Rattle.sequencer.proofs.run.Run.open.Goals as goal

pub returns-clause-legal : goal.returns-clause-legal
returns-clause-legal g c =
    let p = program_of c.args.project.now in
    let P : World Task → Type 0 = OpensLegal p in
    subst P (sym c.in_ok-state.ensures.world) (c.the_first_world_is_legal.ensures p (seen_words g.R.Rng.stream c.args.words))
