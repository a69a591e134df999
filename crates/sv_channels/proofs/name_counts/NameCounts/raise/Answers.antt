use Rattle.sv_channels.proofs.Tallies.{kept_rose}
use Rattle.sv_channels.proofs.name_counts.NameCounts.raise.Goals as goal

-- a name that is kept counts once more
pub returns-in-Ok-clause-rose : goal.returns-in-Ok-clause-rose
returns-in-Ok-clause-rose c = kept_rose c.args.self.now c.keep.new.self c.args.name.now c.in-Ok.ensures.ok
