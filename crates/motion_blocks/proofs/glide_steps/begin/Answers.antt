-- A glide that lasts no time is over at once.
use Rattle.std.proofs.Common.{ap, sym, ◌∙◌}
use Rattle.machine_spec.specs.Stores.{less}
use Rattle.motion_blocks.proofs.Glides.{otherwise}
use Rattle.motion_blocks.proofs.glide_steps.begin.Goals as goal

pub returns-clause-ok : goal.returns-clause-ok
returns-clause-ok c = λ w. otherwise _ _ _ _ (sym (c.is_less.ensures ∙ ap (λ n. less n c.args.seconds) c.of_whole.ensures) ∙ c.if-is_less.false) (c.arrive.ensures.row w)
